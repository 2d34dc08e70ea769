use Rattle.std.specs.Io.KnownBytes.{Keeps}
use Rattle.wb_outside.proofs.streams.write_piece.Given as goal

-- an interrupted write left nothing
abbrev pub invariant-loop : goal.invariant-loop
invariant-loop g l = Keeps (g.W.Write.contents l.fn.writer) (g.W.Write.contents l.writer)

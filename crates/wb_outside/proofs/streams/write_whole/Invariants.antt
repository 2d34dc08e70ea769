use Rattle.std.proofs.Common.{◌≤◌, take, length}
use Rattle.std.specs.Io.KnownBytes.{Appends}
use Rattle.wb_outside.proofs.streams.write_whole.Given as goal

-- so many bytes of the piece are written
abbrev pub invariant-loop : goal.invariant-loop
invariant-loop g l = record {
  inside : l.done ≤ length l.piece;
  written : Appends (g.W.Write.contents l.fn.writer) (g.W.Write.contents l.writer) (take l.done l.piece);
}

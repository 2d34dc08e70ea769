use Rattle.std.proofs.Common.{◌≡◌, length}
use Rattle.std.specs.Io.KnownBytes.{Keeps}
use Rattle.wb_outside.proofs.streams.read_piece.Given as goal

-- an interrupted read took nothing
abbrev pub invariant-loop : goal.invariant-loop
invariant-loop g l = record {
  long : length l.piece ≡ length l.fn.piece;
  keeps : Keeps (g.R.Read.remaining l.fn.reader) (g.R.Read.remaining l.reader);
}

use Rattle.std.proofs.Common.{◌≡◌, ◌≤◌, ◌+◌, length}
use Rattle.std.specs.Io.KnownBytes.{Consumes}
use Rattle.wb_outside.proofs.streams.read_limited.Given as goal

-- the reader gave these bytes so far, and no more than it may give
abbrev pub invariant-loop : goal.invariant-loop
invariant-loop g l = record {
  bounded : length l.bytes.items ≤ l.limit + 1;
  taken : Consumes (g.R.Read.remaining l.fn.reader) (g.R.Read.remaining l.reader) l.bytes.items;
  long : length l.piece ≡ 16384;
}

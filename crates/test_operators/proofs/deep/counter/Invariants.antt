use Rattle.std.proofs.Common.{◌≡◌, ◌<◌, [], length}
use Rattle.test_operators.proofs.deep.counter.Given as goal

abbrev pub invariant-loop : goal.invariant-loop
invariant-loop l = record {
  names : l.terms.names ≡ [];
  one : l.one.0 < length l.terms.nodes;
  last : l.last.0 < length l.terms.nodes;
}

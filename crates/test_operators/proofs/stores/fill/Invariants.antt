use Rattle.std.proofs.Common.{◌≡◌}
use Rattle.test_operators.proofs.stores.fill.Given as goal

abbrev pub invariant-loop-piece : goal.invariant-loop-piece
invariant-loop-piece l = record {
  ready : (goal.iterator-loop-piece).can_next l.piece-iterator;
  ends : (goal.iterator-loop-piece).is_finite l.piece-iterator;
  same : l.terms.names ≡ l.initial.terms.names;
}

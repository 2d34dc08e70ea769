use Rattle.v_operators.specs.Meaning.{Grows}
use Rattle.v_value.specs.Scope.{scope_at}
use Rattle.v_lower.specs.Table.{images_at}
use Rattle.v_masks.specs.Masks.{masked}
use Rattle.v_order.specs.Lists.{statements_in}
use Rattle.v_settle.specs.Turns.{state_of, HasVisits}
use Rattle.v_settle.proofs.turn.pass.Given as goal

abbrev pub invariant-loop-index : goal.invariant-loop-index
invariant-loop-index l = record {
  grows : Grows l.initial.terms l.terms;
  visits : HasVisits (scope_at l.scope) (statements_in l.drivers)
      (state_of (images_at l.initial.table) (images_at l.initial.spare) l.initial.terms (masked l.initial.unsettled))
      (state_of (images_at l.table) (images_at l.spare) l.terms (masked l.unsettled));
}

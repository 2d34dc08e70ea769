use Rattle.std.specs.Prelude.{map}
use Rattle.v_syntax.specs.Source.{item_of}
use Rattle.v_operators.specs.Meaning.{Grows}
use Rattle.v_value.specs.Scope.{scope_at}
use Rattle.v_lower.specs.Table.{images_at}
use Rattle.v_masks.specs.Masks.{masked}
use Rattle.v_settle.specs.Turns.{state_of, IsOpen}
use Rattle.v_settle.proofs.Ending.{IsOnward}
use Rattle.v_settle.proofs.turn.turns.Given as goal

abbrev pub invariant-loop : goal.invariant-loop
invariant-loop l = record {
  grows : Grows l.initial.terms l.terms;
  opens : IsOpen (scope_at l.scope) (state_of (images_at l.table) (images_at l.spare) l.terms (masked l.unsettled));
  way : IsOnward (scope_at l.scope) (map item_of l._items)
      (state_of (images_at l.initial.table) (images_at l.initial.spare) l.initial.terms (masked l.initial.unsettled))
      (state_of (images_at l.table) (images_at l.spare) l.terms (masked l.unsettled)) l.counter;
}

use Rattle.std.proofs.Common.{drop}
use Rattle.v_operators.specs.Meaning.{Grows}
use Rattle.v_value.specs.Scope.{scope_at}
use Rattle.v_lower.specs.Table.{images_at}
use Rattle.v_masks.specs.Masks.{masked}
use Rattle.v_order.specs.Lists.{drivings_in, statements_in}
use Rattle.v_loops.specs.Turns.{AreFitToRun}
use Rattle.v_settle.specs.Drivers.{AreSoundDrivings}
use Rattle.v_settle.specs.Turns.{state_of, IsOpen}
use Rattle.v_settle.proofs.Walks.{IsLeftToVisit}
use Rattle.v_settle.proofs.turn.turn.Given as goal

abbrev pub invariant-loop-driver : goal.invariant-loop-driver
invariant-loop-driver l = record {
  grows : Grows l.initial.terms l.terms;
  opens : IsOpen (scope_at l.scope) (state_of (images_at l.table) (images_at l.spare) l.terms (masked l.unsettled));
  sound : AreSoundDrivings (scope_at l.scope) (drivings_in (drop l.driver-index l.drivers));
  fit : AreFitToRun (scope_at l.scope) (statements_in (drop l.driver-index l.drivers));
  left : IsLeftToVisit (scope_at l.scope) (statements_in l.drivers) (statements_in (drop l.driver-index l.drivers))
      (state_of (images_at l.initial.table) (images_at l.initial.spare) l.initial.terms (masked l.initial.unsettled))
      (state_of (images_at l.table) (images_at l.spare) l.terms (masked l.unsettled));
}

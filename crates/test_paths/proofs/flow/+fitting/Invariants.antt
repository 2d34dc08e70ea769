use Rattle.std.proofs.Common.{drop}
use Rattle.v_value.specs.Scope.{scope_at}
use Rattle.v_flow.specs.Flow.{AreNarrowLadder, AreNarrowAll, AreNarrowItems}
use Rattle.test_paths.proofs.flow.+fitting.Given as goal

abbrev pub invariant-all_fit-loop-statement : goal.invariant-all_fit-loop-statement
invariant-all_fit-loop-statement l =
    AreNarrowAll (scope_at l.names.scope.now) (drop l.statement-index l.statements) → AreNarrowAll (scope_at l.names.scope.now) l.statements

abbrev pub invariant-arms_fit-loop-arm : goal.invariant-arms_fit-loop-arm
invariant-arms_fit-loop-arm l =
    AreNarrowLadder (scope_at l.names.scope.now) (drop l.arm-index l.arms) → AreNarrowLadder (scope_at l.names.scope.now) l.arms

abbrev pub invariant-items_fit-loop-item : goal.invariant-items_fit-loop-item
invariant-items_fit-loop-item l =
    AreNarrowItems (scope_at l.names.scope.now) (drop l.item-index l.items) → AreNarrowItems (scope_at l.names.scope.now) l.items

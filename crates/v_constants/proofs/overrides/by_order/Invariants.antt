use Rattle.std.proofs.Common.{drop, map}
use Rattle.v_value.specs.Scope.{scope_at}
use Rattle.v_syntax.specs.Source.{optional_tree_of}
use Rattle.v_constants.specs.Given.{has_name, IsGathered, ordered_given}
use Rattle.v_constants.proofs.Gathered.{names_of}
use Rattle.v_constants.proofs.overrides.by_order.Given as goal

abbrev pub invariant-loop-i : goal.invariant-loop-i
invariant-loop-i l =
    IsGathered (has_name l.met) l.list.items (ordered_given (scope_at l.around.scope.now) (map optional_tree_of (drop l.i l.values)) (names_of (drop l.i l.names)))
    (ordered_given (scope_at l.around.scope.now) (map optional_tree_of l.values) (names_of l.names))

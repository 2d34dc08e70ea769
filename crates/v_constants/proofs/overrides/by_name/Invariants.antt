use Rattle.std.proofs.Common.{drop}
use Rattle.v_value.specs.Scope.{scope_at}
use Rattle.v_constants.specs.Given.{has_name, IsGathered, named_given}
use Rattle.v_constants.proofs.Gathered.{by_names}
use Rattle.v_constants.proofs.overrides.by_name.Given as goal

abbrev pub invariant-loop-each : goal.invariant-loop-each
invariant-loop-each l =
    IsGathered (has_name l.met) l.list.items (named_given (scope_at l.around.scope.now) (by_names (drop l.each-index l.connections))) (named_given (scope_at l.around.scope.now) (by_names l.connections))

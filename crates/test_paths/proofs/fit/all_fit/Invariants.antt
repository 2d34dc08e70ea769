use Rattle.std.proofs.Common.{drop}
use Rattle.v_syntax.specs.Tree.{expressions_of}
use Rattle.v_value.specs.Scope.{scope_at}
use Rattle.v_value.specs.Narrow.{AreNarrow}
use Rattle.test_paths.proofs.fit.all_fit.Given as goal

abbrev pub invariant-loop-label : goal.invariant-loop-label
invariant-loop-label l =
    AreNarrow (scope_at l.names.scope.now) (expressions_of (drop l.label-index l.labels)) → AreNarrow (scope_at l.names.scope.now) (expressions_of l.labels)

use Rattle.v_syntax.specs.Tree.{tree_of}
use Rattle.v_value.specs.Scope.{scope_at}
use Rattle.v_paths.proofs.Labels.{default-full, wild-full, exact-full}
use Rattle.v_paths.proofs.full.is_full.Goals as goal

pub returns-then-has_default : goal.returns-then-has_default
returns-then-has_default c =
    default-full (scope_at c.args.scope.now) c.args.kind (tree_of c.args.value.now) c.args.items.now c.has_default.result c.has_default.ensures c.if-has_default.true

pub returns-in-Wild : goal.returns-in-Wild
returns-in-Wild c =
    wild-full (scope_at c.args.scope.now) c.args.kind (tree_of c.args.value.now) c.args.items.now c.has_default.result c.in-Wild.is c.has_default.ensures c.if-has_default.false

pub returns-in_ok-all-in-Exact : goal.returns-in_ok-all-in-Exact
returns-in_ok-all-in-Exact c =
    exact-full (scope_at c.args.scope.now) c.args.kind (tree_of c.args.value.now) c.args.items.now c.has_default.result _ c.in-Exact.is c.has_default.ensures c.if-has_default.false
    c.in_ok-all-in-Exact.ensures

use Rattle.std.proofs.Common.{subst, sym, arith}
use Rattle.std.proofs.lemmas.Bool.{false≢true}
use Rattle.std.proofs.lemmas.List.{drop_all}
use Rattle.v_syntax.specs.Tree.{expressions_of}
use Rattle.v_value.specs.Scope.{scope_at}
use Rattle.v_value.specs.Narrow.{AreNarrow}
use Rattle.v_statement.proofs.Runs.{rest_is}
use Rattle.test_paths.proofs.fit.all_fit.Goals as goal

pub loop-label-init : goal.loop-label-init
loop-label-init c = λ h. h

pub loop-label-preserved : goal.loop-label-preserved
loop-label-preserved c = λ h.
    c.loop-label.invariant
    (subst (λ ys. AreNarrow (scope_at c.args.names.scope.now) (expressions_of ys)) (sym (rest_is c.args.labels.now c.loop-label.label-index c.label-item.result (omega arith) c.label-item.is))
    (c.is_narrow.ensures.narrow c.if-not-is_narrow.false, h))

pub returns-then-not-is_narrow : goal.returns-then-not-is_narrow
returns-then-not-is_narrow c = λ t. absurd (false≢true t)

pub returns : goal.returns
returns c = λ t.
    c.loop-label.invariant
    (subst (λ ys. AreNarrow (scope_at c.args.names.scope.now) (expressions_of ys)) (sym (drop_all c.loop-label.label-index c.args.labels.now c.loop-label-test.false)) tt)

use Rattle.std.proofs.Common.{sym, subst, None}
use Rattle.v_syntax.specs.declared.tree.Arm.{Arm}
use Rattle.v_syntax.specs.declared.tree.Statement.{Empty}
use Rattle.v_syntax.specs.Tree.{statement_of}
use Rattle.v_statement.specs.Statements.{IsNarrowStatement}
use Rattle.v_statement.proofs.Runs.{statement_of-If}
use Rattle.test_values.proofs.Ladders.{AreSmallArms, one_more_arm}
use Rattle.test_values.proofs.ladder.ladder.Goals as goal

pub loop-preserved : goal.loop-preserved
loop-preserved c =
    subst AreSmallArms (sym c.in_ok-push.ensures.items)
    (one_more_arm c.loop.arms.items (record { condition = c.number.result; statement = Empty }) c.loop.invariant c.number.ensures (λ s o. tt))

pub returns : goal.returns
returns c = λ s o.
    let last : Arm = record { condition = c.number-2.result; statement = c.in_ok-last.last } in
    let arms = subst AreSmallArms (sym c.in_ok-push-2.ensures.items) (one_more_arm c.loop.arms.items last c.loop.invariant c.number-2.ensures c.in_ok-last.ensures) in
    let whole = subst (IsNarrowStatement s) (sym (statement_of-If c.push-2.new.self None)) (arms s None o tt) in
    subst (λ x. IsNarrowStatement s (statement_of x)) (sym c.in_ok-whole.ensures.ok) whole

use Rattle.std.proofs.Common.{◌∙◌, ap}
use Rattle.verilog_meaning.specs.Expression.{sign_of}
use Rattle.v_value.specs.Scope.{scope_at}
use Rattle.v_syntax.specs.Tree.{tree_of}
use Rattle.v_value.proofs.Signs.{sign-Prefix, sign-Binary, sign-Test, sign-Conditional}
use Rattle.v_value.proofs.sign.+sign.Goals as goal

pub sign_of-returns-in-Prefix : goal.sign_of-returns-in-Prefix
sign_of-returns-in-Prefix t c =
    let s = scope_at c.args.scope.now in
    let e = ap (λ x. sign_of s (tree_of x)) c.in-Prefix.is ∙ sign-Prefix s c.in-Prefix.operators c.in-Prefix.operand in
    cc e

pub sign_of-returns-in-Binary : goal.sign_of-returns-in-Binary
sign_of-returns-in-Binary t c =
    let s = scope_at c.args.scope.now in
    let e = ap (λ x. sign_of s (tree_of x)) c.in-Binary.is ∙ sign-Binary s c.in-Binary.first c.in-Binary.links in
    cc e

pub sign_of-returns-in-Test : goal.sign_of-returns-in-Test
sign_of-returns-in-Test t c =
    let s = scope_at c.args.scope.now in
    let e = ap (λ x. sign_of s (tree_of x)) c.in-Test.is ∙ sign-Test s c.in-Test.first c.in-Test.links in
    cc e

pub sign_of-returns-in-Conditional : goal.sign_of-returns-in-Conditional
sign_of-returns-in-Conditional t c =
    let s = scope_at c.args.scope.now in
    let e = ap (λ x. sign_of s (tree_of x)) c.in-Conditional.is ∙ sign-Conditional s c.in-Conditional.choices c.in-Conditional.last in
    cc e

use Rattle.std.proofs.Common.{◌∙◌, ap, arith}
use Rattle.std.specs.Prelude.{◌&&◌}
use Rattle.v_value.specs.Scope.{scope_at}
use Rattle.v_statement.proofs.Runs.{rest_is}
use Rattle.v_depend.specs.Copying.{has_none, parts_plain}
use Rattle.v_flow.proofs.Constants.{stops}
use Rattle.v_depend.proofs.Forms as form
use Rattle.v_depend.proofs.plain.+plain.Goals as goal

pub is_plain-returns-in-Number : goal.is_plain-returns-in-Number
is_plain-returns-in-Number t c = form.plain-Number (scope_at c.args.scope.now) c.args.expression.now c.in-Number.field-0 c.in-Number.is

pub is_plain-returns-in-Name : goal.is_plain-returns-in-Name
is_plain-returns-in-Name t c = c.are_constant_selects.ensures ∙ form.plain-Name (scope_at c.args.scope.now) c.args.expression.now c.in-Name.field-0 c.in-Name.selects c.in-Name.is

pub is_plain-returns-in-Concatenation : goal.is_plain-returns-in-Concatenation
is_plain-returns-in-Concatenation t c = c.are_plain.ensures ∙ form.plain-Concatenation (scope_at c.args.scope.now) c.args.expression.now c.in-Concatenation.parts c.in-Concatenation.is c.deref.result.now c.deref.ensures.value

pub is_plain-returns-in-Replication : goal.is_plain-returns-in-Replication
is_plain-returns-in-Replication t c = c.are_plain-in-Replication.ensures ∙ form.plain-Replication (scope_at c.args.scope.now) c.args.expression.now c.in-Replication.field-0 c.in-Replication.parts c.in-Replication.is c.deref-in-Replication.result.now c.deref-in-Replication.ensures.value

pub is_plain-returns-in-AsSigned : goal.is_plain-returns-in-AsSigned
is_plain-returns-in-AsSigned t c = form.plain-AsSigned (scope_at c.args.scope.now) c.args.expression.now c.in-AsSigned.field-0 c.in-AsSigned.is

pub is_plain-returns-in-AsUnsigned : goal.is_plain-returns-in-AsUnsigned
is_plain-returns-in-AsUnsigned t c = form.plain-AsUnsigned (scope_at c.args.scope.now) c.args.expression.now c.in-AsUnsigned.field-0 c.in-AsUnsigned.is

pub is_plain-returns-in-Prefix : goal.is_plain-returns-in-Prefix
is_plain-returns-in-Prefix t c = c.prefixed.ensures ∙ ap (λ z. has_none c.deref-in-Prefix.result.now && z) c.is_plain.ensures ∙ form.plain-Prefix (scope_at c.args.scope.now) c.args.expression.now c.in-Prefix.operators c.in-Prefix.operand c.in-Prefix.is c.deref-in-Prefix-2.result.now c.deref-in-Prefix-2.ensures c.deref-in-Prefix.result.now c.deref-in-Prefix.ensures.value

pub is_plain-returns-in-Binary : goal.is_plain-returns-in-Binary
is_plain-returns-in-Binary t c = c.linked.ensures ∙ ap (λ z. has_none c.deref-in-Binary.result.now && z) c.is_plain-in-Binary.ensures ∙ form.plain-Binary (scope_at c.args.scope.now) c.args.expression.now c.in-Binary.first c.in-Binary.links c.in-Binary.is c.deref-in-Binary-2.result.now c.deref-in-Binary-2.ensures c.deref-in-Binary.result.now c.deref-in-Binary.ensures.value

pub is_plain-returns-in-Test : goal.is_plain-returns-in-Test
is_plain-returns-in-Test t c = c.tested.ensures ∙ ap (λ z. has_none c.deref-in-Test.result.now && z) c.is_plain-in-Test.ensures ∙ form.plain-Test (scope_at c.args.scope.now) c.args.expression.now c.in-Test.first c.in-Test.links c.in-Test.is c.deref-in-Test-2.result.now c.deref-in-Test-2.ensures c.deref-in-Test.result.now c.deref-in-Test.ensures.value

pub is_plain-returns-in-Conditional : goal.is_plain-returns-in-Conditional
is_plain-returns-in-Conditional t c = c.chosen.ensures ∙ ap (λ z. has_none c.deref-in-Conditional.result.now && z) c.is_plain-in-Conditional.ensures ∙ form.plain-Conditional (scope_at c.args.scope.now) c.args.expression.now c.in-Conditional.choices c.in-Conditional.last c.in-Conditional.is c.deref-in-Conditional-2.result.now c.deref-in-Conditional-2.ensures c.deref-in-Conditional.result.now c.deref-in-Conditional.ensures.value

pub are_plain-returns-then-not-is_plain : goal.are_plain-returns-then-not-is_plain
are_plain-returns-then-not-is_plain t c =
    let s = (scope_at c.args.scope.now) in
    let xs = c.args.parts.now in
    let i = c.loop-part.part-index in
    let all = c.loop-part.invariant ∙ ap (parts_plain s) (rest_is xs i c.part-item.result (omega arith) c.part-item.is) in
    stops _ _ _ _ all c.is_plain.ensures c.if-not-is_plain.true

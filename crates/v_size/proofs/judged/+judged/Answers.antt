use Rattle.std.proofs.Common.{◌∙◌, ap, sym, rules}
use Rattle.v_syntax.specs.declared.tree.BinaryOperator.TheVariants.{Power, ShiftLeft, ShiftRight, ArithmeticShiftRight, Divide, Modulo}
use Rattle.v_syntax.specs.declared.tree.Expression.{the_lemmas}
use Rattle.v_syntax.specs.Tree.{tree_of}
use Rattle.v_value.specs.Scope.{object_of, scope_at}
use Rattle.v_size.specs.declared.rule.Position.TheVariants.{Anywhere, Constant}
use Rattle.v_size.specs.Rule.{number_at}
use Rattle.v_size.specs.Judged.{judged_at, taken_by}
use Rattle.v_size.proofs.Arms as arms
use Rattle.v_size.proofs.Named as named
use Rattle.v_size.proofs.Steps as steps
use Rattle.v_size.proofs.judged.+judged.Goals as goal

pub judge-returns-in-Number : goal.judge-returns-in-Number
judge-returns-in-Number t c =
    arms.at-Number (scope_at c.args.names.scope.now) c.args.place c.args.expression.now c.number_judged.result c.in-Number.number c.in-Number.is c.number_judged.ensures

pub judge-returns-in-Name : goal.judge-returns-in-Name
judge-returns-in-Name t c =
    arms.at-Name (scope_at c.args.names.scope.now) c.args.place c.args.expression.now c.named.result c.in-Name.name c.in-Name.selects c.in-Name.is (object_of c.object.result) c.object.ensures c.named.ensures

pub judge-returns-in-Concatenation : goal.judge-returns-in-Concatenation
judge-returns-in-Concatenation t c =
    arms.at-Concatenation (scope_at c.args.names.scope.now) c.args.place c.args.expression.now c.joined.result c.in-Concatenation.parts c.in-Concatenation.is c.deref.result.now c.deref.ensures.value c.parts_judged.result c.parts_judged.ensures c.joined.ensures

pub judge-returns-in-Replication : goal.judge-returns-in-Replication
judge-returns-in-Replication t c =
    arms.at-Replication (scope_at c.args.names.scope.now) c.args.place c.args.expression.now c.repeated.result c.in-Replication.count c.in-Replication.parts c.in-Replication.is
    c.deref-in-Replication.result.now c.deref-in-Replication.ensures c.deref-in-Replication-2.result.now c.deref-in-Replication-2.ensures.value
    c.judged_constant.result.broken c.judged_constant.ensures.broken (number_at c.judged_constant.result.number) c.judged_constant.ensures.number
    c.parts_judged-in-Replication.result c.parts_judged-in-Replication.ensures c.repeated.ensures

pub judge-returns-in-AsSigned : goal.judge-returns-in-AsSigned
judge-returns-in-AsSigned t c =
    arms.at-AsSigned (scope_at c.args.names.scope.now) c.args.place c.args.expression.now c.regarded.result c.in-AsSigned.operand c.deref-in-AsSigned.result.now c.deref-in-AsSigned.ensures c.by_itself.result c.by_itself.ensures c.regarded.ensures c.in-AsSigned.is

pub judge-returns-in-AsUnsigned : goal.judge-returns-in-AsUnsigned
judge-returns-in-AsUnsigned t c =
    arms.at-AsUnsigned (scope_at c.args.names.scope.now) c.args.place c.args.expression.now c.regarded-in-AsUnsigned.result c.in-AsUnsigned.operand c.deref-in-AsUnsigned.result.now c.deref-in-AsUnsigned.ensures c.by_itself-in-AsUnsigned.result c.by_itself-in-AsUnsigned.ensures c.regarded-in-AsUnsigned.ensures c.in-AsUnsigned.is

pub judge-returns-in-Prefix : goal.judge-returns-in-Prefix
judge-returns-in-Prefix t c =
    arms.at-Prefix (scope_at c.args.names.scope.now) c.args.place c.args.expression.now c.prefixed.result c.in-Prefix.operand c.deref-in-Prefix.result.now c.deref-in-Prefix.ensures c.in-Prefix.operators c.in-Prefix.is c.deref-in-Prefix-2.result.now c.deref-in-Prefix-2.ensures.value c.prefixed.ensures

pub judge-returns-in-Binary : goal.judge-returns-in-Binary
judge-returns-in-Binary t c =
    arms.at-Binary (scope_at c.args.names.scope.now) c.args.place c.args.expression.now c.links_judged.result c.in-Binary.first c.deref-in-Binary-2.result.now c.deref-in-Binary-2.ensures c.judge.result c.judge.ensures c.in-Binary.links c.in-Binary.is c.deref-in-Binary.result.now c.deref-in-Binary.ensures.value c.links_judged.ensures

pub judge-returns-in-Test : goal.judge-returns-in-Test
judge-returns-in-Test t c =
    arms.at-Test (scope_at c.args.names.scope.now) c.args.place c.args.expression.now c.tests_judged.result c.in-Test.first c.in-Test.links c.in-Test.is
    c.deref-in-Test.result.now c.deref-in-Test.ensures c.judge-own.result c.judge-own.ensures c.deref-in-Test-2.result.now c.deref-in-Test-2.ensures c.operand_sign-signed.result c.operand_sign-signed.ensures
    c.deref-in-Test-3.result.now c.deref-in-Test-3.ensures.value c.first_place-first_place.result c.first_place-first_place.ensures
    c.deref-in-Test-4.result.now c.deref-in-Test-4.ensures c.in_place-judged.result c.in_place-judged.ensures c.deref-in-Test-5.result.now c.deref-in-Test-5.ensures.value c.tests_judged.ensures

pub judge-returns-in-Conditional : goal.judge-returns-in-Conditional
judge-returns-in-Conditional t c =
    arms.at-Conditional (scope_at c.args.names.scope.now) c.args.place c.args.expression.now c.choices_judged.result c.in-Conditional.last c.deref-in-Conditional-2.result.now c.deref-in-Conditional-2.ensures c.judge-in-Conditional.result c.judge-in-Conditional.ensures c.in-Conditional.choices c.in-Conditional.is c.deref-in-Conditional.result.now c.deref-in-Conditional.ensures.value c.choices_judged.ensures

pub named-returns-in-Whole : goal.named-returns-in-Whole
named-returns-in-Whole t c =
    named.at-Whole (scope_at c.args.names.scope.now) c.args.place (object_of c.args.object) c.args.selects.now c.by_name-own.result c.by_name-own.ensures c.whole_judged.result c.in-Whole.is c.whole_judged.ensures

pub named-returns-in-One : goal.named-returns-in-One
named-returns-in-One t c =
    named.at-One (scope_at c.args.names.scope.now) c.args.place (object_of c.args.object) c.args.selects.now c.by_name-own.result c.by_name-own.ensures c.one_judged.result c.in-One.select c.in-One.is c.selected.result c.selected.ensures.broken c.selected.ensures.bits c.one_judged.ensures

pub named-returns-in-Two : goal.named-returns-in-Two
named-returns-in-Two t c =
    named.at-Two (scope_at c.args.names.scope.now) c.args.place (object_of c.args.object) c.args.selects.now c.by_name-own.result c.by_name-own.ensures c.two_judged.result c.in-Two.first c.in-Two.second c.in-Two.is c.selected-in-Two.result.broken c.selected-in-Two.ensures.broken c.selected-in-Two-2.result c.selected-in-Two-2.ensures.broken c.selected-in-Two-2.ensures.bits c.two_judged.ensures

pub selected-returns-in-Index-clause-broken : goal.selected-returns-in-Index-clause-broken
selected-returns-in-Index-clause-broken t c =
    arms.at-Index-broken (scope_at c.args.names.scope.now) c.args.place c.args.select.now c.one_taken.result.broken (taken_by c.one_taken.result.bits) c.in-Index.index c.in-Index.is c.deref.result.now c.deref.ensures c.by_itself.result c.by_itself.ensures c.one_taken.ensures.broken

pub selected-returns-in-Index-clause-bits : goal.selected-returns-in-Index-clause-bits
selected-returns-in-Index-clause-bits t c =
    arms.at-Index-taken (scope_at c.args.names.scope.now) c.args.place c.args.select.now c.one_taken.result.broken (taken_by c.one_taken.result.bits) c.in-Index.index c.in-Index.is c.one_taken.ensures.bits

pub selected-returns-in-Part-clause-broken : goal.selected-returns-in-Part-clause-broken
selected-returns-in-Part-clause-broken t c =
    arms.at-Part-broken (scope_at c.args.names.scope.now) c.args.place c.args.select.now c.between.result.broken (taken_by c.between.result.bits) c.in-Part.left c.in-Part.right c.deref-in-Part.result.now c.deref-in-Part-2.result.now c.deref-in-Part.ensures c.deref-in-Part-2.ensures c.judged_constant.result.broken c.judged_constant-in-Part.result.broken c.judged_constant.ensures.broken c.judged_constant-in-Part.ensures.broken c.in-Part.is c.between.ensures.broken

pub selected-returns-in-Part-clause-bits : goal.selected-returns-in-Part-clause-bits
selected-returns-in-Part-clause-bits t c =
    arms.at-Part-taken (scope_at c.args.names.scope.now) c.args.place c.args.select.now c.between.result.broken (taken_by c.between.result.bits) c.in-Part.left c.in-Part.right c.deref-in-Part.result.now c.deref-in-Part-2.result.now c.deref-in-Part.ensures c.deref-in-Part-2.ensures (number_at c.judged_constant.result.number) (number_at c.judged_constant-in-Part.result.number) c.judged_constant.ensures.number c.judged_constant-in-Part.ensures.number c.in-Part.is c.between.ensures.bits

pub selected-returns-in-PartUp-clause-broken : goal.selected-returns-in-PartUp-clause-broken
selected-returns-in-PartUp-clause-broken t c =
    arms.at-PartUp-broken (scope_at c.args.names.scope.now) c.args.place c.args.select.now c.many_taken.result.broken (taken_by c.many_taken.result.bits) c.in-PartUp.base c.in-PartUp.count c.deref-in-PartUp.result.now c.deref-in-PartUp-2.result.now c.deref-in-PartUp.ensures c.deref-in-PartUp-2.ensures (number_at c.judged_constant-in-PartUp.result.number) c.judged_constant-in-PartUp.ensures.number c.by_itself-in-PartUp.result c.by_itself-in-PartUp.ensures c.judged_constant-in-PartUp.result.broken c.judged_constant-in-PartUp.ensures.broken c.many_taken.ensures.broken c.in-PartUp.is

pub selected-returns-in-PartUp-clause-bits : goal.selected-returns-in-PartUp-clause-bits
selected-returns-in-PartUp-clause-bits t c =
    arms.at-PartUp-taken (scope_at c.args.names.scope.now) c.args.place c.args.select.now c.many_taken.result.broken (taken_by c.many_taken.result.bits) c.in-PartUp.base c.in-PartUp.count c.deref-in-PartUp.result.now c.deref-in-PartUp-2.result.now c.deref-in-PartUp.ensures c.deref-in-PartUp-2.ensures (number_at c.judged_constant-in-PartUp.result.number) c.judged_constant-in-PartUp.ensures.number c.in-PartUp.is c.many_taken.ensures.bits

pub selected-returns-in-PartDown-clause-broken : goal.selected-returns-in-PartDown-clause-broken
selected-returns-in-PartDown-clause-broken t c =
    arms.at-PartDown-broken (scope_at c.args.names.scope.now) c.args.place c.args.select.now c.many_taken-in-PartDown.result.broken (taken_by c.many_taken-in-PartDown.result.bits) c.in-PartDown.base c.in-PartDown.count c.deref-in-PartDown.result.now c.deref-in-PartDown-2.result.now c.deref-in-PartDown.ensures c.deref-in-PartDown-2.ensures (number_at c.judged_constant-in-PartDown.result.number) c.judged_constant-in-PartDown.ensures.number c.by_itself-in-PartDown.result c.by_itself-in-PartDown.ensures c.judged_constant-in-PartDown.result.broken c.judged_constant-in-PartDown.ensures.broken c.many_taken-in-PartDown.ensures.broken c.in-PartDown.is

pub selected-returns-in-PartDown-clause-bits : goal.selected-returns-in-PartDown-clause-bits
selected-returns-in-PartDown-clause-bits t c =
    arms.at-PartDown-taken (scope_at c.args.names.scope.now) c.args.place c.args.select.now c.many_taken-in-PartDown.result.broken (taken_by c.many_taken-in-PartDown.result.bits) c.in-PartDown.base c.in-PartDown.count c.deref-in-PartDown.result.now c.deref-in-PartDown-2.result.now c.deref-in-PartDown.ensures c.deref-in-PartDown-2.ensures (number_at c.judged_constant-in-PartDown.result.number) c.judged_constant-in-PartDown.ensures.number c.in-PartDown.is c.many_taken-in-PartDown.ensures.bits

pub judge-in_place-judged-requires : goal.judge-in_place-judged-requires
judge-in_place-judged-requires t c =
    (search (rules, the_lemmas), c.judge-own.ensures ∙ ap (λ z. judged_at (scope_at c.args.names.scope.now) Anywhere (tree_of z)) (c.deref-in-Test.ensures ∙ sym c.deref-in-Test-4.ensures))

pub by_itself-in_place-requires : goal.by_itself-in_place-requires
by_itself-in_place-requires t c =
    (search (rules, the_lemmas), c.judge-own.ensures)

pub by_itself-returns : goal.by_itself-returns
by_itself-returns t c =
    steps.itself-by (scope_at c.args.names.scope.now) (tree_of c.args.expression.now) c.judge-own.result c.judge-own.ensures c.operand_sign-signed.result c.operand_sign-signed.ensures c.args.place c.own_place.result c.own_place.ensures c.in_place.result c.in_place.ensures

pub tested-in_place-requires : goal.tested-in_place-requires
tested-in_place-requires t c =
    (search (rules, the_lemmas), c.judge-own.ensures)

pub tested-returns : goal.tested-returns
tested-returns t c =
    steps.tested-by (scope_at c.args.names.scope.now) (tree_of c.args.operand.now) c.judge-own.result c.judge-own.ensures c.operand_sign-own_signed.result c.operand_sign-own_signed.ensures c.args.place c.test_place-operand_place.result c.args.operator c.args.width c.args.signed c.test_place-operand_place.ensures c.in_place.result c.in_place.ensures

pub first_place-returns-in-Anywhere : goal.first_place-returns-in-Anywhere
first_place-returns-in-Anywhere t c =
    steps.first-anywhere (scope_at c.args.names.scope.now) c.args.place c.args.width c.args.signed c.args.links.now c.in-Anywhere.is

pub first_place-returns-in-Constant : goal.first_place-returns-in-Constant
first_place-returns-in-Constant t c =
    steps.first-constant (scope_at c.args.names.scope.now) c.args.place _ c.args.width c.args.signed c.args.links.now c.in-Constant.is c.first_context.result c.first_context.ensures

pub judged_constant-number_of-requires : goal.judged_constant-number_of-requires
judged_constant-number_of-requires t c =
    steps.constant-by (scope_at c.args.names.scope.now) (tree_of c.args.expression.now) c.by_itself-judged.result c.by_itself-judged.ensures

pub judged_constant-returns-clause-broken : goal.judged_constant-returns-clause-broken
judged_constant-returns-clause-broken t c =
    steps.constant-by (scope_at c.args.names.scope.now) (tree_of c.args.expression.now) c.by_itself-judged.result c.by_itself-judged.ensures

pub prefixed-returns-then-reduces : goal.prefixed-returns-then-reduces
prefixed-returns-then-reduces t c =
    steps.prefixed-one (scope_at c.args.names.scope.now) c.args.place c.args.operators.now (tree_of c.args.operand.now) c.reduces.result c.reduces.ensures c.one_bit.result c.by_itself.result c.if-reduces.true c.by_itself.ensures c.one_bit.ensures

pub prefixed-returns-else-reduces : goal.prefixed-returns-else-reduces
prefixed-returns-else-reduces t c =
    steps.prefixed-kept (scope_at c.args.names.scope.now) c.args.place c.args.operators.now (tree_of c.args.operand.now) c.reduces.result c.reduces.ensures c.kept.result c.judge.result c.if-reduces.false c.judge.ensures c.kept.ensures

pub exponent-returns : goal.exponent-returns
exponent-returns t c =
    steps.exponent-by (scope_at c.args.names.scope.now) c.args.place (tree_of c.args.operand.now) c.by_itself-judged.result c.is_bad_exponent.result c.constant_rule.result c.constant_rule.ensures c.by_itself-judged.ensures c.is_bad_exponent.ensures

pub divisor-returns : goal.divisor-returns
divisor-returns t c =
    steps.divisor-by (scope_at c.args.names.scope.now) c.args.place (tree_of c.args.operand.now) c.judge-judged.result c.is_bad_divisor.result c.constant_rule.result c.constant_rule.ensures c.judge-judged.ensures c.is_bad_divisor.ensures

pub in_place-returns-in-Anywhere : goal.in_place-returns-in-Anywhere
in_place-returns-in-Anywhere t c =
    steps.in-place (scope_at c.args.names.scope.now) c.args.place Anywhere (tree_of c.args.expression.now) c.in-Anywhere.is c.args.own c.requires

pub in_place-returns-in-Constant : goal.in_place-returns-in-Constant
in_place-returns-in-Constant t c =
    steps.in-place (scope_at c.args.names.scope.now) c.args.place (Constant c.in-Constant.width c.in-Constant.signed) (tree_of c.args.expression.now) c.in-Constant.is c.judge.result c.judge.ensures

pub right-returns-in-Power : goal.right-returns-in-Power
right-returns-in-Power t c =
    steps.right-of (scope_at c.args.names.scope.now) c.args.place (tree_of c.args.operand.now) c.args.operator Power c.in-Power.is c.exponent.result c.exponent.ensures

pub right-returns-in-ShiftLeft : goal.right-returns-in-ShiftLeft
right-returns-in-ShiftLeft t c =
    steps.right-of (scope_at c.args.names.scope.now) c.args.place (tree_of c.args.operand.now) c.args.operator ShiftLeft c.in-ShiftLeft.is c.by_itself.result c.by_itself.ensures

pub right-returns-in-ShiftRight : goal.right-returns-in-ShiftRight
right-returns-in-ShiftRight t c =
    steps.right-of (scope_at c.args.names.scope.now) c.args.place (tree_of c.args.operand.now) c.args.operator ShiftRight c.in-ShiftRight.is c.by_itself-in-ShiftRight.result c.by_itself-in-ShiftRight.ensures

pub right-returns-in-ArithmeticShiftRight : goal.right-returns-in-ArithmeticShiftRight
right-returns-in-ArithmeticShiftRight t c =
    steps.right-of (scope_at c.args.names.scope.now) c.args.place (tree_of c.args.operand.now) c.args.operator ArithmeticShiftRight c.in-ArithmeticShiftRight.is c.by_itself-in-ArithmeticShiftRight.result c.by_itself-in-ArithmeticShiftRight.ensures

pub right-returns-in-Divide : goal.right-returns-in-Divide
right-returns-in-Divide t c =
    steps.right-of (scope_at c.args.names.scope.now) c.args.place (tree_of c.args.operand.now) c.args.operator Divide c.in-Divide.is c.divisor.result c.divisor.ensures

pub right-returns-in-Modulo : goal.right-returns-in-Modulo
right-returns-in-Modulo t c =
    steps.right-of (scope_at c.args.names.scope.now) c.args.place (tree_of c.args.operand.now) c.args.operator Modulo c.in-Modulo.is c.divisor-in-Modulo.result c.divisor-in-Modulo.ensures

pub right_context-returns : goal.right_context-returns
right_context-returns t c =
    steps.context-by (scope_at c.args.names.scope.now) (tree_of c.args.operand.now) c.judge-right.result c.judge-right.ensures c.operand_sign-right_signed.result c.operand_sign-right_signed.ensures
    c.args.place c.args.width c.args.signed c.wider.result c.wider.ensures c.both.result c.both.ensures c.own_place.result c.own_place.ensures

use Rattle.std.proofs.Common.{refl}
use Rattle.v_instances.proofs.Shapes as shapes
use Rattle.v_instances.proofs.shape.+shape.Goals as goal

pub is_target-returns-in-Number : goal.is_target-returns-in-Number
is_target-returns-in-Number t c = shapes.at-Number c.args.expression.now _ refl c.in-Number.field-0 c.in-Number.is

pub is_target-returns-in-Name : goal.is_target-returns-in-Name
is_target-returns-in-Name t c = shapes.at-Name c.args.expression.now _ refl c.in-Name.field-0 c.in-Name.field-1 c.in-Name.is

pub is_target-returns-in-Concatenation : goal.is_target-returns-in-Concatenation
is_target-returns-in-Concatenation t c = shapes.at-Concatenation c.args.expression.now c.are_targets.result c.in-Concatenation.parts c.in-Concatenation.is c.deref.result.now c.deref.ensures.value c.are_targets.ensures

pub is_target-returns-in-Replication : goal.is_target-returns-in-Replication
is_target-returns-in-Replication t c = shapes.at-Replication c.args.expression.now _ refl c.in-Replication.field-0 c.in-Replication.field-1 c.in-Replication.is

pub is_target-returns-in-AsSigned : goal.is_target-returns-in-AsSigned
is_target-returns-in-AsSigned t c = shapes.at-AsSigned c.args.expression.now _ refl c.in-AsSigned.field-0 c.in-AsSigned.is

pub is_target-returns-in-AsUnsigned : goal.is_target-returns-in-AsUnsigned
is_target-returns-in-AsUnsigned t c = shapes.at-AsUnsigned c.args.expression.now _ refl c.in-AsUnsigned.field-0 c.in-AsUnsigned.is

pub is_target-returns-in-Prefix : goal.is_target-returns-in-Prefix
is_target-returns-in-Prefix t c =
    shapes.at-Prefix c.args.expression.now c.alone.result c.in-Prefix.operand c.deref-in-Prefix-2.result.now c.deref-in-Prefix-2.ensures c.is_target.result c.is_target.ensures
    c.in-Prefix.operators c.in-Prefix.is c.deref-in-Prefix.result.now c.deref-in-Prefix.ensures.value c.alone.ensures

pub is_target-returns-in-Binary : goal.is_target-returns-in-Binary
is_target-returns-in-Binary t c =
    shapes.at-Binary c.args.expression.now c.alone-in-Binary.result c.in-Binary.first c.deref-in-Binary-2.result.now c.deref-in-Binary-2.ensures c.is_target-in-Binary.result c.is_target-in-Binary.ensures
    c.in-Binary.links c.in-Binary.is c.deref-in-Binary.result.now c.deref-in-Binary.ensures.value c.alone-in-Binary.ensures

pub is_target-returns-in-Test : goal.is_target-returns-in-Test
is_target-returns-in-Test t c =
    shapes.at-Test c.args.expression.now c.alone-in-Test.result c.in-Test.first c.deref-in-Test-2.result.now c.deref-in-Test-2.ensures c.is_target-in-Test.result c.is_target-in-Test.ensures
    c.in-Test.links c.in-Test.is c.deref-in-Test.result.now c.deref-in-Test.ensures.value c.alone-in-Test.ensures

pub is_target-returns-in-Conditional : goal.is_target-returns-in-Conditional
is_target-returns-in-Conditional t c =
    shapes.at-Conditional c.args.expression.now c.alone-in-Conditional.result c.in-Conditional.last c.deref-in-Conditional-2.result.now c.deref-in-Conditional-2.ensures c.is_target-in-Conditional.result c.is_target-in-Conditional.ensures
    c.in-Conditional.choices c.in-Conditional.is c.deref-in-Conditional.result.now c.deref-in-Conditional.ensures.value c.alone-in-Conditional.ensures

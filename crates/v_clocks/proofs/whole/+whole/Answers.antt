use Rattle.std.proofs.Common.{refl}
use Rattle.v_clocks.proofs.Alone as shapes
use Rattle.v_clocks.proofs.whole.+whole.Goals as goal

pub returns-in-Number : goal.returns-in-Number
returns-in-Number t c = shapes.at-Number c.args.expression.now _ refl c.in-Number.field-0 c.in-Number.is

pub returns-in-Name : goal.returns-in-Name
returns-in-Name t c = shapes.at-Name c.args.expression.now _ c.in-Name.field-0 c.in-Name.selects c.in-Name.is c.are_whole.ensures

pub returns-in-Concatenation : goal.returns-in-Concatenation
returns-in-Concatenation t c = shapes.at-Concatenation c.args.expression.now _ refl c.in-Concatenation.field-0 c.in-Concatenation.is

pub returns-in-Replication : goal.returns-in-Replication
returns-in-Replication t c = shapes.at-Replication c.args.expression.now _ refl c.in-Replication.field-0 c.in-Replication.field-1 c.in-Replication.is

pub returns-in-AsSigned : goal.returns-in-AsSigned
returns-in-AsSigned t c = shapes.at-AsSigned c.args.expression.now _ refl c.in-AsSigned.field-0 c.in-AsSigned.is

pub returns-in-AsUnsigned : goal.returns-in-AsUnsigned
returns-in-AsUnsigned t c = shapes.at-AsUnsigned c.args.expression.now _ refl c.in-AsUnsigned.field-0 c.in-AsUnsigned.is

pub returns-in-Prefix : goal.returns-in-Prefix
returns-in-Prefix t c =
    shapes.at-Prefix c.args.expression.now c.alone.result c.in-Prefix.operand c.deref-in-Prefix.result.now c.deref-in-Prefix.ensures c.is_whole.result c.is_whole.ensures
    c.in-Prefix.operators c.in-Prefix.is c.deref.result.now c.deref.ensures.value c.alone.ensures

pub returns-in-Binary : goal.returns-in-Binary
returns-in-Binary t c =
    shapes.at-Binary c.args.expression.now c.alone-in-Binary.result c.in-Binary.first c.deref-in-Binary-2.result.now c.deref-in-Binary-2.ensures c.is_whole-in-Binary.result c.is_whole-in-Binary.ensures
    c.in-Binary.links c.in-Binary.is c.deref-in-Binary.result.now c.deref-in-Binary.ensures.value c.alone-in-Binary.ensures

pub returns-in-Test : goal.returns-in-Test
returns-in-Test t c =
    shapes.at-Test c.args.expression.now c.alone-in-Test.result c.in-Test.first c.deref-in-Test-2.result.now c.deref-in-Test-2.ensures c.is_whole-in-Test.result c.is_whole-in-Test.ensures
    c.in-Test.links c.in-Test.is c.deref-in-Test.result.now c.deref-in-Test.ensures.value c.alone-in-Test.ensures

pub returns-in-Conditional : goal.returns-in-Conditional
returns-in-Conditional t c =
    shapes.at-Conditional c.args.expression.now c.alone-in-Conditional.result c.in-Conditional.last c.deref-in-Conditional-2.result.now c.deref-in-Conditional-2.ensures c.is_whole-in-Conditional.result c.is_whole-in-Conditional.ensures
    c.in-Conditional.choices c.in-Conditional.is c.deref-in-Conditional.result.now c.deref-in-Conditional.ensures.value c.alone-in-Conditional.ensures

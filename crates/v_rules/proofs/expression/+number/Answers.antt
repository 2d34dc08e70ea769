use Rattle.std.proofs.Common.{refl, option_map}
use Rattle.v_syntax.specs.Tree.{number_of}
use Rattle.v_rules.proofs.Numbers as numbers
use Rattle.v_rules.proofs.expression.+number.Goals as goal

pub returns-in-Number : goal.returns-in-Number
returns-in-Number t c = numbers.at-Number c.args.expression.now _ c.in-Number.number c.in-Number.is refl

pub returns-in-Name : goal.returns-in-Name
returns-in-Name t c = numbers.at-Name c.args.expression.now _ refl c.in-Name.field-0 c.in-Name.field-1 c.in-Name.is

pub returns-in-Concatenation : goal.returns-in-Concatenation
returns-in-Concatenation t c = numbers.at-Concatenation c.args.expression.now _ refl c.in-Concatenation.field-0 c.in-Concatenation.is

pub returns-in-Replication : goal.returns-in-Replication
returns-in-Replication t c = numbers.at-Replication c.args.expression.now _ refl c.in-Replication.field-0 c.in-Replication.field-1 c.in-Replication.is

pub returns-in-AsSigned : goal.returns-in-AsSigned
returns-in-AsSigned t c = numbers.at-AsSigned c.args.expression.now _ refl c.in-AsSigned.field-0 c.in-AsSigned.is

pub returns-in-AsUnsigned : goal.returns-in-AsUnsigned
returns-in-AsUnsigned t c = numbers.at-AsUnsigned c.args.expression.now _ refl c.in-AsUnsigned.field-0 c.in-AsUnsigned.is

pub returns-in-Prefix : goal.returns-in-Prefix
returns-in-Prefix t c =
    numbers.at-Prefix c.args.expression.now (option_map number_of c.number_alone.result) c.in-Prefix.operand c.deref-in-Prefix.result.now c.deref-in-Prefix.ensures (option_map number_of c.number_in.result) c.number_in.ensures
    c.in-Prefix.operators c.in-Prefix.is c.deref.result.now c.deref.ensures.value c.number_alone.ensures

pub returns-in-Binary : goal.returns-in-Binary
returns-in-Binary t c =
    numbers.at-Binary c.args.expression.now (option_map number_of c.number_alone-in-Binary.result) c.in-Binary.first c.deref-in-Binary-2.result.now c.deref-in-Binary-2.ensures (option_map number_of c.number_in-in-Binary.result) c.number_in-in-Binary.ensures
    c.in-Binary.links c.in-Binary.is c.deref-in-Binary.result.now c.deref-in-Binary.ensures.value c.number_alone-in-Binary.ensures

pub returns-in-Test : goal.returns-in-Test
returns-in-Test t c =
    numbers.at-Test c.args.expression.now (option_map number_of c.number_alone-in-Test.result) c.in-Test.first c.deref-in-Test-2.result.now c.deref-in-Test-2.ensures (option_map number_of c.number_in-in-Test.result) c.number_in-in-Test.ensures
    c.in-Test.links c.in-Test.is c.deref-in-Test.result.now c.deref-in-Test.ensures.value c.number_alone-in-Test.ensures

pub returns-in-Conditional : goal.returns-in-Conditional
returns-in-Conditional t c =
    numbers.at-Conditional c.args.expression.now (option_map number_of c.number_alone-in-Conditional.result) c.in-Conditional.last c.deref-in-Conditional-2.result.now c.deref-in-Conditional-2.ensures (option_map number_of c.number_in-in-Conditional.result) c.number_in-in-Conditional.ensures
    c.in-Conditional.choices c.in-Conditional.is c.deref-in-Conditional.result.now c.deref-in-Conditional.ensures.value c.number_alone-in-Conditional.ensures

use Rattle.std.proofs.Common.{refl}
use Rattle.v_value.specs.Scope.{scope_at}
use Rattle.v_instances.proofs.Written as written
use Rattle.v_instances.proofs.output.+output.Goals as goal

pub found_in-returns-in-Number : goal.found_in-returns-in-Number
found_in-returns-in-Number t c = written.at-Number (scope_at c.args.names.scope.now) c.args.expression.now _ refl c.in-Number.field-0 c.in-Number.is

pub found_in-returns-in-Name : goal.found_in-returns-in-Name
found_in-returns-in-Name t c = written.at-Name (scope_at c.args.names.scope.now) c.args.expression.now _ c.in-Name.name c.in-Name.selects c.in-Name.is c.judged_place.result c.judged_place.ensures refl

pub found_in-returns-in-Concatenation : goal.found_in-returns-in-Concatenation
found_in-returns-in-Concatenation t c =
    written.at-Concatenation (scope_at c.args.names.scope.now) c.args.expression.now c.whole_found.result c.in-Concatenation.parts c.in-Concatenation.is c.deref.result.now c.deref.ensures.value c.found_parts.result c.found_parts.ensures c.whole_found.ensures

pub found_in-returns-in-Replication : goal.found_in-returns-in-Replication
found_in-returns-in-Replication t c = written.at-Replication (scope_at c.args.names.scope.now) c.args.expression.now _ refl c.in-Replication.field-0 c.in-Replication.field-1 c.in-Replication.is

pub found_in-returns-in-AsSigned : goal.found_in-returns-in-AsSigned
found_in-returns-in-AsSigned t c = written.at-AsSigned (scope_at c.args.names.scope.now) c.args.expression.now _ refl c.in-AsSigned.field-0 c.in-AsSigned.is

pub found_in-returns-in-AsUnsigned : goal.found_in-returns-in-AsUnsigned
found_in-returns-in-AsUnsigned t c = written.at-AsUnsigned (scope_at c.args.names.scope.now) c.args.expression.now _ refl c.in-AsUnsigned.field-0 c.in-AsUnsigned.is

pub found_in-returns-in-Prefix : goal.found_in-returns-in-Prefix
found_in-returns-in-Prefix t c =
    written.at-Prefix (scope_at c.args.names.scope.now) c.args.expression.now c.found_alone.result c.in-Prefix.operand c.deref-in-Prefix-2.result.now c.deref-in-Prefix-2.ensures c.found_in.result c.found_in.ensures
    c.in-Prefix.operators c.in-Prefix.is c.deref-in-Prefix.result.now c.deref-in-Prefix.ensures.value c.found_alone.ensures

pub found_in-returns-in-Binary : goal.found_in-returns-in-Binary
found_in-returns-in-Binary t c =
    written.at-Binary (scope_at c.args.names.scope.now) c.args.expression.now c.found_alone-in-Binary.result c.in-Binary.first c.deref-in-Binary-2.result.now c.deref-in-Binary-2.ensures c.found_in-in-Binary.result c.found_in-in-Binary.ensures
    c.in-Binary.links c.in-Binary.is c.deref-in-Binary.result.now c.deref-in-Binary.ensures.value c.found_alone-in-Binary.ensures

pub found_in-returns-in-Test : goal.found_in-returns-in-Test
found_in-returns-in-Test t c =
    written.at-Test (scope_at c.args.names.scope.now) c.args.expression.now c.found_alone-in-Test.result c.in-Test.first c.deref-in-Test-2.result.now c.deref-in-Test-2.ensures c.found_in-in-Test.result c.found_in-in-Test.ensures
    c.in-Test.links c.in-Test.is c.deref-in-Test.result.now c.deref-in-Test.ensures.value c.found_alone-in-Test.ensures

pub found_in-returns-in-Conditional : goal.found_in-returns-in-Conditional
found_in-returns-in-Conditional t c =
    written.at-Conditional (scope_at c.args.names.scope.now) c.args.expression.now c.found_alone-in-Conditional.result c.in-Conditional.last c.deref-in-Conditional-2.result.now c.deref-in-Conditional-2.ensures c.found_in-in-Conditional.result c.found_in-in-Conditional.ensures
    c.in-Conditional.choices c.in-Conditional.is c.deref-in-Conditional.result.now c.deref-in-Conditional.ensures.value c.found_alone-in-Conditional.ensures

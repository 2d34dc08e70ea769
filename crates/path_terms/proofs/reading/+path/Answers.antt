use Rattle.std.proofs.Common.{refl, option_map}
use Rattle.v_lower.specs.Table.{images_at}
use Rattle.path_terms.proofs.Pathed as paths
use Rattle.path_terms.proofs.reading.+path.Goals as goal

pub returns-in-Number : goal.returns-in-Number
returns-in-Number t c = paths.at-Number (images_at c.args.table.now) c.args.expression.now _ refl c.in-Number.field-0 c.in-Number.is

pub returns-in-Name : goal.returns-in-Name
returns-in-Name t c = paths.at-Name (images_at c.args.table.now) c.args.expression.now _ c.in-Name.name c.in-Name.field-1 c.in-Name.is c.term.ensures

pub returns-in-Concatenation : goal.returns-in-Concatenation
returns-in-Concatenation t c = paths.at-Concatenation (images_at c.args.table.now) c.args.expression.now _ refl c.in-Concatenation.field-0 c.in-Concatenation.is

pub returns-in-Replication : goal.returns-in-Replication
returns-in-Replication t c = paths.at-Replication (images_at c.args.table.now) c.args.expression.now _ refl c.in-Replication.field-0 c.in-Replication.field-1 c.in-Replication.is

pub returns-in-AsSigned : goal.returns-in-AsSigned
returns-in-AsSigned t c = paths.at-AsSigned (images_at c.args.table.now) c.args.expression.now _ refl c.in-AsSigned.field-0 c.in-AsSigned.is

pub returns-in-AsUnsigned : goal.returns-in-AsUnsigned
returns-in-AsUnsigned t c = paths.at-AsUnsigned (images_at c.args.table.now) c.args.expression.now _ refl c.in-AsUnsigned.field-0 c.in-AsUnsigned.is

pub returns-in-Prefix : goal.returns-in-Prefix
returns-in-Prefix t c =
    paths.at-Prefix (images_at c.args.table.now) c.args.expression.now _ c.in-Prefix.operand c.deref-in-Prefix.result.now c.deref-in-Prefix.ensures (option_map (λ k. k.0) c.named_term.result) c.named_term.ensures
    c.in-Prefix.operators c.in-Prefix.is c.deref.result.now c.deref.ensures.value c.term_alone.ensures

pub returns-in-Binary : goal.returns-in-Binary
returns-in-Binary t c =
    paths.at-Binary (images_at c.args.table.now) c.args.expression.now _ c.in-Binary.first c.deref-in-Binary-2.result.now c.deref-in-Binary-2.ensures (option_map (λ k. k.0) c.named_term-in-Binary.result) c.named_term-in-Binary.ensures
    c.in-Binary.links c.in-Binary.is c.deref-in-Binary.result.now c.deref-in-Binary.ensures.value c.term_alone-in-Binary.ensures

pub returns-in-Test : goal.returns-in-Test
returns-in-Test t c =
    paths.at-Test (images_at c.args.table.now) c.args.expression.now _ c.in-Test.first c.deref-in-Test-2.result.now c.deref-in-Test-2.ensures (option_map (λ k. k.0) c.named_term-in-Test.result) c.named_term-in-Test.ensures
    c.in-Test.links c.in-Test.is c.deref-in-Test.result.now c.deref-in-Test.ensures.value c.term_alone-in-Test.ensures

pub returns-in-Conditional : goal.returns-in-Conditional
returns-in-Conditional t c =
    paths.at-Conditional (images_at c.args.table.now) c.args.expression.now _ c.in-Conditional.last c.deref-in-Conditional-2.result.now c.deref-in-Conditional-2.ensures (option_map (λ k. k.0) c.named_term-in-Conditional.result) c.named_term-in-Conditional.ensures
    c.in-Conditional.choices c.in-Conditional.is c.deref-in-Conditional.result.now c.deref-in-Conditional.ensures.value c.term_alone-in-Conditional.ensures

use Rattle.std.proofs.Common.{◌∙◌, ap}
use Rattle.verilog_meaning.specs.Statement.{wild_bits}
use Rattle.v_syntax.specs.Tree.{tree_of}
use Rattle.v_statement.proofs.Choices.{wild-Prefix, wild-Binary, wild-Test, wild-Conditional}
use Rattle.v_statement.proofs.choice.+wild_bits.Goals as goal

pub returns-in-Prefix : goal.returns-in-Prefix
returns-in-Prefix t c =
    let e = ap (λ x. wild_bits (tree_of x)) c.in-Prefix.is ∙ wild-Prefix c.in-Prefix.operators c.in-Prefix.operand in
    cc e

pub returns-in-Binary : goal.returns-in-Binary
returns-in-Binary t c =
    let e = ap (λ x. wild_bits (tree_of x)) c.in-Binary.is ∙ wild-Binary c.in-Binary.first c.in-Binary.links in
    cc e

pub returns-in-Test : goal.returns-in-Test
returns-in-Test t c =
    let e = ap (λ x. wild_bits (tree_of x)) c.in-Test.is ∙ wild-Test c.in-Test.first c.in-Test.links in
    cc e

pub returns-in-Conditional : goal.returns-in-Conditional
returns-in-Conditional t c =
    let e = ap (λ x. wild_bits (tree_of x)) c.in-Conditional.is ∙ wild-Conditional c.in-Conditional.choices c.in-Conditional.last in
    cc e

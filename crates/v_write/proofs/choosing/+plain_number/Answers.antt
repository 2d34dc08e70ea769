use Rattle.std.proofs.Common.{◌∙◌, ap}
use Rattle.v_syntax.specs.Tree.{tree_of}
use Rattle.v_write.specs.Matching.{plain_number}
use Rattle.v_write.proofs.Values.{number-Prefix, number-Binary, number-Test, number-Conditional}
use Rattle.v_write.proofs.choosing.+plain_number.Goals as goal

pub returns-in-Prefix : goal.returns-in-Prefix
returns-in-Prefix t c =
    let e = ap (λ x. plain_number (tree_of x)) c.in-Prefix.is ∙ number-Prefix c.in-Prefix.operators c.in-Prefix.operand in
    cc e

pub returns-in-Binary : goal.returns-in-Binary
returns-in-Binary t c =
    let e = ap (λ x. plain_number (tree_of x)) c.in-Binary.is ∙ number-Binary c.in-Binary.first c.in-Binary.links in
    cc e

pub returns-in-Test : goal.returns-in-Test
returns-in-Test t c =
    let e = ap (λ x. plain_number (tree_of x)) c.in-Test.is ∙ number-Test c.in-Test.first c.in-Test.links in
    cc e

pub returns-in-Conditional : goal.returns-in-Conditional
returns-in-Conditional t c =
    let e = ap (λ x. plain_number (tree_of x)) c.in-Conditional.is ∙ number-Conditional c.in-Conditional.choices c.in-Conditional.last in
    cc e

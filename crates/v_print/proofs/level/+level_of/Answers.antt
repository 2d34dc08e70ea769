use Rattle.std.proofs.Common.{◌∙◌, ap, refl}
use Rattle.v_syntax.specs.declared.tree.Expression.{Expression}
use Rattle.v_syntax.specs.Tree.{tree_of}
use Rattle.v_print.specs.Spelled.{printed_level}
use Rattle.v_print.proofs.Levels.{prefix_arm, binary_arm, test_arm, choice_arm, alone}
use Rattle.v_print.proofs.level.+level_of.Goals as goal

pub returns-in-Number : goal.returns-in-Number
returns-in-Number t c = alone c.args.expression.now _ c.in-Number.is refl

pub returns-in-Name : goal.returns-in-Name
returns-in-Name t c = alone c.args.expression.now _ c.in-Name.is refl

pub returns-in-Concatenation : goal.returns-in-Concatenation
returns-in-Concatenation t c = alone c.args.expression.now _ c.in-Concatenation.is refl

pub returns-in-Replication : goal.returns-in-Replication
returns-in-Replication t c = alone c.args.expression.now _ c.in-Replication.is refl

pub returns-in-AsSigned : goal.returns-in-AsSigned
returns-in-AsSigned t c = alone c.args.expression.now _ c.in-AsSigned.is refl

pub returns-in-AsUnsigned : goal.returns-in-AsUnsigned
returns-in-AsUnsigned t c = alone c.args.expression.now _ c.in-AsUnsigned.is refl

pub returns-in-Prefix : goal.returns-in-Prefix
returns-in-Prefix t c = let e = ap (λ (x : Expression). printed_level (tree_of x)) c.in-Prefix.is ∙ prefix_arm c.in-Prefix.operators c.in-Prefix.operand in cc e

pub returns-in-Binary : goal.returns-in-Binary
returns-in-Binary t c = let e = ap (λ (x : Expression). printed_level (tree_of x)) c.in-Binary.is ∙ binary_arm c.in-Binary.first c.in-Binary.links in cc e

pub returns-in-Test : goal.returns-in-Test
returns-in-Test t c = let e = ap (λ (x : Expression). printed_level (tree_of x)) c.in-Test.is ∙ test_arm c.in-Test.first c.in-Test.links in cc e

pub returns-in-Conditional : goal.returns-in-Conditional
returns-in-Conditional t c = let e = ap (λ (x : Expression). printed_level (tree_of x)) c.in-Conditional.is ∙ choice_arm c.in-Conditional.choices c.in-Conditional.last in cc e

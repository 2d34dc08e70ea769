use Rattle.std.proofs.Common.{◌∙◌, sym}
use Rattle.v_value.specs.Scope.{scope_at}
use Rattle.v_syntax.specs.Tree.{tree_of}
use Rattle.v_size.specs.Rule.{number_at}
use Rattle.v_size.proofs.Known as known
use Rattle.v_size.proofs.judged.number_of.Goals as goal

pub integer_of-requires-clause-narrow : goal.integer_of-requires-clause-narrow
integer_of-requires-clause-narrow c =
    known.constant-narrow (scope_at c.args.names.scope.now) (tree_of c.args.constant.now) c.args.broken c.requires c.args.names.narrow (sym c.is_unbroken.ensures ∙ c.if-is_unbroken.true)

pub returns-then-is_unbroken : goal.returns-then-is_unbroken
returns-then-is_unbroken c =
    known.known-number (scope_at c.args.names.scope.now) (tree_of c.args.constant.now) c.args.broken c.requires (sym c.is_unbroken.ensures ∙ c.if-is_unbroken.true) c.integer_of.result c.integer_of.ensures.value

pub returns-else-is_unbroken : goal.returns-else-is_unbroken
returns-else-is_unbroken c =
    known.no-number (scope_at c.args.names.scope.now) (tree_of c.args.constant.now) c.args.broken c.requires (sym c.is_unbroken.ensures ∙ c.if-is_unbroken.false)

use Rattle.std.proofs.Common.{sym, subst}
use Rattle.map_rules.specs.Inputs.{UsesInput}
use Rattle.v_syntax.specs.Tree.{tree_of}
use Rattle.v_value.specs.Scope.{scope_at}
use Rattle.map_uses.specs.Table.{new_name_in, IsKnownIn}
use Rattle.map_uses.proofs.Told.{not_asked}
use Rattle.map_uses.proofs.asking.is_user.Goals as goal

pub returns-then-not-asked : goal.returns-then-not-asked
returns-then-not-asked c = λ d t k. not_asked c.args.asked (UsesInput d (tree_of c.args.expression.now.tree.now)) c.if-not-asked.true

pub uses-requires-clause-objects : goal.uses-requires-clause-objects
uses-requires-clause-objects c = c.requires.objects

pub uses-requires-clause-narrow : goal.uses-requires-clause-narrow
uses-requires-clause-narrow c = c.requires.narrow

pub returns : goal.returns
returns c = λ d t k.
    let told = c.in_ok-used.ensures d (new_name_in c.args.table.now) t c.in_ok-texts.ensures.texts
    (subst (λ ns. IsKnownIn d (scope_at c.args.scope.now) ns (tree_of c.args.expression.now.tree.now)) (sym c.in_ok-texts.ensures.names) k) in
    ((λ u. (c.if-not-asked.false, told.0 u)), (λ u. told.1 u.1))

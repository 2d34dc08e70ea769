use Rattle.v_syntax.specs.Tree.{tree_of}
use Rattle.v_value.specs.Scope.{scope_at}
use Rattle.v_masks.specs.Masks.{masked}
use Rattle.v_renamed.specs.NewNames.{new_name}
use Rattle.map_uses.specs.Texts.{old_names}
use Rattle.map_uses.proofs.Told.{uses_told}
use Rattle.map_uses.proofs.asking.uses.Goals as goal

pub uses_input-requires-clause-objects : goal.uses_input-requires-clause-objects
uses_input-requires-clause-objects c = c.requires.objects

pub uses_input-requires-clause-narrow : goal.uses_input-requires-clause-narrow
uses_input-requires-clause-narrow c = c.requires.narrow

pub returns : goal.returns
returns c = λ d new t are k.
    let told = uses_told c.expressions_use_the_same.ensures d (scope_at c.args.scope.now) (old_names c.args.texts.now.list.items) (tree_of c.args.tree.now) new (new_name c.in_ok-names.names)
    (masked c.args.marked.now) t k (c.in_ok-names.ensures new are) in
    ((λ u. told.1 (c.in_ok-used.ensures.0 u)), (λ u. c.in_ok-used.ensures.1 (told.0 u)))

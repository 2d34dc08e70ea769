use Rattle.std.proofs.Common.{◌∙◌, ◌++◌, ◌∷◌, [], ap, map}
use Rattle.std.proofs.lemmas.List.{append_assoc}
use Rattle.verilog_meaning.specs.Settled.{whole_name}
use Rattle.v_syntax.specs.Tree.{tree_of}
use Rattle.v_syntax.specs.Source.{item_of}
use Rattle.emitted_designs.specs.Names.{start_name, commit_name}
use Rattle.emitted_trees.specs.Items.{assigned}
use Rattle.emitted_names.proofs.Turns.{ap2}
use Rattle.emitted_trees.proofs.module.with_start.Goals as goal

pub returns : goal.returns
returns c =
    let front = map item_of c.args.items.items in
    c.in_ok-items-2.ensures
    ∙ ap2 (λ xs x. xs ++ x ∷ []) (c.in_ok-items.ensures ∙ ap (λ x. front ++ x ∷ []) c.in_ok-start.ensures)
    (c.in_ok-commit.ensures ∙ ap (assigned commit_name) c.whole.ensures)
    ∙ append_assoc front (assigned start_name (tree_of c.args.ready) ∷ []) (assigned commit_name (whole_name start_name) ∷ [])

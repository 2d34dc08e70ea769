use Rattle.std.proofs.Common.{◌∙◌, ◌++◌, ◌∷◌, [], ap, map, codes, length}
use Rattle.std.proofs.lemmas.List.{append_assoc}
use Rattle.wb_values.specs.Value.{truth}
use Rattle.v_syntax.specs.Source.{item_of}
use Rattle.term_expressions.specs.Expressions.{sized}
use Rattle.emitted_modules.specs.Module.{none_name, one_name}
use Rattle.emitted_trees.specs.Items.{wire_named}
use Rattle.emitted_names.proofs.Turns.{ap2}
use Rattle.emitted_trees.proofs.decoding.with_first.Goals as goal

pub returns : goal.returns
returns c =
    let front = map item_of c.args.items.items in
    let none = c.name_at.ensures (codes "wb_none_") (length c.args.names.nones.now) c.requires.named.all_nones c.requires.none in
    let one = c.name_at-2.ensures (codes "wb_one_") (length c.args.names.ones.now) c.requires.named.all_ones c.requires.one in
    c.in_ok-items-2.ensures
    ∙ ap2 (λ xs x. xs ++ x ∷ []) (c.in_ok-items.ensures ∙ ap2 (λ n e. front ++ wire_named n truth e ∷ []) none c.sized.ensures)
    (ap2 (λ n e. wire_named n truth e) one c.sized-2.ensures)
    ∙ append_assoc front (wire_named (none_name 0) truth (sized 1 1) ∷ []) (wire_named (one_name 0) truth (sized 1 0) ∷ [])

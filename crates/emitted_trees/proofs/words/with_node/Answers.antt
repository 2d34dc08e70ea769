use Rattle.std.proofs.Common.{◌∙◌, ◌++◌, ◌∷◌, [], ap, map, sym}
use Rattle.std.proofs.lemmas.List.{append_assoc, map-append}
use Rattle.v_syntax.specs.Source.{item_of}
use Rattle.emitted_modules.specs.Rtl.{wire_item}
use Rattle.emitted_modules.specs.Nodes.{node_at, words_for, wire_for}
use Rattle.emitted_names.proofs.Turns.{ap2}
use Rattle.emitted_trees.proofs.words.with_node.Goals as goal

pub returns : goal.returns
returns c =
    let g = c.args.wires.terms.now in
    let k = c.args.id.0 in
    let front = map item_of c.args.items.items in
    let ws = words_for g k (node_at g k) in
    let own = wire_for g k (node_at g k) in
    c.in_ok-all.ensures
    ∙ ap2 (λ xs i. xs ++ i ∷ []) c.in_ok-before.ensures c.in_ok-item.ensures
    ∙ append_assoc front (map wire_item ws) (wire_item own ∷ [])
    ∙ ap (λ xs. front ++ xs) (sym (map-append wire_item ws (own ∷ [])))

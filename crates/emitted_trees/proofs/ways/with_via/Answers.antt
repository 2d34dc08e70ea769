use Rattle.std.proofs.Common.{◌∙◌, ◌++◌, ◌∷◌, [], cond, ap, map, sym}
use Rattle.std.proofs.lemmas.List.{append-nil}
use Rattle.v_syntax.specs.Source.{item_of}
use Rattle.emitted_modules.specs.Rtl.{wire_item}
use Rattle.emitted_modules.specs.Nodes.{is_changed}
use Rattle.wb_values.specs.Value.{truth}
use Rattle.emitted_modules.specs.Stores.{via_wire}
use Rattle.emitted_names.specs.Parts.{update_of}
use Rattle.emitted_names.proofs.Turns.{ap2}
use Rattle.emitted_trees.specs.Items.{wire_named}
use Rattle.emitted_trees.proofs.ways.with_via.Goals as goal

pub returns-then-not-is_changed : goal.returns-then-not-is_changed
returns-then-not-is_changed c =
    let g = c.args.wires.terms.now in
    let f = via_wire g (update_of g c.args.way.now) in
    let front = map item_of c.args.items.items in
    sym (append-nil front)
    ∙ ap (λ b. front ++ map wire_item (cond b (f c.args.part.now.id.0 ∷ []) []))
    (sym (sym (c.is_changed.ensures ∙ ap is_changed c.node_of.ensures.node) ∙ c.if-not-is_changed.true))

pub returns : goal.returns
returns c =
    let g = c.args.wires.terms.now in
    let f = via_wire g (update_of g c.args.way.now) in
    let front = map item_of c.args.items.items in
    c.in_ok-all.ensures
    ∙ ap (λ i. front ++ i ∷ []) (c.in_ok-item.ensures ∙ ap2 (λ n e. wire_named n truth e) (c.as_str.ensures.value ∙ c.requires.name) c.in_ok-value.ensures)
    ∙ ap (λ b. front ++ map wire_item (cond b (f c.args.part.now.id.0 ∷ []) []))
    (sym (sym (c.is_changed.ensures ∙ ap is_changed c.node_of.ensures.node) ∙ c.if-not-is_changed.false))

use Rattle.std.proofs.Common.{◌∙◌, ◌++◌, ◌∷◌, [], cond, ap, map, sym}
use Rattle.std.proofs.lemmas.List.{append-nil}
use Rattle.v_syntax.specs.Source.{item_of}
use Rattle.emitted_modules.specs.Rtl.{wire_item}
use Rattle.emitted_modules.specs.Nodes.{is_changed, operand, word_wire}
use Rattle.emitted_trees.proofs.words.with_word.Goals as goal

pub returns-then-not-is_changed : goal.returns-then-not-is_changed
returns-then-not-is_changed c =
    let g = c.args.wires.terms.now in
    let f = word_wire g c.args.load.0 (operand g c.args.address.0) in
    let front = map item_of c.args.items.items in
    sym (append-nil front)
    ∙ ap (λ b. front ++ map wire_item (cond b (f c.args.part.now.id.0 ∷ []) []))
    (sym (sym (c.is_changed.ensures ∙ ap is_changed c.node_of.ensures.node) ∙ c.if-not-is_changed.true))

pub returns : goal.returns
returns c =
    let g = c.args.wires.terms.now in
    let f = word_wire g c.args.load.0 (operand g c.args.address.0) in
    let front = map item_of c.args.items.items in
    c.in_ok-all.ensures
    ∙ ap (λ i. front ++ i ∷ []) c.in_ok-item.ensures
    ∙ ap (λ b. front ++ map wire_item (cond b (f c.args.part.now.id.0 ∷ []) []))
    (sym (sym (c.is_changed.ensures ∙ ap is_changed c.node_of.ensures.node) ∙ c.if-not-is_changed.false))

use Rattle.std.proofs.Common.{◌++◌, codes, string_bytes, not, refl, sym, ap, ◌∙◌}
use Rattle.refinement.specs.Obligation.{started_by, ends}
use Rattle.ila_model.specs.Model.{model_of}
use Rattle.obligation_lists.proofs.Growing.{none, one, read_as, line, line_same}
use Rattle.obligation_lists.proofs.Instructions.{child_line, no_child_lines}
use Rattle.obligation_lists.proofs.listing.add_child.Goals as goal

pub returns : goal.returns
returns c =
    let m = model_of c.args.model.now in
    let parts = c.args.model.now.parts in
    let i = c.args.instruction.now in
    let j = c.args.place in
    λ counts.
    read_as m counts _ _ _ _
    (one m counts _ _ _ (λ p. line (codes "child." ++ string_bytes i.name) 1 (started_by p j) (ends j)) c.in_ok-add.ensures
    (c.requires.there, c.requires.there)
    (λ p h. line_same _ _ _ _ _ _ (c.in_ok-name.ensures ∙ ap (λ n. codes "child." ++ n) c.as_str.ensures.value) refl))
    (λ p h. child_line p j (string_bytes i.name) parts.terms parts.children.items i.child
    (c.is_none.ensures ∙ ap not c.if-is_none.false) c.requires.linked)

pub returns-then-is_none : goal.returns-then-is_none
returns-then-is_none c =
    let m = model_of c.args.model.now in
    let parts = c.args.model.now.parts in
    let i = c.args.instruction.now in
    λ counts.
    read_as m counts _ _ _ _ (none m counts _)
    (λ p h. sym (no_child_lines p c.args.place (string_bytes i.name) parts.terms parts.children.items i.child (c.is_none.ensures ∙ ap not c.if-is_none.true)))

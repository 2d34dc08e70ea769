use Rattle.std.proofs.Common.{◌≡◌, ◌∙◌, ◌++◌, ◌∷◌, [], List, ap}
use Rattle.wb_terms.specs.declared.nodes.TermId.{TermId}
use Rattle.ila_model.specs.declared.parts.Instruction.{Instruction}
use Rattle.model_terms.specs.Copied.{terms_of_instruction, terms_of_instructions}
use Rattle.model_terms.proofs.Programming.{instructions_turn, instructions_end}
use Rattle.model_terms.proofs.listing.terms_of_machine.Goals as goal

pub loop-place-init : goal.loop-place-init
loop-place-init c = ap (λ (ids : List TermId). ids ++ terms_of_instructions c.args.instructions.now) (c.in_ok-push.ensures.items ∙ ap (λ (ids : List TermId). ids ++ c.args.valid ∷ []) c.new-ids.ensures.items)

pub loop-place-preserved : goal.loop-place-preserved
loop-place-preserved c =
    let l = c.loop-place in
    let d = c.index-instructions-place.result in
    instructions_turn c.args.instructions.now l.place d l.ids.items c.push_terms.new.ids.items c.loop-place-test.true
    (c.in_ok-push_terms.ensures ∙ ap (λ (i : Instruction). l.ids.items ++ terms_of_instruction i) c.index-instructions-place.is) ∙ l.invariant

pub returns : goal.returns
returns c = instructions_end c.args.instructions.now c.loop-place.place c.loop-place.ids.items (c.args.valid ∷ terms_of_instructions c.args.instructions.now) c.loop-place-test.false c.loop-place.invariant

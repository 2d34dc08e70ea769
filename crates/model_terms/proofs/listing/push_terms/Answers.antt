use Rattle.std.proofs.Common.{◌≡◌, ◌∙◌, ◌++◌}
use Rattle.model_terms.specs.Copied.{terms_of_instruction}
use Rattle.model_terms.proofs.Programming.{updates_turn, updates_end}
use Rattle.model_terms.proofs.listing.push_terms.Goals as goal

pub loop-place-preserved : goal.loop-place-preserved
loop-place-preserved c =
    let l = c.loop-place in
    updates_turn c.as_slice-updates.result.now l.place (record { state = record { 0 = 0 }; term = record { 0 = 0 } }) l.ids.items c.push-in-loop-place.new.self.items c.loop-place-test.true c.in_ok-push-2.ensures.items ∙ l.invariant

pub returns : goal.returns
returns c = updates_end c.as_slice-updates.result.now c.loop-place.place c.loop-place.ids.items (c.args.ids.now.items ++ terms_of_instruction c.args.instruction.now) c.loop-place-test.false c.loop-place.invariant

use Rattle.std.proofs.Common.{◌≡◌, ◌<◌, ◌+◌, ◌++◌, suc, codes, ap, ◌∙◌, arith}
use Rattle.ila_model.specs.Model.{model_of}
use Rattle.obligation_lists.proofs.Growing.{next, read_as}
use Rattle.obligation_lists.proofs.Instructions.{commit_lines}
use Rattle.obligation_lists.proofs.listing.add_commit.Goals as goal

pub returns : goal.returns
returns c =
    let m = model_of c.args.model.now in
    let counts = c.args.counts in
    let t = c.args.cycle in
    let k : t + 1 ≡ suc t = omega arith in
    let low : t < t + 1 = omega arith in
    read_as m counts _ _ _ _
    (next m counts _ _ _ _ _ (c.in_ok-add_invariants.ensures m (c.requires.there, low))
    (c.in_ok-add_states.ensures counts (c.requires.there, low) c.requires.there))
    (λ p h. commit_lines m p c.args.place c.args.name.now t _ _ _
    (c.as_str-2.ensures.value ∙ (c.in_ok-of_invariants.ensures ∙ ap (λ x. x ++ codes ".inv.") (c.as_str.ensures.value ∙ c.in_ok-text.ensures)))
    (c.as_str-4.ensures.value ∙ (c.in_ok-of_states.ensures ∙ ap (λ x. x ++ codes ".state.") (c.as_str-3.ensures.value ∙ c.in_ok-text.ensures)))
    k)

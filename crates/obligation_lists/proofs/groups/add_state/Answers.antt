use Rattle.std.proofs.Common.{◌≡◌, ◌++◌, ap, ◌∙◌}
use Rattle.model_meaning.specs.Model.{states_of}
use Rattle.ila_model.specs.Model.{model_of}
use Rattle.obligation_lists.specs.Claims.{hypotheses_of}
use Rattle.obligation_lists.specs.Growth.{claim_by}
use Rattle.obligation_lists.proofs.Growing.{one, line, line_same, name_there}
use Rattle.obligation_lists.proofs.groups.add_state.Goals as goal

pub returns : goal.returns
returns c =
    let g = c.args.group in
    let m = model_of c.args.model.now in
    λ counts d here hyps claims.
    let named : c.state_name-name.result.now ≡ d.state_name = name_there (states_of m.top) c.args.place d _ here c.state_name-name.ensures in
    one m counts _ _ _
    (λ p. line (g.text.now ++ d.state_name) g.cycles (hypotheses_of p g.hypotheses) (claim_by c.args.claims g.cycles d.state_name))
    c.in_ok-add.ensures (hyps, c.claim-claim.ensures.within m counts c.state_name-name.ensures claims)
    (λ p h. line_same _ _ _ _ _ _ (c.in_ok-full.ensures ∙ ap (λ n. g.text.now ++ n) named)
    (c.claim-claim.ensures.claimed ∙ ap (λ n. claim_by c.args.claims g.cycles n) named))

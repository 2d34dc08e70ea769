use Rattle.std.proofs.Common.{false, sym, subst, arith}
use Rattle.std.specs.Prelude.{IsTrue, IfOk, ◌↔◌}
use Rattle.std.proofs.lemmas.Bool.{false≢true}
use Rattle.std.proofs.lemmas.Result.{IfOk-weaker}
use Rattle.refinement.specs.Obligation.{decoded, one_decodes, ends}
use Rattle.obligation_lists.specs.declared.claims.Fact.{Fact}
use Rattle.obligation_lists.specs.Claims.{fact_of}
use Rattle.mapped_designs.specs.Runs.{Shows}
use Rattle.shown_facts.specs.Values.{model_in, map_in, values_in, cycles_in}
use Rattle.shown_facts.specs.Noted.{IsReadAt}
use Rattle.shown_facts.specs.Asked.{IsAsked}
use Rattle.shown_facts.proofs.facts.is_shown.Goals as goal

pub is_reset_active-requires-clause-cycle : goal.is_reset_active-requires-clause-cycle
is_reset_active-requires-clause-cycle c =
    let g = c.args.given.now in
    let t = subst (IsAsked (model_in g) (map_in g) (cycles_in g)) c.in-ResetActive.is c.requires.asked in
    t.fact

pub returns-in-ResetActive : goal.returns-in-ResetActive
returns-in-ResetActive c =
    let g = c.args.given.now in
    subst (λ (q : Fact). IsReadAt c.args.shown.now.later_cycle (fact_of q) → IsTrue c.is_reset_active.result ↔ Shows (model_in g) (map_in g) (values_in g) (fact_of q)) (sym c.in-ResetActive.is) (λ read. c.is_reset_active.ensures)

pub is_reset_inactive-requires-clause-cycle : goal.is_reset_inactive-requires-clause-cycle
is_reset_inactive-requires-clause-cycle c =
    let g = c.args.given.now in
    let t = subst (IsAsked (model_in g) (map_in g) (cycles_in g)) c.in-ResetInactive.is c.requires.asked in
    t.fact

pub returns-in-ResetInactive : goal.returns-in-ResetInactive
returns-in-ResetInactive c =
    let g = c.args.given.now in
    subst (λ (q : Fact). IsReadAt c.args.shown.now.later_cycle (fact_of q) → IsTrue c.is_reset_inactive.result ↔ Shows (model_in g) (map_in g) (values_in g) (fact_of q)) (sym c.in-ResetInactive.is) (λ read. c.is_reset_inactive.ensures)

pub is_assumed-requires-clause-place : goal.is_assumed-requires-clause-place
is_assumed-requires-clause-place c =
    let g = c.args.given.now in
    let t = subst (IsAsked (model_in g) (map_in g) (cycles_in g)) c.in-Assumed.is c.requires.asked in
    omega (arith, t.counted.assume, t.fact.0)

pub is_assumed-requires-clause-cycle : goal.is_assumed-requires-clause-cycle
is_assumed-requires-clause-cycle c =
    let g = c.args.given.now in
    let t = subst (IsAsked (model_in g) (map_in g) (cycles_in g)) c.in-Assumed.is c.requires.asked in
    t.fact.1

pub returns-in-Assumed : goal.returns-in-Assumed
returns-in-Assumed c =
    let g = c.args.given.now in
    subst (λ (q : Fact). IsReadAt c.args.shown.now.later_cycle (fact_of q) → IsTrue c.is_assumed.result ↔ Shows (model_in g) (map_in g) (values_in g) (fact_of q)) (sym c.in-Assumed.is) (λ read. c.is_assumed.ensures)

pub keeps_invariant-requires-clause-place : goal.keeps_invariant-requires-clause-place
keeps_invariant-requires-clause-place c =
    let g = c.args.given.now in
    let t = subst (IsAsked (model_in g) (map_in g) (cycles_in g)) c.in-Invariant.is c.requires.asked in
    omega (arith, t.counted.invariants, t.fact.0)

pub returns-in-Invariant : goal.returns-in-Invariant
returns-in-Invariant c =
    let g = c.args.given.now in
    subst (λ (q : Fact). IsReadAt c.args.shown.now.later_cycle (fact_of q) → IsTrue c.keeps_invariant.result ↔ Shows (model_in g) (map_in g) (values_in g) (fact_of q)) (sym c.in-Invariant.is) c.keeps_invariant.ensures

pub is_start-requires-clause-cycle : goal.is_start-requires-clause-cycle
is_start-requires-clause-cycle c =
    let g = c.args.given.now in
    let t = subst (IsAsked (model_in g) (map_in g) (cycles_in g)) c.in-Start.is c.requires.asked in
    t.fact

pub returns-in-Start : goal.returns-in-Start
returns-in-Start c =
    let g = c.args.given.now in
    subst (λ (q : Fact). IsReadAt c.args.shown.now.later_cycle (fact_of q) → IsTrue c.is_start.result ↔ Shows (model_in g) (map_in g) (values_in g) (fact_of q)) (sym c.in-Start.is) (λ read. c.is_start.ensures)

pub is_no_start-requires-clause-cycle : goal.is_no_start-requires-clause-cycle
is_no_start-requires-clause-cycle c =
    let g = c.args.given.now in
    let t = subst (IsAsked (model_in g) (map_in g) (cycles_in g)) c.in-NoStart.is c.requires.asked in
    t.fact

pub returns-in-NoStart : goal.returns-in-NoStart
returns-in-NoStart c =
    let g = c.args.given.now in
    subst (λ (q : Fact). IsReadAt c.args.shown.now.later_cycle (fact_of q) → IsTrue c.is_no_start.result ↔ Shows (model_in g) (map_in g) (values_in g) (fact_of q)) (sym c.in-NoStart.is) (λ read. c.is_no_start.ensures)

pub decodes-requires-clause-place : goal.decodes-requires-clause-place
decodes-requires-clause-place c =
    let g = c.args.given.now in
    let t = subst (IsAsked (model_in g) (map_in g) (cycles_in g)) c.in-Decoded.is c.requires.asked in
    t.fact

pub returns-in-Decoded : goal.returns-in-Decoded
returns-in-Decoded c =
    let g = c.args.given.now in
    subst (λ (q : Fact). IfOk c.decodes.result (λ b. IsReadAt c.args.shown.now.later_cycle (fact_of q) → IsTrue b ↔ Shows (model_in g) (map_in g) (values_in g) (fact_of q))) (sym c.in-Decoded.is) (IfOk-weaker c.decodes.result (λ b. IsTrue b ↔ Shows (model_in g) (map_in g) (values_in g) (decoded c.in-Decoded.place))
    (λ b. IsReadAt c.args.shown.now.later_cycle (decoded c.in-Decoded.place) → IsTrue b ↔ Shows (model_in g) (map_in g) (values_in g) (decoded c.in-Decoded.place)) (λ b h read. h) c.decodes.ensures)

pub commits-requires-clause-place : goal.commits-requires-clause-place
commits-requires-clause-place c =
    let g = c.args.given.now in
    let t = subst (IsAsked (model_in g) (map_in g) (cycles_in g)) c.in-Commit.is c.requires.asked in
    t.fact.0

pub commits-requires-clause-cycle : goal.commits-requires-clause-cycle
commits-requires-clause-cycle c =
    let g = c.args.given.now in
    let t = subst (IsAsked (model_in g) (map_in g) (cycles_in g)) c.in-Commit.is c.requires.asked in
    t.fact.1

pub returns-in-Commit : goal.returns-in-Commit
returns-in-Commit c =
    let g = c.args.given.now in
    subst (λ (q : Fact). IsReadAt c.args.shown.now.later_cycle (fact_of q) → IsTrue c.commits.result ↔ Shows (model_in g) (map_in g) (values_in g) (fact_of q)) (sym c.in-Commit.is) (λ read. c.commits.ensures)

pub does_not_commit-requires-clause-place : goal.does_not_commit-requires-clause-place
does_not_commit-requires-clause-place c =
    let g = c.args.given.now in
    let t = subst (IsAsked (model_in g) (map_in g) (cycles_in g)) c.in-NoCommit.is c.requires.asked in
    t.fact.0

pub does_not_commit-requires-clause-cycle : goal.does_not_commit-requires-clause-cycle
does_not_commit-requires-clause-cycle c =
    let g = c.args.given.now in
    let t = subst (IsAsked (model_in g) (map_in g) (cycles_in g)) c.in-NoCommit.is c.requires.asked in
    t.fact.1

pub returns-in-NoCommit : goal.returns-in-NoCommit
returns-in-NoCommit c =
    let g = c.args.given.now in
    subst (λ (q : Fact). IsReadAt c.args.shown.now.later_cycle (fact_of q) → IsTrue c.does_not_commit.result ↔ Shows (model_in g) (map_in g) (values_in g) (fact_of q)) (sym c.in-NoCommit.is) (λ read. c.does_not_commit.ensures)

pub has_initial-requires-clause-state : goal.has_initial-requires-clause-state
has_initial-requires-clause-state c =
    let g = c.args.given.now in
    let t = subst (IsAsked (model_in g) (map_in g) (cycles_in g)) c.in-Initial.is c.requires.asked in
    t.fact.0

pub returns-in-Initial : goal.returns-in-Initial
returns-in-Initial c =
    let g = c.args.given.now in
    subst (λ (q : Fact). IsReadAt c.args.shown.now.later_cycle (fact_of q) → IsTrue c.has_initial.result ↔ Shows (model_in g) (map_in g) (values_in g) (fact_of q)) (sym c.in-Initial.is) c.has_initial.ensures

pub is_same-requires-clause-state : goal.is_same-requires-clause-state
is_same-requires-clause-state c =
    let g = c.args.given.now in
    let t = subst (IsAsked (model_in g) (map_in g) (cycles_in g)) c.in-Same.is c.requires.asked in
    t.fact.0

pub returns-in-Same : goal.returns-in-Same
returns-in-Same c =
    let g = c.args.given.now in
    subst (λ (q : Fact). IsReadAt c.args.shown.now.later_cycle (fact_of q) → IsTrue c.is_same.result ↔ Shows (model_in g) (map_in g) (values_in g) (fact_of q)) (sym c.in-Same.is) c.is_same.ensures

pub returns-in-OneDecodes : goal.returns-in-OneDecodes
returns-in-OneDecodes c =
    let g = c.args.given.now in
    subst (λ (q : Fact). IfOk c.one_decodes.result (λ b. IsReadAt c.args.shown.now.later_cycle (fact_of q) → IsTrue b ↔ Shows (model_in g) (map_in g) (values_in g) (fact_of q))) (sym c.in-OneDecodes.is) (IfOk-weaker c.one_decodes.result (λ b. IsTrue b ↔ Shows (model_in g) (map_in g) (values_in g) (one_decodes))
    (λ b. IsReadAt c.args.shown.now.later_cycle (one_decodes) → IsTrue b ↔ Shows (model_in g) (map_in g) (values_in g) (one_decodes)) (λ b h read. h) c.one_decodes.ensures)

pub does_end-requires-clause-place : goal.does_end-requires-clause-place
does_end-requires-clause-place c =
    let g = c.args.given.now in
    let t = subst (IsAsked (model_in g) (map_in g) (cycles_in g)) c.in-Ends.is c.requires.asked in
    t.fact

pub returns-in-Ends : goal.returns-in-Ends
returns-in-Ends c =
    let g = c.args.given.now in
    subst (λ (q : Fact). IfOk c.does_end.result (λ b. IsReadAt c.args.shown.now.later_cycle (fact_of q) → IsTrue b ↔ Shows (model_in g) (map_in g) (values_in g) (fact_of q))) (sym c.in-Ends.is) (IfOk-weaker c.does_end.result (λ b. IsTrue b ↔ Shows (model_in g) (map_in g) (values_in g) (ends c.in-Ends.place))
    (λ b. IsReadAt c.args.shown.now.later_cycle (ends c.in-Ends.place) → IsTrue b ↔ Shows (model_in g) (map_in g) (values_in g) (ends c.in-Ends.place)) (λ b h read. h) c.does_end.ensures)

pub has_result-requires-clause-place : goal.has_result-requires-clause-place
has_result-requires-clause-place c =
    let g = c.args.given.now in
    let t = subst (IsAsked (model_in g) (map_in g) (cycles_in g)) c.in-ResultOf.is c.requires.asked in
    t.fact.0

pub has_result-requires-clause-state : goal.has_result-requires-clause-state
has_result-requires-clause-state c =
    let g = c.args.given.now in
    let t = subst (IsAsked (model_in g) (map_in g) (cycles_in g)) c.in-ResultOf.is c.requires.asked in
    t.fact.1

pub returns-in-ResultOf : goal.returns-in-ResultOf
returns-in-ResultOf c =
    let g = c.args.given.now in
    subst (λ (q : Fact). IfOk c.has_result.result (λ b. IsReadAt c.args.shown.now.later_cycle (fact_of q) → IsTrue b ↔ Shows (model_in g) (map_in g) (values_in g) (fact_of q))) (sym c.in-ResultOf.is) c.has_result.ensures

pub returns-in-Never : goal.returns-in-Never
returns-in-Never c =
    let g = c.args.given.now in
    subst (λ (q : Fact). IsReadAt c.args.shown.now.later_cycle (fact_of q) → IsTrue false ↔ Shows (model_in g) (map_in g) (values_in g) (fact_of q)) (sym c.in-Never.is)
    (λ read. (λ t. false≢true t, λ h. absurd h))

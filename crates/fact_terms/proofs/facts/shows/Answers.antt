use Rattle.std.proofs.Common.{length, sym, subst, arith}
use Rattle.std.specs.Prelude.{IfOk}
use Rattle.ila_model.specs.Model.{model_of}
use Rattle.mapped_designs.specs.View.{mapped_of}
use Rattle.mapped_designs.specs.Runs.{Shows}
use Rattle.condition_terms.specs.Told.{Tells}
use Rattle.obligation_lists.specs.declared.claims.Fact.{Fact}
use Rattle.obligation_lists.specs.Claims.{fact_of}
use Rattle.fact_terms.specs.Shown.{run_of}
use Rattle.fact_terms.specs.Asked.{IsTold}
use Rattle.fact_terms.proofs.facts.shows.Goals as goal

pub is_reset_active-requires-clause-cycle : goal.is_reset_active-requires-clause-cycle
is_reset_active-requires-clause-cycle c =
    let h = c.args.shared.now in
    let m = model_of h.model.now in
    let e = mapped_of h.mapped.now in
    let n = length h.read.now in
    let t = subst (IsTold m e n) c.in-ResetActive.is c.requires.told in
    t.fact

pub returns-in-ResetActive-clause-told : goal.returns-in-ResetActive-clause-told
returns-in-ResetActive-clause-told c =
    let h = c.args.shared.now in
    let m = model_of h.model.now in
    let e = mapped_of h.mapped.now in
    let n = length h.read.now in
    subst (λ (q : Fact). Tells c.args.terms.now c.is_reset_active.result.0 (λ v. Shows m e (run_of e n v) (fact_of q))) (sym c.in-ResetActive.is) (c.is_reset_active.ensures c.args.terms.now c.requires.ready)

pub is_reset_inactive-requires-clause-cycle : goal.is_reset_inactive-requires-clause-cycle
is_reset_inactive-requires-clause-cycle c =
    let h = c.args.shared.now in
    let m = model_of h.model.now in
    let e = mapped_of h.mapped.now in
    let n = length h.read.now in
    let t = subst (IsTold m e n) c.in-ResetInactive.is c.requires.told in
    t.fact

pub returns-in-ResetInactive-clause-told : goal.returns-in-ResetInactive-clause-told
returns-in-ResetInactive-clause-told c =
    let h = c.args.shared.now in
    let m = model_of h.model.now in
    let e = mapped_of h.mapped.now in
    let n = length h.read.now in
    subst (λ (q : Fact). IfOk c.is_reset_inactive.result (λ r. Tells c.is_reset_inactive.new.terms r.0 (λ v. Shows m e (run_of e n v) (fact_of q)))) (sym c.in-ResetInactive.is) c.is_reset_inactive.ensures.told

pub assumption-requires-clause-place : goal.assumption-requires-clause-place
assumption-requires-clause-place c =
    let h = c.args.shared.now in
    let m = model_of h.model.now in
    let e = mapped_of h.mapped.now in
    let n = length h.read.now in
    let t = subst (IsTold m e n) c.in-Assumed.is c.requires.told in
    omega (arith, t.counted.assume, t.fact.0)

pub assumption-requires-clause-cycle : goal.assumption-requires-clause-cycle
assumption-requires-clause-cycle c =
    let h = c.args.shared.now in
    let m = model_of h.model.now in
    let e = mapped_of h.mapped.now in
    let n = length h.read.now in
    let t = subst (IsTold m e n) c.in-Assumed.is c.requires.told in
    t.fact.1

pub returns-in-Assumed-clause-told : goal.returns-in-Assumed-clause-told
returns-in-Assumed-clause-told c =
    let h = c.args.shared.now in
    let m = model_of h.model.now in
    let e = mapped_of h.mapped.now in
    let n = length h.read.now in
    subst (λ (q : Fact). Tells c.args.terms.now c.assumption.result.0 (λ v. Shows m e (run_of e n v) (fact_of q))) (sym c.in-Assumed.is) (c.assumption.ensures c.args.terms.now c.requires.ready)

pub holds_invariant-requires-clause-place : goal.holds_invariant-requires-clause-place
holds_invariant-requires-clause-place c =
    let h = c.args.shared.now in
    let m = model_of h.model.now in
    let e = mapped_of h.mapped.now in
    let n = length h.read.now in
    let t = subst (IsTold m e n) c.in-Invariant.is c.requires.told in
    omega (arith, t.counted.invariants, t.fact.0)

pub holds_invariant-requires-clause-cycle : goal.holds_invariant-requires-clause-cycle
holds_invariant-requires-clause-cycle c =
    let h = c.args.shared.now in
    let m = model_of h.model.now in
    let e = mapped_of h.mapped.now in
    let n = length h.read.now in
    let t = subst (IsTold m e n) c.in-Invariant.is c.requires.told in
    t.fact.1

pub returns-in-Invariant-clause-told : goal.returns-in-Invariant-clause-told
returns-in-Invariant-clause-told c =
    let h = c.args.shared.now in
    let m = model_of h.model.now in
    let e = mapped_of h.mapped.now in
    let n = length h.read.now in
    subst (λ (q : Fact). Tells c.args.terms.now c.holds_invariant.result.0 (λ v. Shows m e (run_of e n v) (fact_of q))) (sym c.in-Invariant.is) (c.holds_invariant.ensures c.args.terms.now c.requires.ready)

pub is_start-requires-clause-cycle : goal.is_start-requires-clause-cycle
is_start-requires-clause-cycle c =
    let h = c.args.shared.now in
    let m = model_of h.model.now in
    let e = mapped_of h.mapped.now in
    let n = length h.read.now in
    let t = subst (IsTold m e n) c.in-Start.is c.requires.told in
    t.fact

pub returns-in-Start-clause-told : goal.returns-in-Start-clause-told
returns-in-Start-clause-told c =
    let h = c.args.shared.now in
    let m = model_of h.model.now in
    let e = mapped_of h.mapped.now in
    let n = length h.read.now in
    subst (λ (q : Fact). Tells c.args.terms.now c.is_start.result.0 (λ v. Shows m e (run_of e n v) (fact_of q))) (sym c.in-Start.is) (c.is_start.ensures c.args.terms.now c.requires.ready)

pub is_no_start-requires-clause-cycle : goal.is_no_start-requires-clause-cycle
is_no_start-requires-clause-cycle c =
    let h = c.args.shared.now in
    let m = model_of h.model.now in
    let e = mapped_of h.mapped.now in
    let n = length h.read.now in
    let t = subst (IsTold m e n) c.in-NoStart.is c.requires.told in
    t.fact

pub returns-in-NoStart-clause-told : goal.returns-in-NoStart-clause-told
returns-in-NoStart-clause-told c =
    let h = c.args.shared.now in
    let m = model_of h.model.now in
    let e = mapped_of h.mapped.now in
    let n = length h.read.now in
    subst (λ (q : Fact). IfOk c.is_no_start.result (λ r. Tells c.is_no_start.new.terms r.0 (λ v. Shows m e (run_of e n v) (fact_of q)))) (sym c.in-NoStart.is) c.is_no_start.ensures.told

pub decodes-requires-clause-place : goal.decodes-requires-clause-place
decodes-requires-clause-place c =
    let h = c.args.shared.now in
    let m = model_of h.model.now in
    let e = mapped_of h.mapped.now in
    let n = length h.read.now in
    let t = subst (IsTold m e n) c.in-Decoded.is c.requires.told in
    t.fact

pub returns-in-Decoded-clause-told : goal.returns-in-Decoded-clause-told
returns-in-Decoded-clause-told c =
    let h = c.args.shared.now in
    let m = model_of h.model.now in
    let e = mapped_of h.mapped.now in
    let n = length h.read.now in
    subst (λ (q : Fact). Tells c.args.terms.now c.decodes.result.0 (λ v. Shows m e (run_of e n v) (fact_of q))) (sym c.in-Decoded.is) (c.decodes.ensures c.args.terms.now c.requires.ready)

pub commits-requires-clause-place : goal.commits-requires-clause-place
commits-requires-clause-place c =
    let h = c.args.shared.now in
    let m = model_of h.model.now in
    let e = mapped_of h.mapped.now in
    let n = length h.read.now in
    let t = subst (IsTold m e n) c.in-Commit.is c.requires.told in
    t.fact.0

pub commits-requires-clause-cycle : goal.commits-requires-clause-cycle
commits-requires-clause-cycle c =
    let h = c.args.shared.now in
    let m = model_of h.model.now in
    let e = mapped_of h.mapped.now in
    let n = length h.read.now in
    let t = subst (IsTold m e n) c.in-Commit.is c.requires.told in
    t.fact.1

pub returns-in-Commit-clause-told : goal.returns-in-Commit-clause-told
returns-in-Commit-clause-told c =
    let h = c.args.shared.now in
    let m = model_of h.model.now in
    let e = mapped_of h.mapped.now in
    let n = length h.read.now in
    subst (λ (q : Fact). Tells c.args.terms.now c.commits.result.0 (λ v. Shows m e (run_of e n v) (fact_of q))) (sym c.in-Commit.is) (c.commits.ensures c.args.terms.now c.requires.ready)

pub is_no_commit-requires-clause-place : goal.is_no_commit-requires-clause-place
is_no_commit-requires-clause-place c =
    let h = c.args.shared.now in
    let m = model_of h.model.now in
    let e = mapped_of h.mapped.now in
    let n = length h.read.now in
    let t = subst (IsTold m e n) c.in-NoCommit.is c.requires.told in
    t.fact.0

pub is_no_commit-requires-clause-cycle : goal.is_no_commit-requires-clause-cycle
is_no_commit-requires-clause-cycle c =
    let h = c.args.shared.now in
    let m = model_of h.model.now in
    let e = mapped_of h.mapped.now in
    let n = length h.read.now in
    let t = subst (IsTold m e n) c.in-NoCommit.is c.requires.told in
    t.fact.1

pub returns-in-NoCommit-clause-told : goal.returns-in-NoCommit-clause-told
returns-in-NoCommit-clause-told c =
    let h = c.args.shared.now in
    let m = model_of h.model.now in
    let e = mapped_of h.mapped.now in
    let n = length h.read.now in
    subst (λ (q : Fact). IfOk c.is_no_commit.result (λ r. Tells c.is_no_commit.new.terms r.0 (λ v. Shows m e (run_of e n v) (fact_of q)))) (sym c.in-NoCommit.is) c.is_no_commit.ensures.told

pub has_initial-requires-clause-state : goal.has_initial-requires-clause-state
has_initial-requires-clause-state c =
    let h = c.args.shared.now in
    let m = model_of h.model.now in
    let e = mapped_of h.mapped.now in
    let n = length h.read.now in
    let t = subst (IsTold m e n) c.in-Initial.is c.requires.told in
    t.fact.0

pub has_initial-requires-clause-cycle : goal.has_initial-requires-clause-cycle
has_initial-requires-clause-cycle c =
    let h = c.args.shared.now in
    let m = model_of h.model.now in
    let e = mapped_of h.mapped.now in
    let n = length h.read.now in
    let t = subst (IsTold m e n) c.in-Initial.is c.requires.told in
    t.fact.1

pub returns-in-Initial-clause-told : goal.returns-in-Initial-clause-told
returns-in-Initial-clause-told c =
    let h = c.args.shared.now in
    let m = model_of h.model.now in
    let e = mapped_of h.mapped.now in
    let n = length h.read.now in
    subst (λ (q : Fact). IfOk c.has_initial.result (λ r. Tells c.has_initial.new.terms r.0 (λ v. Shows m e (run_of e n v) (fact_of q)))) (sym c.in-Initial.is) c.has_initial.ensures.told

pub is_same-requires-clause-state : goal.is_same-requires-clause-state
is_same-requires-clause-state c =
    let h = c.args.shared.now in
    let m = model_of h.model.now in
    let e = mapped_of h.mapped.now in
    let n = length h.read.now in
    let t = subst (IsTold m e n) c.in-Same.is c.requires.told in
    t.fact.0

pub is_same-requires-clause-cycle : goal.is_same-requires-clause-cycle
is_same-requires-clause-cycle c =
    let h = c.args.shared.now in
    let m = model_of h.model.now in
    let e = mapped_of h.mapped.now in
    let n = length h.read.now in
    let t = subst (IsTold m e n) c.in-Same.is c.requires.told in
    t.fact.1

pub returns-in-Same-clause-told : goal.returns-in-Same-clause-told
returns-in-Same-clause-told c =
    let h = c.args.shared.now in
    let m = model_of h.model.now in
    let e = mapped_of h.mapped.now in
    let n = length h.read.now in
    subst (λ (q : Fact). IfOk c.is_same.result (λ r. Tells c.is_same.new.terms r.0 (λ v. Shows m e (run_of e n v) (fact_of q)))) (sym c.in-Same.is) c.is_same.ensures.told

pub returns-in-OneDecodes-clause-told : goal.returns-in-OneDecodes-clause-told
returns-in-OneDecodes-clause-told c =
    let h = c.args.shared.now in
    let m = model_of h.model.now in
    let e = mapped_of h.mapped.now in
    let n = length h.read.now in
    subst (λ (q : Fact). Tells c.args.terms.now c.one_decodes_there.result.0 (λ v. Shows m e (run_of e n v) (fact_of q))) (sym c.in-OneDecodes.is) (c.one_decodes_there.ensures c.args.terms.now c.requires.ready)

pub does_end-requires-clause-place : goal.does_end-requires-clause-place
does_end-requires-clause-place c =
    let h = c.args.shared.now in
    let m = model_of h.model.now in
    let e = mapped_of h.mapped.now in
    let n = length h.read.now in
    let t = subst (IsTold m e n) c.in-Ends.is c.requires.told in
    t.fact

pub returns-in-Ends-clause-told : goal.returns-in-Ends-clause-told
returns-in-Ends-clause-told c =
    let h = c.args.shared.now in
    let m = model_of h.model.now in
    let e = mapped_of h.mapped.now in
    let n = length h.read.now in
    subst (λ (q : Fact). Tells c.args.terms.now c.does_end.result.0 (λ v. Shows m e (run_of e n v) (fact_of q))) (sym c.in-Ends.is) (c.does_end.ensures c.args.terms.now c.requires.ready)

pub has_result-requires-clause-place : goal.has_result-requires-clause-place
has_result-requires-clause-place c =
    let h = c.args.shared.now in
    let m = model_of h.model.now in
    let e = mapped_of h.mapped.now in
    let n = length h.read.now in
    let t = subst (IsTold m e n) c.in-ResultOf.is c.requires.told in
    t.fact.0

pub has_result-requires-clause-state : goal.has_result-requires-clause-state
has_result-requires-clause-state c =
    let h = c.args.shared.now in
    let m = model_of h.model.now in
    let e = mapped_of h.mapped.now in
    let n = length h.read.now in
    let t = subst (IsTold m e n) c.in-ResultOf.is c.requires.told in
    t.fact.1

pub has_result-requires-clause-cycle : goal.has_result-requires-clause-cycle
has_result-requires-clause-cycle c =
    let h = c.args.shared.now in
    let m = model_of h.model.now in
    let e = mapped_of h.mapped.now in
    let n = length h.read.now in
    let t = subst (IsTold m e n) c.in-ResultOf.is c.requires.told in
    t.fact.2

pub returns-in-ResultOf-clause-told : goal.returns-in-ResultOf-clause-told
returns-in-ResultOf-clause-told c =
    let h = c.args.shared.now in
    let m = model_of h.model.now in
    let e = mapped_of h.mapped.now in
    let n = length h.read.now in
    subst (λ (q : Fact). IfOk c.has_result.result (λ r. Tells c.has_result.new.terms r.0 (λ v. Shows m e (run_of e n v) (fact_of q)))) (sym c.in-ResultOf.is) c.has_result.ensures.told

pub returns-in-Never-clause-told : goal.returns-in-Never-clause-told
returns-in-Never-clause-told c =
    let h = c.args.shared.now in
    let m = model_of h.model.now in
    let e = mapped_of h.mapped.now in
    let n = length h.read.now in
    subst (λ (q : Fact). IfOk c.is_never.result (λ r. Tells c.is_never.new.terms r.0 (λ v. Shows m e (run_of e n v) (fact_of q)))) (sym c.in-Never.is) c.is_never.ensures.told

use Rattle.std.proofs.Common.{◌≡◌, ◌∙◌, ◌≤◌, ℕ, length, map, Some, None, sym, ap, subst, arith}
use Rattle.std.proofs.lemmas.Bool.{false≢true}
use Rattle.ila_model.specs.Model.{model_of}
use Rattle.mapped_designs.specs.View.{mapped_of}
use Rattle.obligation_lists.specs.Claims.{fact_of}
use Rattle.obligation_lists.specs.Within.{Each, IsFactOf}
use Rattle.shown_facts.specs.Values.{values_given}
use Rattle.shown_facts.specs.Noted.{IsReadAt}
use Rattle.trace_files.specs.Replay as pure
use Rattle.trace_replay.specs.Found.{AreReadAt, IsFirstFailing}
use Rattle.trace_replay.proofs.Facts.{later_read, later_within, found_of}
use Rattle.trace_replay.proofs.Sides.{failing_said, holding_said, falsifying_said, so_in}
use Rattle.trace_replay.proofs.replaying.replay.Goals as goal

pub show-requires-clause-given : goal.show-requires-clause-given
show-requires-clause-given c = record { sorted = c.requires.sorted; registers = c.requires.registers; inputs = c.requires.inputs }

pub show-requires-clause-later : goal.show-requires-clause-later
show-requires-clause-later c =
    let o = c.args.obligation.now in
    let within = later_within (model_of c.args.model.now) c.args.counts o.cycles o.claim c.requires.stated.1 in
    omega (arith, within, c.later_cycle-later.ensures, c.requires.cycles)

pub first_failing-requires-clause-given : goal.first_failing-requires-clause-given
first_failing-requires-clause-given c = record { sorted = c.requires.sorted; registers = c.requires.registers; inputs = c.requires.inputs }

pub first_failing-requires-clause-asked : goal.first_failing-requires-clause-asked
first_failing-requires-clause-asked c =
    let m = model_of c.args.model.now in
    let o = c.args.obligation.now in
    record {
      numbers = c.args.counts;
      counted = c.requires.counted;
      facts =
          subst (λ n. Each (IsFactOf m c.args.counts n) c.deref.result.now) (sym c.requires.cycles)
          (subst (Each (IsFactOf m c.args.counts o.cycles)) (sym c.deref.ensures.value) (c.in_ok-facts.ensures.within m o.cycles c.requires.stated.0));
    }

pub is_shown-requires-clause-given : goal.is_shown-requires-clause-given
is_shown-requires-clause-given c = record { sorted = c.requires.sorted; registers = c.requires.registers; inputs = c.requires.inputs }

pub is_shown-requires-clause-asked : goal.is_shown-requires-clause-asked
is_shown-requires-clause-asked c =
    let m = model_of c.args.model.now in
    let o = c.args.obligation.now in
    record { numbers = c.args.counts; counted = c.requires.counted; fact = subst (λ n. IsFactOf m c.args.counts n o.claim) (sym c.requires.cycles) c.requires.stated.1 }

-- ---- answers

pub returns-in-Some-clause-told : goal.returns-in-Some-clause-told
returns-in-Some-clause-told c =
    let m = model_of c.args.model.now in
    let e = mapped_of c.args.mapped.now in
    let o = c.args.obligation.now in
    let r = c.args.registers.now in
    let is = c.args.inputs.now in
    let x = values_given e.parts r is in
    let fs = c.deref.result.now in
    let l = c.in_ok-shown.shown.later_cycle in
    let found = subst (λ f. AreReadAt l (map fact_of fs) → IsFirstFailing m e x (map fact_of fs) f) c.in-Some.is c.in_ok-failing.ensures in
    λ s run set given. failing_said c.runs_show.ensures m e c.args.counts o r is s run set given c.in-Some.place (found_of m e x fs s.map o.hypotheses l (Some c.in-Some.place) (ap (map fact_of) c.deref.ensures.value ∙ c.in_ok-facts.ensures.listed m s.map set.counts_are) found)

pub returns-in-Some-clause-run : goal.returns-in-Some-clause-run
returns-in-Some-clause-run c =
    let m = model_of c.args.model.now in
    let e = mapped_of c.args.mapped.now in
    let o = c.args.obligation.now in
    let r = c.args.registers.now in
    let is = c.args.inputs.now in
    let x = values_given e.parts r is in
    let fs = c.deref.result.now in
    let l = c.in_ok-shown.shown.later_cycle in
    let found = subst (λ f. AreReadAt l (map fact_of fs) → IsFirstFailing m e x (map fact_of fs) f) c.in-Some.is c.in_ok-failing.ensures in
    so_in c.values_have_runs.ensures m e c.args.counts o r is (pure.hypothesis_fails c.in-Some.place) c.requires.registers c.requires.inputs (λ s run set given. failing_said c.runs_show.ensures m e c.args.counts o r is s run set given c.in-Some.place (found_of m e x fs s.map o.hypotheses l (Some c.in-Some.place) (ap (map fact_of) c.deref.ensures.value ∙ c.in_ok-facts.ensures.listed m s.map set.counts_are) found))

pub returns-then-holds-clause-told : goal.returns-then-holds-clause-told
returns-then-holds-clause-told c =
    let m = model_of c.args.model.now in
    let e = mapped_of c.args.mapped.now in
    let o = c.args.obligation.now in
    let r = c.args.registers.now in
    let is = c.args.inputs.now in
    let x = values_given e.parts r is in
    let fs = c.deref.result.now in
    let l = c.in_ok-shown.shown.later_cycle in
    let found = subst (λ f. AreReadAt l (map fact_of fs) → IsFirstFailing m e x (map fact_of fs) f) c.in_default.is c.in_ok-failing.ensures in
    let near = subst (λ k. IsReadAt k (fact_of o.claim)) (sym (c.in_ok-shown.ensures.later ∙ c.later_cycle-later.ensures)) (later_read o.claim) in
    λ s run set given. holding_said c.runs_show.ensures m e c.args.counts o r is s run set given c.in_ok-holds.holds (found_of m e x fs s.map o.hypotheses l None (ap (map fact_of) c.deref.ensures.value ∙ c.in_ok-facts.ensures.listed m s.map set.counts_are) found) (c.in_ok-holds.ensures near) c.if-holds.true

pub returns-then-holds-clause-run : goal.returns-then-holds-clause-run
returns-then-holds-clause-run c =
    let m = model_of c.args.model.now in
    let e = mapped_of c.args.mapped.now in
    let o = c.args.obligation.now in
    let r = c.args.registers.now in
    let is = c.args.inputs.now in
    let x = values_given e.parts r is in
    let fs = c.deref.result.now in
    let l = c.in_ok-shown.shown.later_cycle in
    let found = subst (λ f. AreReadAt l (map fact_of fs) → IsFirstFailing m e x (map fact_of fs) f) c.in_default.is c.in_ok-failing.ensures in
    let near = subst (λ k. IsReadAt k (fact_of o.claim)) (sym (c.in_ok-shown.ensures.later ∙ c.later_cycle-later.ensures)) (later_read o.claim) in
    so_in c.values_have_runs.ensures m e c.args.counts o r is pure.obligation_holds c.requires.registers c.requires.inputs (λ s run set given. holding_said c.runs_show.ensures m e c.args.counts o r is s run set given c.in_ok-holds.holds (found_of m e x fs s.map o.hypotheses l None (ap (map fact_of) c.deref.ensures.value ∙ c.in_ok-facts.ensures.listed m s.map set.counts_are) found) (c.in_ok-holds.ensures near) c.if-holds.true)

pub returns-clause-told : goal.returns-clause-told
returns-clause-told c =
    let m = model_of c.args.model.now in
    let e = mapped_of c.args.mapped.now in
    let o = c.args.obligation.now in
    let r = c.args.registers.now in
    let is = c.args.inputs.now in
    let x = values_given e.parts r is in
    let fs = c.deref.result.now in
    let l = c.in_ok-shown.shown.later_cycle in
    let found = subst (λ f. AreReadAt l (map fact_of fs) → IsFirstFailing m e x (map fact_of fs) f) c.in_default.is c.in_ok-failing.ensures in
    let near = subst (λ k. IsReadAt k (fact_of o.claim)) (sym (c.in_ok-shown.ensures.later ∙ c.later_cycle-later.ensures)) (later_read o.claim) in
    λ s run set given. falsifying_said c.runs_show.ensures m e c.args.counts o r is s run set given c.in_ok-holds.holds (found_of m e x fs s.map o.hypotheses l None (ap (map fact_of) c.deref.ensures.value ∙ c.in_ok-facts.ensures.listed m s.map set.counts_are) found) (c.in_ok-holds.ensures near) (λ t. false≢true (sym c.if-holds.false ∙ t))

pub returns-clause-run : goal.returns-clause-run
returns-clause-run c =
    let m = model_of c.args.model.now in
    let e = mapped_of c.args.mapped.now in
    let o = c.args.obligation.now in
    let r = c.args.registers.now in
    let is = c.args.inputs.now in
    let x = values_given e.parts r is in
    let fs = c.deref.result.now in
    let l = c.in_ok-shown.shown.later_cycle in
    let found = subst (λ f. AreReadAt l (map fact_of fs) → IsFirstFailing m e x (map fact_of fs) f) c.in_default.is c.in_ok-failing.ensures in
    let near = subst (λ k. IsReadAt k (fact_of o.claim)) (sym (c.in_ok-shown.ensures.later ∙ c.later_cycle-later.ensures)) (later_read o.claim) in
    so_in c.values_have_runs.ensures m e c.args.counts o r is pure.falsifies c.requires.registers c.requires.inputs (λ s run set given. falsifying_said c.runs_show.ensures m e c.args.counts o r is s run set given c.in_ok-holds.holds (found_of m e x fs s.map o.hypotheses l None (ap (map fact_of) c.deref.ensures.value ∙ c.in_ok-facts.ensures.listed m s.map set.counts_are) found) (c.in_ok-holds.ensures near) (λ t. false≢true (sym c.if-holds.false ∙ t)))

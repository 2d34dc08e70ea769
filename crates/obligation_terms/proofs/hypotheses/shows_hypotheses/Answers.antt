use Rattle.std.proofs.Common.{◌∙◌, [], map, length, refl, sym, ap, subst, arith}
use Rattle.std.proofs.lemmas.List.{length-map}
use Rattle.ila_model.specs.Model.{model_of}
use Rattle.mapped_designs.specs.View.{mapped_of, number_of}
use Rattle.mapped_designs.specs.Runs.{ShowsAll}
use Rattle.condition_terms.specs.Told.{Tells}
use Rattle.obligation_lists.specs.declared.claims.MapCounts.{MapCounts}
use Rattle.obligation_lists.specs.Claims.{fact_of}
use Rattle.obligation_lists.specs.Within.{IsFactOf}
use Rattle.fact_terms.specs.Shown.{run_of}
use Rattle.obligation_terms.proofs.Holding.{bare, counts_of, alike_there, each_same}
use Rattle.obligation_terms.proofs.hypotheses.shows_hypotheses.Goals as goal

pub shows_all-requires-clause-told : goal.shows_all-requires-clause-told
shows_all-requires-clause-told c =
    let h = c.args.shared.now in
    let m = model_of h.model.now in
    let e = mapped_of h.mapped.now in
    let n = length h.read.now in
    let s = c.requires.told in
    let counts : MapCounts = record { reset_cycles = h.mapped.now.reset_cycles; assume = c.len.result; invariants = c.len-2.result; bounds = record { ref_ptr = (0, 0); now = [] } } in
    record {
      numbers = counts;
      counted = record { reset_cycles = refl; assume = omega (arith, length-map h.mapped.now.assume.items number_of, c.len.ensures); invariants = omega (arith, length-map h.mapped.now.invariants.items number_of, c.len-2.ensures) };
      facts = each_same (IsFactOf m counts n) (sym c.deref.ensures.value) (c.in_ok-facts.ensures.within m n (alike_there m s.0 counts n c.args.given (sym s.1.reset_cycles) s.2));
    }

pub returns-clause-term : goal.returns-clause-term
returns-clause-term c = c.in_ok-id.ensures.told.condition

pub returns-clause-told : goal.returns-clause-told
returns-clause-told c p fits resets =
    let h = c.args.shared.now in
    let m = model_of h.model.now in
    let e = mapped_of h.mapped.now in
    let n = length h.read.now in
    let same = c.in_ok-facts.ensures.listed bare p (counts_of p e _ fits resets
    (record { reset_cycles = refl; assume = omega (arith, length-map h.mapped.now.assume.items number_of, c.len.ensures); invariants = omega (arith, length-map h.mapped.now.invariants.items number_of, c.len-2.ensures) }) refl) in
    subst (λ fs. Tells c.shows_all.new.terms c.in_ok-id.id.0 (λ v. ShowsAll m e (run_of e n v) fs)) (ap (map fact_of) c.deref.ensures.value ∙ same) c.in_ok-id.ensures.told

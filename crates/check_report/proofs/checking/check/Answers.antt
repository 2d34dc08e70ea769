-- What was found is a report of each setting, and where all is proved, each run refines.
use Rattle.std.proofs.Common.{◌≡◌, ◌++◌, ◌∙◌, ℕ, List, length, map, refl, sym, ap, subst, arith}
use Rattle.std.specs.Prelude.{count_by, string_bytes}
use Rattle.std.proofs.lemmas.List.{length-map}
use Rattle.model_meaning.specs.Model.{instructions_in}
use Rattle.ila_model.specs.Model.{model_of}
use Rattle.mapped_designs.specs.View.{mapped_of, instruction_view, number_of}
use Rattle.mapped_designs.specs.declared.design.MappedInstruction.{MappedInstruction}
use Rattle.obligation_lists.specs.Claims.{obligation_of}
use Rattle.obligation_lists.specs.declared.claims.MapCounts.{MapCounts}
use Rattle.obligation_lists.specs.declared.claims.Obligation.{Obligation}
use Rattle.fact_terms.specs.Asked.{AreCountsIn}
use Rattle.obligation_check.specs.Decided.{AreStated}
use Rattle.check_report.specs.Lines.{verdict_lines_by, cover_lines_by}
use Rattle.check_report.specs.Totals.{is_proved, is_failed, is_unknown, total_by, ending_by}
use Rattle.check_report.proofs.Reported.{named}
use Rattle.check_report.proofs.Counted.{stated_of, bounds_same, reported, all_refine}
use Rattle.check_report.proofs.checking.check.Goals as goal

pub obligations-requires : goal.obligations-requires
obligations-requires c =
    let is = c.args.mapped.now.instructions.items in
    ap length c.as_slice.ensures.value
    ∙ (ap length c.in_ok-bounds.ensures
    ∙ (length-map is (λ (i : MappedInstruction). i.bound) ∙ (sym (length-map is instruction_view) ∙ c.requires.sorted.instructions)))

pub decide-requires-clause-stated : goal.decide-requires-clause-stated
decide-requires-clause-stated c =
    let x = c.args.mapped.now in
    let m = model_of c.args.model.now in
    let e = mapped_of x in
    let counts : MapCounts = record { reset_cycles = x.reset_cycles; assume = c.len.result; invariants = c.len-2.result; bounds = c.as_slice.result } in
    let numbers : AreCountsIn e counts = record {
      reset_cycles = refl;
      assume = omega (arith, length-map x.assume.items number_of, c.len.ensures);
      invariants = omega (arith, length-map x.invariants.items number_of, c.len-2.ensures);
    } in
    subst (AreStated m e) (sym c.deref.ensures.value) (stated_of m e counts numbers c.in_ok-obligations.obligations.items c.in_ok-obligations.ensures.within)

pub report_text-requires-clause-obligations : goal.report_text-requires-clause-obligations
report_text-requires-clause-obligations c =
    c.in_ok-found.ensures.obligation_count ∙ ap length (c.deref.ensures.value ∙ sym c.deref-3.ensures.value)

pub report_text-requires-clause-covers : goal.report_text-requires-clause-covers
report_text-requires-clause-covers c =
    let is = instructions_in (model_of c.args.model.now).top in
    let names = c.in_ok-covers.covers.items in
    c.in_ok-found.ensures.cover_count
    ∙ (sym (length-map is named)
    ∙ (sym (ap length c.in_ok-covers.ensures) ∙ (length-map names string_bytes ∙ ap length (sym c.deref-4.ensures.value))))

pub returns-clause-report : goal.returns-clause-report
returns-clause-report c =
    let x = c.args.mapped.now in
    let m = model_of c.args.model.now in
    let e = mapped_of x in
    let budget = c.args.budget in
    let counts : MapCounts = record { reset_cycles = x.reset_cycles; assume = c.len.result; invariants = c.len-2.result; bounds = c.as_slice.result } in
    let numbers : AreCountsIn e counts = record {
      reset_cycles = refl;
      assume = omega (arith, length-map x.assume.items number_of, c.len.ensures);
      invariants = omega (arith, length-map x.invariants.items number_of, c.len-2.ensures);
    } in
    let os = c.deref.result.now in
    let names = c.in_ok-covers.covers.items in
    let xs = c.in_ok-found.found.obligations.items in
    let cs = c.in_ok-found.found.covers.items in
    let told = c.count_all-totals.result in
    let lines = λ (ps : List Obligation). verdict_lines_by e.parts budget ps xs in
    let covers = λ (ns : List (List ℕ)). cover_lines_by budget ns cs in
    let ns = map string_bytes names in
    let p : told.proved ≡ count_by is_proved xs = c.count_all-totals.ensures.proved ∙ ap (count_by is_proved) c.deref-2.ensures.value in
    let q : told.failed ≡ count_by is_failed xs = c.count_all-totals.ensures.failed ∙ ap (count_by is_failed) c.deref-2.ensures.value in
    let r : told.unknown ≡ count_by is_unknown xs = c.count_all-totals.ensures.unknown ∙ ap (count_by is_unknown) c.deref-2.ensures.value in
    reported m e counts numbers (bounds_same x.instructions.items ∙ (sym c.in_ok-bounds.ensures ∙ sym c.as_slice.ensures.value)) os
    (λ f h. ap (map (obligation_of f)) c.deref.ensures.value ∙ c.in_ok-obligations.ensures.listed f h) budget xs c.in_ok-found.ensures.obligation_count
    c.in_ok-found.ensures.found c.traces_tell.ensures ns cs c.in_ok-text.text.items _ c.in_ok-spent.spent.items c.in_ok-covers.ensures
    c.in_ok-found.ensures.covers
    (c.in_ok-text.ensures
    ∙ (ap (λ ps. lines ps ++ covers (map string_bytes c.deref-4.result.now) ++ total_by told.proved told.failed told.unknown)
    (c.deref-3.ensures.value ∙ sym c.deref.ensures.value)
    ∙ (ap (λ ms. lines os ++ covers (map string_bytes ms) ++ total_by told.proved told.failed told.unknown) c.deref-4.ensures.value
    ∙ (ap (λ n. lines os ++ covers ns ++ total_by n told.failed told.unknown) p
    ∙ (ap (λ n. lines os ++ covers ns ++ total_by (count_by is_proved xs) n told.unknown) q
    ∙ ap (λ n. lines os ++ covers ns ++ total_by (count_by is_proved xs) (count_by is_failed xs) n) r)))))
    (c.ending_of.ensures ∙ (ap (λ n. ending_by n told.unknown) q ∙ ap (λ n. ending_by (count_by is_failed xs) n) r)) c.in_ok-spent.ensures

pub returns-clause-refines : goal.returns-clause-refines
returns-clause-refines c =
    let x = c.args.mapped.now in
    let m = model_of c.args.model.now in
    let e = mapped_of x in
    let counts : MapCounts = record { reset_cycles = x.reset_cycles; assume = c.len.result; invariants = c.len-2.result; bounds = c.as_slice.result } in
    let numbers : AreCountsIn e counts = record {
      reset_cycles = refl;
      assume = omega (arith, length-map x.assume.items number_of, c.len.ensures);
      invariants = omega (arith, length-map x.invariants.items number_of, c.len-2.ensures);
    } in
    let xs = c.in_ok-found.found.obligations.items in
    let told = c.count_all-totals.result in
    let q : told.failed ≡ count_by is_failed xs = c.count_all-totals.ensures.failed ∙ ap (count_by is_failed) c.deref-2.ensures.value in
    let r : told.unknown ≡ count_by is_unknown xs = c.count_all-totals.ensures.unknown ∙ ap (count_by is_unknown) c.deref-2.ensures.value in
    all_refine m e counts numbers (bounds_same x.instructions.items ∙ (sym c.in_ok-bounds.ensures ∙ sym c.as_slice.ensures.value)) c.deref.result.now
    (λ f h. ap (map (obligation_of f)) c.deref.ensures.value ∙ c.in_ok-obligations.ensures.listed f h) c.args.budget xs c.in_ok-found.ensures.obligation_count
    c.in_ok-found.ensures.found c.traces_tell.ensures c.ending_of.result c.obligations_give_refinement.ensures
    (c.ending_of.ensures ∙ (ap (λ n. ending_by n told.unknown) q ∙ ap (λ n. ending_by (count_by is_failed xs) n) r))

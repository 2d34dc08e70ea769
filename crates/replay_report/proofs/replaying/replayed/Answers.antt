use Rattle.std.proofs.Common.{◌≡◌, ◌∙◌, ◌<◌, ℕ, List, length, map, Some, refl, sym, ap, subst, arith, slice_get}
use Rattle.std.specs.Prelude.{All, string_bytes}
use Rattle.std.proofs.lemmas.List.{length-map}
use Rattle.std.proofs.lemmas.Option.{slice_get-get_or}
use Rattle.refinement.specs.Map.{Map, Setting}
use Rattle.ila_model.specs.Model.{model_of}
use Rattle.v_design.specs.Parts.{inputs_of}
use Rattle.v_design.specs.Seen.{input_values}
use Rattle.v_design.specs.declared.values.Inputs.{Inputs}
use Rattle.wb_terms.specs.Environment.{AreOfSorts}
use Rattle.mapped_designs.specs.Mapped.{Mapped}
use Rattle.mapped_designs.specs.View.{mapped_of, instruction_view, number_of}
use Rattle.mapped_designs.specs.declared.design.MappedInstruction.{MappedInstruction}
use Rattle.obligation_lists.specs.Claims.{obligation_of}
use Rattle.obligation_lists.specs.Counts.{AreCountsOf}
use Rattle.obligation_lists.specs.Within.{IsObligationOf}
use Rattle.obligation_lists.specs.declared.claims.MapCounts.{MapCounts}
use Rattle.obligation_lists.specs.declared.claims.Obligation.{Obligation}
use Rattle.fact_terms.specs.Asked.{AreCountsIn}
use Rattle.refinement.specs.Run.{Run}
use Rattle.trace_files.specs.Replay.{IsSo, replay_line}
use Rattle.trace_replay.specs.Replayed.{IsSettingOf, IsGivenRun, HasRunFrom, IsSoIn, replayed_view}
use Rattle.obligation_check.specs.Decided.{IsSettingBy}
use Rattle.check_report.proofs.Counted.{bounds_same, counts_of, all}
use Rattle.replay_report.proofs.Told.{each_at, setting_for, told}
use Rattle.replay_report.proofs.replaying.replayed.Goals as goal

pub obligations-requires : goal.obligations-requires
obligations-requires c =
    let is = c.args.mapped.now.instructions.items in
    ap length c.as_slice.ensures.value
    ∙ (ap length c.in_ok-bounds.ensures
    ∙ (length-map is (λ (i : MappedInstruction). i.bound) ∙ (sym (length-map is instruction_view) ∙ c.requires.sorted.instructions)))

pub index-obligation-requires : goal.index-obligation-requires
index-obligation-requires c =
    let v = rw c.in-Trace.is at c.in_ok-trace.ensures.values in
    omega (arith, v.listed, ap length c.deref.ensures.value)

pub replay-requires-clause-registers : goal.replay-requires-clause-registers
replay-requires-clause-registers c = let v = rw c.in-Trace.is at c.in_ok-trace.ensures.values in v.registers

pub replay-requires-clause-inputs : goal.replay-requires-clause-inputs
replay-requires-clause-inputs c =
    let v = rw c.in-Trace.is at c.in_ok-trace.ensures.values in
    subst (All (λ (i : Inputs). AreOfSorts (inputs_of (mapped_of c.args.mapped.now).parts) (input_values i))) (sym c.deref-in-Trace.ensures.value) v.inputs

pub replay-requires-clause-cycles : goal.replay-requires-clause-cycles
replay-requires-clause-cycles c =
    let v = rw c.in-Trace.is at c.in_ok-trace.ensures.values in
    let os = c.in_ok-list.list.items in
    let k = c.in-Trace.trace.obligation in
    let within = subst (λ (os : List Obligation). k < length os) c.deref.ensures.value v.listed in
    ap length c.deref-in-Trace.ensures.value
    ∙ v.cycles c.index-obligation.result.now
    (ap (λ (xs : List Obligation). slice_get xs k) c.deref.ensures.value ∙ (slice_get-get_or os k c.index-obligation.result.now within ∙ ap Some (sym c.index-obligation.ensures)))

pub replay-requires-clause-counted : goal.replay-requires-clause-counted
replay-requires-clause-counted c =
    let x = c.args.mapped.now in
    record {
      assume = omega (arith, length-map x.assume.items number_of, c.len.ensures);
      invariants = omega (arith, length-map x.invariants.items number_of, c.len-2.ensures);
    }

pub replay-requires-clause-stated : goal.replay-requires-clause-stated
replay-requires-clause-stated c =
    let v = rw c.in-Trace.is at c.in_ok-trace.ensures.values in
    let x = c.args.mapped.now in
    let counts : MapCounts = record { reset_cycles = x.reset_cycles; assume = c.len.result; invariants = c.len-2.result; bounds = c.as_slice.result } in
    let os = c.in_ok-list.list.items in
    let k = c.in-Trace.trace.obligation in
    let within = subst (λ (os : List Obligation). k < length os) c.deref.ensures.value v.listed in
    each_at (IsObligationOf (model_of c.args.model.now) counts) os k c.index-obligation.result.now c.in_ok-list.ensures.within
    (slice_get-get_or os k c.index-obligation.result.now within ∙ ap Some (sym c.index-obligation.ensures))

pub returns-in-Trace : goal.returns-in-Trace
returns-in-Trace c s own =
    let v = rw c.in-Trace.is at c.in_ok-trace.ensures.values in
    let g = c.in-Trace.trace in
    let x = c.args.mapped.now in
    let m = model_of c.args.model.now in
    let e = mapped_of x in
    let counts : MapCounts = record { reset_cycles = x.reset_cycles; assume = c.len.result; invariants = c.len-2.result; bounds = c.as_slice.result } in
    let numbers : AreCountsIn e counts = record {
      reset_cycles = refl;
      assume = omega (arith, length-map x.assume.items number_of, c.len.ensures);
      invariants = omega (arith, length-map x.invariants.items number_of, c.len-2.ensures);
    } in
    let same : map (λ i. i.bound) e.instructions ≡ counts.bounds.now = bounds_same x.instructions.items ∙ (sym c.in_ok-bounds.ensures ∙ sym c.as_slice.ensures.value) in
    let os = c.deref.result.now in
    let k = g.obligation in
    let p = c.index-obligation.result.now in
    let given = λ (f : Map) (h : AreCountsOf m f counts). ap (map (obligation_of f)) c.deref.ensures.value ∙ c.in_ok-list.ensures.listed f h in
    let there : slice_get os k ≡ Some p =
    ap (λ (xs : List Obligation). slice_get xs k) c.deref.ensures.value
    ∙ (slice_get-get_or c.in_ok-list.list.items k p (subst (λ (xs : List Obligation). k < length xs) c.deref.ensures.value v.listed) ∙ ap Some (sym c.index-obligation.ensures)) in
    let counted = counts_of m e counts numbers same os given in
    let listed = all m e counts numbers same os given in
    let read = (rw c.in-Trace.is at c.in_ok-trace.ensures.told) s (setting_for m e counts os counted listed s own) in
    let runs : IsSettingOf m e counts p s → HasRunFrom e g.registers s → IsSoIn e p g.registers g.inputs.items s (replayed_view c.in_ok-answer-in-Trace.answer) =
    subst (λ is. IsSettingOf m e counts p s → HasRunFrom e g.registers s → IsSoIn e p g.registers is s (replayed_view c.in_ok-answer-in-Trace.answer)) c.deref-in-Trace.ensures.value
    (c.in_ok-answer-in-Trace.ensures.run s) in
    let each : (run : Run) → IsSettingOf m e counts p s → IsGivenRun e p g.registers g.inputs.items s run → IsSo s run (obligation_of s.map p) (replayed_view c.in_ok-answer-in-Trace.answer) =
    subst (λ is. (run : Run) → IsSettingOf m e counts p s → IsGivenRun e p g.registers is s run → IsSo s run (obligation_of s.map p) (replayed_view c.in_ok-answer-in-Trace.answer)) c.deref-in-Trace.ensures.value
    (c.in_ok-answer-in-Trace.ensures.told s) in
    told m e counts os counted listed s own c.obligations_are_within.ensures c.runs_are_told.ensures c.args.bytes.now g p there read.0 read.1 read.2 read.3 c.runs_have_values.ensures
    (replayed_view c.in_ok-answer-in-Trace.answer) (string_bytes c.in_ok-line-in-Trace.line) runs each
    (c.in_ok-line-in-Trace.ensures ∙ ap (λ n. replay_line n (replayed_view c.in_ok-answer-in-Trace.answer)) c.deref-in-Trace-2.ensures)

pub returns : goal.returns
returns c s own =
    let x = c.args.mapped.now in
    let m = model_of c.args.model.now in
    let e = mapped_of x in
    let counts : MapCounts = record { reset_cycles = x.reset_cycles; assume = c.len.result; invariants = c.len-2.result; bounds = c.as_slice.result } in
    let numbers : AreCountsIn e counts = record {
      reset_cycles = refl;
      assume = omega (arith, length-map x.assume.items number_of, c.len.ensures);
      invariants = omega (arith, length-map x.invariants.items number_of, c.len-2.ensures);
    } in
    let same : map (λ i. i.bound) e.instructions ≡ counts.bounds.now = bounds_same x.instructions.items ∙ (sym c.in_ok-bounds.ensures ∙ sym c.as_slice.ensures.value) in
    let os = c.deref.result.now in
    let given = λ (f : Map) (h : AreCountsOf m f counts). ap (map (obligation_of f)) c.deref.ensures.value ∙ c.in_ok-list.ensures.listed f h in
    (rw c.in-Refused.is at c.in_ok-trace.ensures.told) s (setting_for m e counts os (counts_of m e counts numbers same os given) (all m e counts numbers same os given) s own)

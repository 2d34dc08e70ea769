-- A trace of the list's obligation, replayed, is told for each setting of the model and the design with its map.
use Rattle.std.proofs.Common.{◌≡◌, ◌∙◌, ℕ, zero, suc, ◌<◌, List, [], ◌∷◌, length, map, Some, None, Option, option_map, slice_get, Contains, refl, sym, ap, subst, arith, string_bytes}
use Rattle.std.specs.Prelude.{unwrap_or}
use Rattle.std.proofs.lemmas.Option.{slice_get-map}
use Rattle.std.proofs.lemmas.List.{length-map}
use Rattle.wb_values.specs.Value.{Value, number}
use Rattle.model_meaning.specs.Model.{Model}
use Rattle.refinement.specs.Map.{Setting, design_of}
use Rattle.refinement.specs.Run.{Run, IsRun}
use Rattle.refinement.specs.Obligation as pure
use Rattle.reports.specs.Report.{Trace as PureTrace}
use Rattle.trace_files.specs.Meaning.{IsTraceReading, traces, is_trace, IsFittingTrace, IsFullFor}
use Rattle.trace_files.specs.Replay.{Replayed, IsToldBy, IsSo, replay_line}
use Rattle.wb_terms.specs.Environment.{AreOfSorts}
use Rattle.v_design.specs.Parts.{Parts, registers_of, inputs_of}
use Rattle.v_design.specs.Design.{values_under}
use Rattle.v_design.specs.Seen.{register_values, input_values}
use Rattle.v_design.specs.declared.values.Inputs.{Inputs}
use Rattle.mapped_designs.specs.Mapped.{Mapped}
use Rattle.mapped_designs.specs.Runs.{IsRestZero}
use Rattle.mapped_runs.specs.Valued.{HasValues, RunsHaveValues}
use Rattle.mapped_runs.specs.Breaking.{IsWithinCycles, ObligationsAreWithin}
use Rattle.obligation_lists.specs.Claims.{obligation_of}
use Rattle.obligation_lists.specs.Counts.{AreCountsOf}
use Rattle.obligation_lists.specs.Within.{Each}
use Rattle.obligation_lists.specs.declared.claims.MapCounts.{MapCounts}
use Rattle.obligation_lists.specs.declared.claims.Obligation.{Obligation}
use Rattle.obligation_check.specs.Decided.{IsSettingBy}
use Rattle.obligation_check.proofs.Verdicts.{viewed}
use Rattle.shown_facts.specs.Values.{inputs_given, values_given}
use Rattle.trace_reading.specs.Reading.{cycles_view}
use Rattle.trace_reading.specs.Told as readings
use Rattle.trace_reading.specs.Told.{IsSettingFor, IsReadFor, IsGivenBy, RunsAreTold}
use Rattle.trace_reading.specs.declared.outcome.FileTrace.{FileTrace}
use Rattle.trace_reading.specs.declared.outcome.TraceRead.TheVariants.{Trace}
use Rattle.trace_replay.specs.Replayed.{IsSettingOf, IsGivenRun, IsSoIn, HasRunFrom}
use Rattle.replay_report.specs.Ending.{IsTold}
use Rattle.replay_report.proofs.Each as each_of
use Rattle.replay_report.proofs.Each.{first_same, item_there}

some_same : {A : Type 0} (x y : A) → Some x ≡ Some y → x ≡ y
some_same x y e = ap (λ o. unwrap_or o x) e

-- what a reading says of a trace
record Reads (s : Setting) (bytes : List ℕ) (t : PureTrace) (o : pure.Obligation) : Type 0 where
  fits : IsFittingTrace (design_of s) t
  full : IsFullFor s o t

reads : (s : Setting) (bytes : List ℕ) (t : PureTrace) (o : pure.Obligation) → IsTraceReading s bytes (traces o t) → Reads s bytes t o
reads s bytes t o (is_trace _ _ says named full) = record { fits = says.fits; full = full }

-- the inputs of a cycle, as the reader and as the replay have them
inputs_same : (d : Parts) (is : List Inputs) (k : ℕ) (ns : List ℕ) → slice_get (cycles_view is) k ≡ Some ns → inputs_given d is k ≡ map number ns
inputs_same d [] k ns e = cc
inputs_same d (i ∷ is) zero ns e =
    let same : i.numbers.items ≡ ns = some_same i.numbers.items ns e in
    ap (map number) same
inputs_same d (i ∷ is) (suc k) ns e = inputs_same d is k ns e

below_length : {A : Type 0} (xs : List A) (k : ℕ) (x : A) → slice_get xs k ≡ Some x → k < length xs
below_length [] k x e = cc
below_length (y ∷ ys) zero x e = omega arith
below_length (y ∷ ys) (suc k) x e = let l = below_length ys k x e in omega (arith, l)

-- what each element of a list is, one of it is
pub each_at : {A : Type 0} (P : A → Type 0) (xs : List A) (k : ℕ) (x : A) → Each P xs → slice_get xs k ≡ Some x → P x
each_at P [] k x h e = cc
each_at P (y ∷ xs) zero x h e = subst P (some_same y x e) h.0
each_at P (y ∷ xs) (suc k) x h e = each_at P xs k x h.1 e

module _ (m : Model) (e : Mapped) (counts : MapCounts) (os : List Obligation)
    (counted : (s : Setting) → IsSettingBy m e s → AreCountsOf m s.map counts)
    (listed : (s : Setting) → IsSettingBy m e s → map (obligation_of s.map) os ≡ pure.obligations s.model s.map)
    (s : Setting) (own : IsSettingBy m e s) where
  pub setting_for : IsSettingFor s e.parts os
  setting_for = record { design = own.mapped.design; of_text = own.of_text; listed = listed s own }

  module _ (within : ObligationsAreWithin) (are_told : RunsAreTold) (bytes : List ℕ) (g : FileTrace) (p : Obligation) (there : slice_get os g.obligation ≡ Some p)
      (t : PureTrace) (o : pure.Obligation) (reading : IsTraceReading s bytes (traces o t)) (given : IsGivenBy s e.parts t o g) where
    same : o ≡ obligation_of s.map p
    same =
        some_same o (obligation_of s.map p)
        (sym given.obligation ∙ ap (λ os. slice_get os g.obligation) (sym (listed s own))
        ∙ slice_get-map (obligation_of s.map) os g.obligation ∙ ap (option_map (obligation_of s.map)) there)

    among : Contains (pure.obligations s.model s.map) (obligation_of s.map p)
    among = subst (λ os. Contains os (obligation_of s.map p)) (listed s own) (viewed (obligation_of s.map) os g.obligation p there)

    setting_of : IsSettingOf m e counts p s
    setting_of = record {
      model = own.model;
      mapped = own.mapped;
      sound = own.sound;
      counts_are = counted s own;
      within = within s (obligation_of s.map p) own.complete among;
    }

    has_run : HasRunFrom e g.registers s
    has_run = record { accepted = own.accepted; of_text = own.of_text; rest = given.registers.rest }

    values : (run : Run) → IsGivenRun e p g.registers g.inputs.items s run → readings.HasValues e.parts run (register_values g.registers) (cycles_view g.inputs.items)
    values run is = record {
      first = is.values.first;
      inputs = λ k ns at.
          let full = (reads s bytes t o reading).full in
          let low = below_length (cycles_view g.inputs.items) k ns at in
          let long : p.cycles ≡ length (cycles_view g.inputs.items) = ap (λ (q : pure.Obligation). q.cycles) (sym same) ∙ (sym full.cycles ∙ sym given.cycles.all) in
          is.values.inputs k (omega (arith, low, long)) ∙ inputs_same e.parts g.inputs.items k ns at;
    }

    -- a run that the trace tells is one from the values that were read
    given_run : RunsHaveValues → (run : Run) → IsRun s run o.cycles → IsToldBy s run t → IsGivenRun e p g.registers g.inputs.items s run
    given_run have run is_run is_told =
        let full = (reads s bytes t o reading).full in
        let x = have s e.parts run o.cycles own.mapped.design own.sound is_run in
        let first : values_under (registers_of e.parts) (run.registers 0) ≡ register_values g.registers =
        first_same s e.parts o t run own.mapped.design own.of_text own.sound.counting own.sound.words full is_told (register_values g.registers) given.registers
        (subst (AreOfSorts (registers_of e.parts)) (sym x.1.first) x.2.first) (subst (IsRestZero e.parts) (sym x.1.first) x.3) in
        let here : p.cycles ≡ o.cycles = sym (ap (λ (q : pure.Obligation). q.cycles) same) in
        record {
          is_run = subst (IsRun s run) (sym here) is_run;
          values = record {
            first = first;
            inputs = λ k l.
                let low : k < length t.inputs = omega (arith, l, here, full.cycles) in
                let ns = item_there (cycles_view g.inputs.items) k (omega (arith, low, given.cycles.all)) in
                each_of.inputs_same s e.parts o t run own.mapped.design own.of_text own.sound.counting own.sound.words full is_told (cycles_view g.inputs.items) given.cycles k ns.0 ns.1 low
                ∙ sym (inputs_same e.parts g.inputs.items k ns.0 ns.1);
          };
        }

    pub told : RunsHaveValues → (a : Replayed) (line : List ℕ)
        → (IsSettingOf m e counts p s → HasRunFrom e g.registers s → IsSoIn e p g.registers g.inputs.items s a)
        → ((run : Run) → IsSettingOf m e counts p s → IsGivenRun e p g.registers g.inputs.items s run → IsSo s run (obligation_of s.map p) a)
        → line ≡ replay_line (string_bytes p.name) a → IsTold s bytes a line
    told have a line runs each is =
        let so = runs setting_of has_run in
        let run = so.0 in
        let fits = (reads s bytes t o reading).fits in
        record {
          obligation = o;
          trace = t;
          is_read = reading;
          is_replay = (
            run,
            subst (λ (q : pure.Obligation). IsRun s run q.cycles) (sym same) so.1.is_run,
            are_told s e.parts t run (register_values g.registers) (cycles_view g.inputs.items) own.mapped.design own.of_text own.sound.counting own.sound.words fits given.registers given.cycles
                (values run so.1),
            subst (λ (q : pure.Obligation). IsSo s run q a) (sym same) so.2,
          );
          each_run = λ r is_run is_told.
              subst (λ (q : pure.Obligation). IsSo s r q a) (sym same) (each r setting_of (given_run have r is_run is_told));
          is_line = is ∙ ap (λ (q : pure.Obligation). replay_line q.called a) (sym same);
        }

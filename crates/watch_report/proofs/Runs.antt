-- Runs of a script have its values, and values of a script have such a run.
use Rattle.std.proofs.Common.{◌≡◌, ◌∙◌, ℕ, zero, suc, ◌<◌, List, [], ◌∷◌, length, get_or, drop, map, Some, slice_get, All, refl, sym, ap, subst, arith}
use Rattle.std.proofs.lemmas.Option.{same_Some}
use Rattle.std.proofs.lemmas.List.{length-map}
use Rattle.std.proofs.lemmas.List.Elements.{All-head, All-tail}
use Rattle.wb_values.specs.Value.{Value, number, Valuation}
use Rattle.model_meaning.specs.Model.{Model}
use Rattle.scripts.specs.Script.{Set, with_sets}
use Rattle.verilog_meaning.specs.Settled.{Design}
use Rattle.refinement.specs.Map.{Setting, design_of}
use Rattle.refinement.specs.Run.{Run, IsRun}
use Rattle.watched_runs.specs.Watched.{Watched, IsWatched, IsWatchedLine}
use Rattle.design_scripts.specs.Names.{IsSetInput}
use Rattle.design_scripts.specs.Simulation.{AreZero, line_inputs}
use Rattle.wb_terms.specs.Environment.{AreOfSorts}
use Rattle.v_design.specs.Parts.{Parts, registers_of, inputs_of}
use Rattle.v_design.specs.Design.{values_under, IsDesignOf}
use Rattle.v_design.specs.Seen.{input_values}
use Rattle.v_design.specs.declared.values.Inputs.{Inputs}
use Rattle.mapped_designs.specs.Mapped.{Mapped}
use Rattle.mapped_designs.specs.Runs.{Values, AreValuesOf, zero_inputs}
use Rattle.mapped_runs.specs.Sound.{IsSoundDesign}
use Rattle.mapped_runs.specs.Valued.{HasValues}
use Rattle.mapped_runs.specs.Existing.{ValuesHaveRuns}
use Rattle.mapped_runs.proofs.Cycles as of_runs
use Rattle.obligation_check.specs.Decided.{IsSettingBy}
use Rattle.v_sim.specs.Names.{input_settable, input_settables}
use Rattle.v_sim.proofs.Lists.{name_at, sort_at, values_at}
use Rattle.v_sim.proofs.Settings.{inputs_named, input_there}
use Rattle.v_sim.proofs.Named.{register_at, register_found, input_found, are_settables}
use Rattle.v_sim.proofs.First.{zeroed, are_zero, alike}
use Rattle.script_cycles.specs.Values.{AreValuesFor}
use Rattle.script_cycles.specs.Read.{AreCyclesOf}
use Rattle.script_cycles.specs.declared.values.ScriptCycles.{ScriptCycles}
use Rattle.run_watch.specs.View.{inputs_among, values_of_script}
use Rattle.run_watch.specs.Watch.{IsWatchOf}
use Rattle.watch_report.specs.Script.{HaveSameRegisters, HaveSameInputs, IsRunOfScript}
use Rattle.watch_report.specs.Ending.{IsTold}

there : {X : Type 0} (xs : List X) (t : ℕ) → t < length xs → (x : X) × (slice_get xs t ≡ Some x)
there [] t l = absurd (omega (arith, l))
there (x ∷ xs) zero l = (x, refl)
there (x ∷ xs) (suc t) l = there xs t (omega (arith, l))

below_length : {X : Type 0} (xs : List X) (t : ℕ) (x : X) → slice_get xs t ≡ Some x → t < length xs
below_length [] t x e = absurd cc
below_length (y ∷ ys) zero x e = omega arith
below_length (y ∷ ys) (suc t) x e = let l = below_length ys t x e in omega (arith, l)

-- ---- values and what they are of

module _ (d : Design) (e : Parts) (meant : IsDesignOf d e) (sound : IsSoundDesign e) where
  -- the same registers, by their values and by their names
  registers_by_values : (v w : Valuation) → values_under (registers_of e) v ≡ values_under (registers_of e) w → HaveSameRegisters d v w
  registers_by_values v w h p n r =
      let ns = registers_of e in
      let f = register_found d e meant sound.counting sound.words p n r in
      ap v (sym f.2)
      ∙ (sym (values_at ns v f.0 (number 0) f.1)
      ∙ (ap (λ (xs : List Value). get_or xs f.0 (number 0)) h
      ∙ (values_at ns w f.0 (number 0) f.1 ∙ ap w f.2)))

  values_of_registers : (v w : Valuation) → HaveSameRegisters d v w → values_under (registers_of e) v ≡ values_under (registers_of e) w
  values_of_registers v w h =
      alike (registers_of e) (λ n. v n.0) (λ n. w n.0) (λ k l.
      let r = register_at d e meant sound.counting sound.words k l in
      ap v r.called ∙ (h r.place r.name r.is_register ∙ ap w (sym r.called)))

  -- and the same inputs
  inputs_by_values : (v w : Valuation) → values_under (inputs_of e) v ≡ values_under (inputs_of e) w → HaveSameInputs d v w
  inputs_by_values v w h n i =
      let ns = inputs_of e in
      let f = input_found d e meant sound.counting sound.words n i in
      ap v (sym f.2)
      ∙ (sym (values_at ns v f.0 (number 0) f.1)
      ∙ (ap (λ (xs : List Value). get_or xs f.0 (number 0)) h
      ∙ (values_at ns w f.0 (number 0) f.1 ∙ ap w f.2)))

  set_input : (k : ℕ) → k < length (inputs_of e) → IsSetInput d (name_at (inputs_of e) k)
  set_input k l =
      let ns = inputs_of e in
      let t = input_settable (name_at ns k) (sort_at ns k) in
      let within : k < length (input_settables ns) = subst (λ n. k < n) (sym (inputs_named ns).all) l in
      ((are_settables d e meant sound.counting sound.words).inputs t (k, within, input_there ns k t l)).is_input

  values_of_inputs : (v w : Valuation) → HaveSameInputs d v w → values_under (inputs_of e) v ≡ values_under (inputs_of e) w
  values_of_inputs v w h = alike (inputs_of e) (λ n. v n.0) (λ n. w n.0) (λ k l. h (name_at (inputs_of e) k) (set_input k l))

  zeros_sorted : AreOfSorts (inputs_of e) (zero_inputs e)
  zeros_sorted =
      subst (AreOfSorts (inputs_of e)) (of_runs.zeros_are d e meant sound)
      (of_runs.fit_inputs d e meant sound of_runs.no_inputs (of_runs.no_inputs_are d e meant sound))

  inputs_sorted : (is : List Inputs) (t : ℕ) → All (λ (i : Inputs). AreOfSorts (inputs_of e) (input_values i)) is → AreOfSorts (inputs_of e) (inputs_among e is t)
  inputs_sorted [] t h = zeros_sorted
  inputs_sorted (i ∷ is) zero h = All-head (λ (j : Inputs). AreOfSorts (inputs_of e) (input_values j)) i is h
  inputs_sorted (i ∷ is) (suc t) h = inputs_sorted is t (All-tail (λ (j : Inputs). AreOfSorts (inputs_of e) (input_values j)) i is h)

-- the inputs of a cycle are those that its line gives
line_there : (e : Parts) (is : List Inputs) (ls : List (List Set)) (t : ℕ) (sets : List Set)
    → map input_values is ≡ map (λ (l : List Set). values_under (inputs_of e) (line_inputs l)) ls → slice_get ls t ≡ Some sets
    → inputs_among e is t ≡ values_under (inputs_of e) (line_inputs sets)
line_there e [] [] t sets h at = absurd cc
line_there e [] (l ∷ ls) t sets h at = absurd cc
line_there e (i ∷ is) [] t sets h at = absurd cc
line_there e (i ∷ is) (l ∷ ls) zero sets h at =
    let same : l ≡ sets = same_Some l sets at in
    ap (λ (vs : List (List Value)). get_or vs 0 []) h ∙ ap (λ (x : List Set). values_under (inputs_of e) (line_inputs x)) same
line_there e (i ∷ is) (l ∷ ls) (suc t) sets h at = line_there e is ls t sets (ap (drop 1) h) at

-- ---- the run of a script

module _ (m : Model) (e : Mapped) (s : Setting) (own : IsSettingBy m e s) (c : ScriptCycles) (bytes : List ℕ) (given : AreCyclesOf (design_of s) e.parts bytes c)
    (right : AreValuesFor e.parts c) where
  abbrev values : Values
  values = values_of_script e.parts c.registers c.inputs.items

  as_many : length c.inputs.items ≡ length given.script.inputs
  as_many =
      sym (length-map c.inputs.items input_values)
      ∙ (ap length given.inputs ∙ length-map given.script.inputs (λ (l : List Set). values_under (inputs_of e.parts) (line_inputs l)))

  are_values : AreValuesOf e.parts values
  are_values = record {
    first = right.registers;
    inputs = λ t. inputs_sorted (design_of s) e.parts own.mapped.design own.sound c.inputs.items t right.inputs;
  }

  has_values : (run : Run) → IsRunOfScript s given.script run → HasValues e.parts run (length c.inputs.items) values
  has_values run is = record {
    first = values_of_registers (design_of s) e.parts own.mapped.design own.sound (run.registers 0) (with_sets is.zeros given.script.state) is.first
        ∙ sym (given.registers is.zeros is.are_zero);
    inputs = λ t l.
        let line = there given.script.inputs t (subst (λ n. t < n) as_many l) in
        values_of_inputs (design_of s) e.parts own.mapped.design own.sound (run.inputs t) (line_inputs line.0) (is.inputs t line.0 line.1)
        ∙ sym (line_there e.parts c.inputs.items given.script.inputs t line.0 given.inputs line.1);
  }

  is_watch : (run : Run) → IsRunOfScript s given.script run → IsWatchOf m e values s run (length c.inputs.items)
  is_watch run is = record {
    model = own.model;
    mapped = own.mapped;
    sound = own.sound;
    counts = own.counts;
    complete = own.complete;
    is_run = subst (λ n. IsRun s run n) (sym as_many) is.is_run;
    values = has_values run is;
  }

  of_script : (run : Run) → IsRun s run (length c.inputs.items) → HasValues e.parts run (length c.inputs.items) values → IsRunOfScript s given.script run
  of_script run is has =
      let zeros : Valuation = λ n. zeroed (run.valuations 0 n) in
      let zero_bits : AreZero (design_of s) zeros = are_zero (design_of s) (run.registers 0) (run.inputs 0) (run.valuations 0) (is.settled 0 (omega arith)) in record {
        zeros = zeros;
        are_zero = zero_bits;
        first = registers_by_values (design_of s) e.parts own.mapped.design own.sound (run.registers 0) (with_sets zeros given.script.state)
            (has.first ∙ given.registers zeros zero_bits);
        inputs = λ t sets at.
            let less : t < length c.inputs.items = subst (λ n. t < n) (sym as_many) (below_length given.script.inputs t sets at) in
            inputs_by_values (design_of s) e.parts own.mapped.design own.sound (run.inputs t) (line_inputs sets)
            (has.inputs t less ∙ line_there e.parts c.inputs.items given.script.inputs t sets given.inputs at);
        is_run = subst (λ n. IsRun s run n) as_many is;
      }

  pub told : ValuesHaveRuns → (is : List Inputs) (a : Watched) (line : List ℕ) → is ≡ c.inputs.items
      → ((s : Setting) (run : Run) → IsWatchOf m e (values_of_script e.parts c.registers is) s run (length is) → IsWatched s run (length is) a)
      → ((s : Setting) (run : Run) (cycles : ℕ) → s.model ≡ m → IsWatched s run cycles a → IsWatchedLine s a line)
      → IsTold s bytes a line
  told have is a line same watches tells =
      let found = have s e.parts values own.accepted own.of_text own.mapped.design own.sound are_values right.rest in
      let run = found.0 in
      let both = found.1 (length c.inputs.items) in
      let own_run = of_script run both.0 both.1 in record {
        script = given.script;
        is_read = given.is_read;
        some_run = (run, own_run);
        each_run = answered;
        is_line = tells s run (length given.script.inputs) own.model (answered run own_run);
      }
    where
      answered : (run : Run) → IsRunOfScript s given.script run → IsWatched s run (length given.script.inputs) a
      answered run is_run =
          let watches_it = subst (λ (js : List Inputs). (r : Setting) (u : Run) → IsWatchOf m e (values_of_script e.parts c.registers js) r u (length js) → IsWatched r u (length js) a) same watches in
          subst (λ n. IsWatched s run n a) as_many (watches_it s run (is_watch run is_run))

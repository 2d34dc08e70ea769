-- What is found of a term of a run's store says what is found of its obligation, and of its instruction's cover.
use Rattle.std.proofs.Common.{◌≡◌, ◌∙◌, ℕ, suc, ◌<◌, ◌≤◌, Bool, true, false, cond, Some, arith, refl, sym, ap, subst}
use Rattle.std.specs.Prelude.{◌↔◌, nat_lt}
use Rattle.std.proofs.lemmas.Bool.{lt-ltb}
use Rattle.std.proofs.lemmas.Bool.Decides.{nat_tests}
use Rattle.wb_values.specs.Value.{truth_value, Valuation}
use Rattle.model_meaning.specs.Term.{val}
use Rattle.model_meaning.specs.Model.{Instruction, instruction_name, instructions_in}
use Rattle.model_meaning.specs.Instruction.{IsInstruction}
use Rattle.verilog_designs.specs.Accepted.{IsAccepted}
use Rattle.verilog_exists.specs.Exists.{IsOfText}
use Rattle.refinement.specs.Map.{Setting, design_of}
use Rattle.refinement.specs.Run.{Run, IsRun}
use Rattle.refinement.specs.Obligation.{Obligation, Falsifies, IsWholeCommand, ended_at, bound_named}
use Rattle.reports.specs.Encoding.{EncodesObligation, EncodesCover}
use Rattle.reports.specs.Report.{IsCover}
use Rattle.wb_terms.specs.Graph.{Graph, tree, HasDistinctNames}
use Rattle.wb_terms.specs.Environment.{AreOfSorts}
use Rattle.v_design.specs.Parts.{Parts, inputs_of}
use Rattle.v_design.specs.Design.{values_under}
use Rattle.mapped_designs.specs.Mapped.{Mapped, MappedInstruction}
use Rattle.mapped_designs.specs.Runs.{Values, AreValuesOf, zero_inputs}
use Rattle.mapped_designs.specs.Broken.{BreaksObligation, IsCommandBy}
use Rattle.mapped_designs.specs.Meaning.{IsMappedBy}
use Rattle.mapped_runs.specs.Sound.{IsSoundDesign}
use Rattle.mapped_runs.specs.Valued.{HasValues, Agree}
use Rattle.mapped_runs.specs.Breaking.{IsWithinCycles}
use Rattle.mapped_runs.specs.Decided.{IsJudged}
use Rattle.mapped_runs.proofs.Lists.{beside, some_same}
use Rattle.mapped_runs.proofs.Within.{ended_within}
use Rattle.mapped_runs.proofs.Facts.{shows, shows_all}
use Rattle.mapped_runs.proofs.Breaking.{breaking_rests, falsifying_breaks}
use Rattle.mapped_runs.proofs.Commands.{command_rests, whole_shown}
use Rattle.mapped_runs.proofs.ValuesOfRuns.{rest_is_zero, runs_have_values}
use Rattle.mapped_runs.proofs.RunsOfValues.{values_have_runs}
use Rattle.mapped_runs.proofs.Decides.{values_decide}
use Rattle.run_terms.specs.Names.{names_of_run, values_of_run, FitsNames}
use Rattle.obligation_check.specs.Bits.{bits_of}
use Rattle.obligation_check.specs.Claims.{values_up_to, DecidesRuns, HaveRuns}
use Rattle.obligation_check.specs.Found.{IsFinding, IsFoundOf, cover_by}
use Rattle.obligation_check.specs.declared.findings.Finding.{Finding}
use Rattle.obligation_check.specs.declared.findings.Finding.TheVariants.{Holds, Breaks, Spent}
use Rattle.obligation_check.proofs.Named.{values_fit, valuation_by, valuation_fits, values_back, zeros_sort}
use Rattle.obligation_check.proofs.Restricted.{has_own_values, encodes_runs}

below : (a b : ℕ) → nat_lt a b ≡ true → a < b
below a b e = grind (arith, nat_tests)

-- values of the design after whose cycles inputs are 0
abbrev cut : Parts → ℕ → Values → Values
cut d cycles x = record { first = x.first; inputs = λ t. cond (nat_lt t cycles) (x.inputs t) (zero_inputs d) }

cut_fits : (d : Parts) (cycles : ℕ) (x : Values) → AreValuesOf d x → AreValuesOf d (cut d cycles x)
cut_fits d cycles x h = record { first = h.first; inputs = λ t. by_test t (nat_lt t cycles) }
  where
    by_test : (t : ℕ) (q : Bool) → AreOfSorts (inputs_of d) (cond q (x.inputs t) (zero_inputs d))
    by_test t true = h.inputs t
    by_test t false = zeros_sort (inputs_of d)

-- a run with values has them up to its cycles
cut_is : (e : Mapped) (cycles : ℕ) (run : Run) (x : Values) → HasValues e.parts run cycles x → values_up_to e cycles run ≡ cut e.parts cycles x
cut_is e cycles run x h = λ i. record { first = h.first i; inputs = λ t. by_test t (nat_lt t cycles) refl i }
  where
    by_test : (t : ℕ) (q : Bool) → nat_lt t cycles ≡ q
        → cond q (values_under (inputs_of e.parts) (run.inputs t)) (zero_inputs e.parts) ≡ cond q (x.inputs t) (zero_inputs e.parts)
    by_test t true q = h.inputs t (below t cycles q)
    by_test t false q = refl

cut_agrees : (d : Parts) (cycles : ℕ) (x : Values) → Agree cycles x (cut d cycles x)
cut_agrees d cycles x = record { first = refl; inputs = λ t l. ap (λ b. cond b (x.inputs t) (zero_inputs d)) (sym (lt-ltb t cycles l)) }

-- where a term is false under no values that fit, no values of the design are so
no_values : (d : Parts) (cycles : ℕ) (g : Graph) (id : ℕ) (IsDecided : Values → Type 0) → g.names ≡ names_of_run d cycles → HasDistinctNames g.names
    → ((v : Valuation) → FitsNames g.names v → (val (tree g id) v ≡ truth_value false) ↔ IsDecided (values_of_run d cycles v))
    → ((v : Valuation) → FitsNames g.names v → ¬ (val (tree g id) v ≡ truth_value false))
    → (x : Values) → AreValuesOf d x → ¬ IsDecided (cut d cycles x)
no_values d cycles g id IsDecided named distinct means none x fits h =
    let y = cut d cycles x in
    let y_fits = cut_fits d cycles x fits in
    let own : HasDistinctNames (names_of_run d cycles) = subst HasDistinctNames named distinct in
    let v = valuation_by d cycles y y_fits own in
    let v_fits : FitsNames g.names v = subst (λ es. FitsNames es v) (sym named) (valuation_fits d cycles y y_fits own) in
    let back : values_of_run d cycles v ≡ y = values_back d cycles y y_fits own (λ t q. ap (λ b. cond b (x.inputs t) (zero_inputs d)) q) in
    none v v_fits ((means v v_fits).1 (subst IsDecided (sym back) h))

module _ (s : Setting) (e : Mapped) (mapped : IsMappedBy s e) (sound : IsSoundDesign e.parts) where
  up_to_fits : (cycles : ℕ) (run : Run) → IsRun s run cycles → AreValuesOf e.parts (values_up_to e cycles run)
  up_to_fits cycles run is_run =
      let h = runs_have_values s e.parts run cycles mapped.design sound is_run in
      subst (AreValuesOf e.parts) (sym (cut_is e cycles run h.0 h.1)) (cut_fits e.parts cycles h.0 h.2)

  -- ---- obligations

  module _ (o : Obligation) (accepted : IsAccepted (design_of s)) (of_text : IsOfText (design_of s)) (within : IsWithinCycles o) where
    judged : IsJudged s e o
    judged = record { accepted = accepted; of_text = of_text; mapped = mapped; sound = sound; within = within }

    abbrev IsBroken : Values → Type 0
    IsBroken x = BreaksObligation s.model e x o

    decided : DecidesRuns s e o.cycles (λ run. Falsifies s run o) IsBroken
    decided = record {
      fits = λ run is_run. up_to_fits o.cycles run is_run;
      decides = λ run is_run. (λ f. falsifying_breaks s e run o (values_up_to e o.cycles run) mapped sound within f (has_own_values e o.cycles run), back run is_run);
    }
      where
        back : (run : Run) → IsRun s run o.cycles → IsBroken (values_up_to e o.cycles run) → Falsifies s run o
        back run is_run h =
            let x = values_up_to e o.cycles run in
            let own = has_own_values e o.cycles run in
            record {
              is_run = is_run;
              hypotheses = (shows_all s e run o.cycles x mapped sound is_run own o.hypotheses within.hypotheses).1 h.hypotheses;
              fails = λ c. h.fails ((shows s e run o.cycles x mapped sound is_run own o.claim within.claim).0 c);
            }

    have : HaveRuns s e o.cycles IsBroken
    have x fits h =
        let r = values_have_runs s e.parts x accepted of_text mapped.design sound fits h.rest in
        (r.0, (r.1 o.cycles).0, (r.1 o.cycles).1)

    module _ (g : Graph) (id budget : ℕ) (named : g.names ≡ names_of_run e.parts o.cycles) (distinct : HasDistinctNames g.names)
        (means : (v : Valuation) → FitsNames g.names v → (val (tree g id) v ≡ truth_value false) ↔ IsBroken (values_of_run e.parts o.cycles v)) where
      cut_broken : (x : Values) → IsBroken x → IsBroken (cut e.parts o.cycles x)
      cut_broken x h = breaking_rests s.model e x (cut e.parts o.cycles x) o within (cut_agrees e.parts o.cycles x) h

      pub found_of : (x : Finding) → IsFinding e.parts o.cycles g id budget x → IsFoundOf s e.parts budget o x
      found_of Holds h =
          (values_decide s e o judged).1 (λ x fits broken. no_values e.parts o.cycles g id IsBroken named distinct means h x fits (cut_broken x broken))
      found_of (Breaks x) h =
          let v = h.0 in
          let fits : FitsNames (names_of_run e.parts o.cycles) v = subst (λ es. FitsNames es v) named h.1 in
          let y = values_of_run e.parts o.cycles v in
          let r = have y (values_fit e.parts o.cycles v fits) ((means v h.1).0 h.2) in
          let up : values_up_to e o.cycles r.0 ≡ cut e.parts o.cycles y = cut_is e o.cycles r.0 y r.2 in (
            r.0,
            (decided.decides r.0 r.1).1 (subst IsBroken (sym up) (cut_broken y ((means v h.1).0 h.2))),
            record { first = r.2.first ∙ sym h.3.first; inputs = λ t l. r.2.inputs t l ∙ sym (h.3.inputs t l) },
            h.3.count,
          )
      found_of (Spent x) h = (
        subst (λ n. EncodesObligation s o x.formula.cnf (bits_of e.parts n x.formula.map)) (sym h.2)
            (encodes_runs s e o.cycles (λ run. Falsifies s run o) IsBroken decided have mapped.design.distinct g id named distinct means x.formula.map x.formula.cnf h.0),
        h.1,
      )

  -- ---- covers

  module _ (j : ℕ) (i : Instruction) (is_i : IsInstruction s.model j i) (accepted : IsAccepted (design_of s)) (of_text : IsOfText (design_of s)) where
    abbrev bound : ℕ
    bound = bound_named s.map (instruction_name i)

    abbrev IsCommand : Values → Type 0
    IsCommand x = IsCommandBy s.model e s.map x j

    some_is : {A : Type 0} (x y : A) → Some x ≡ Some y → x ≡ y
    some_is x y e' = some_same e'

    fewer : (many few : ℕ) (run : Run) → few ≤ many → IsRun s run many → IsRun s run few
    fewer many few run l r = record {
      first = r.first;
      inputs = λ t b. r.inputs t (omega (arith, l, b));
      settled = λ t b. r.settled t (omega (arith, l, b));
      next = λ t b. r.next t (omega (arith, l, b));
    }

    fewer_values : (many few : ℕ) (run : Run) (x : Values) → few ≤ many → HasValues e.parts run many x → HasValues e.parts run few x
    fewer_values many few run x l h = record { first = h.first; inputs = λ t b. h.inputs t (omega (arith, l, b)) }

    command_decided : DecidesRuns s e bound (IsWholeCommand s j) IsCommand
    command_decided = record {
      fits = λ run is_run. up_to_fits bound run is_run;
      decides = λ run is_run. (to_values run is_run, from_values run is_run);
    }
      where
        to_values : (run : Run) → IsRun s run bound → IsWholeCommand s j run → IsCommand (values_up_to e bound run)
        to_values run is_run h =
            let same : h.0 ≡ i = some_is h.0 i (sym h.1 ∙ is_i) in
            let c = h.2 in
            let low : c < bound = subst (λ q. c < bound_named s.map (instruction_name q)) same h.3 in
            let x = values_up_to e bound run in
            let own = has_own_values e bound run in
            let b = beside (λ (q : Instruction). bound_named s.map (instruction_name q)) (λ (k : MappedInstruction). k.bound) (instructions_in s.model.top) e.instructions j i (sym mapped.bounds) is_i in
            record {
              rest = rest_is_zero (design_of s) e.parts mapped.design sound (run.registers 0) is_run.first;
              ending = b.other;
              is_ending = b.is_there;
              cycle = c;
              below = subst (λ n. c < n) b.is_same low;
              hypotheses =
                  (shows_all s e run (suc c) x mapped sound (fewer bound (suc c) run (omega (arith, low)) is_run) (fewer_values bound (suc c) run x (omega (arith, low)) own) (ended_at s.map j c) (ended_within s.map j c)).0 h.5;
            }

        from_values : (run : Run) → IsRun s run bound → IsCommand (values_up_to e bound run) → IsWholeCommand s j run
        from_values run is_run h =
            let x = values_up_to e bound run in
            let own = has_own_values e bound run in
            let c = h.cycle in
            let b = beside (λ (k : MappedInstruction). k.bound) (λ (q : Instruction). bound_named s.map (instruction_name q)) e.instructions (instructions_in s.model.top) j h.ending mapped.bounds h.is_ending in
            let same : b.other ≡ i = some_is b.other i (sym b.is_there ∙ is_i) in
            let low : c < bound = subst (λ q. c < bound_named s.map (instruction_name q)) same (subst (λ k. c < k) b.is_same h.below) in
            let run_c = fewer bound (suc c) run (omega (arith, low)) is_run in (
              i,
              is_i,
              c,
              low,
              run_c,
              (shows_all s e run (suc c) x mapped sound run_c (fewer_values bound (suc c) run x (omega (arith, low)) own) (ended_at s.map j c) (ended_within s.map j c)).1 h.hypotheses,
            )

    have_commands : HaveRuns s e bound IsCommand
    have_commands x fits h =
        let r = values_have_runs s e.parts x accepted of_text mapped.design sound fits h.rest in
        (r.0, (r.1 bound).0, (r.1 bound).1)

    cut_command : (x : Values) → IsCommand x → IsCommand (cut e.parts bound x)
    cut_command x h =
        let b = beside (λ (q : Instruction). bound_named s.map (instruction_name q)) (λ (k : MappedInstruction). k.bound) (instructions_in s.model.top) e.instructions j i (sym mapped.bounds) is_i in
        command_rests s.model e s.map x (cut e.parts bound x) j b.other b.is_there (subst (λ n. Agree n x (cut e.parts bound x)) b.is_same (cut_agrees e.parts bound x)) h

    module _ (g : Graph) (id budget : ℕ) (named : g.names ≡ names_of_run e.parts bound) (distinct : HasDistinctNames g.names)
        (means : (v : Valuation) → FitsNames g.names v → (val (tree g id) v ≡ truth_value false) ↔ IsCommand (values_of_run e.parts bound v)) where
      pub cover_of : (x : Finding) → IsFinding e.parts bound g id budget x → IsCover s budget j i (cover_by e.parts x)
      cover_of Holds h =
          λ run is_whole.
          let w = whole_shown s e j run mapped sound is_whole in
          no_values e.parts bound g id IsCommand named distinct means h w.0 w.1 (cut_command w.0 w.2)
      cover_of (Breaks x) h =
          let v = h.0 in
          let fits : FitsNames (names_of_run e.parts bound) v = subst (λ es. FitsNames es v) named h.1 in
          let y = values_of_run e.parts bound v in
          let command : IsCommand y = (means v h.1).0 h.2 in
          let r = have_commands y (values_fit e.parts bound v fits) command in
          let up : values_up_to e bound r.0 ≡ cut e.parts bound y = cut_is e bound r.0 y r.2 in
          (r.0, (command_decided.decides r.0 r.1).1 (subst IsCommand (sym up) (cut_command y command)))
      cover_of (Spent x) h = (
        subst (λ n. EncodesCover s j i x.formula.cnf (bits_of e.parts n x.formula.map)) (sym h.2)
            (encodes_runs s e bound (IsWholeCommand s j) IsCommand command_decided have_commands mapped.design.distinct g id named distinct means x.formula.map x.formula.cnf h.0),
        h.1,
      )

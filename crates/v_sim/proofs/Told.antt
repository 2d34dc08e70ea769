-- The text by a design's parts is that of the script on the design.
use Rattle.std.proofs.Common.{Vec, Global, ◌≡◌, ◌∙◌, ℕ, suc, true, List, [], ◌∷◌, ◌++◌, map, refl, sym, ap, subst, decimal, append_assoc}
use Rattle.std.specs.Prelude.{codes}
use Rattle.std.specs.List.{list_all}
use Rattle.std.proofs.lemmas.Bool.{and_parts, and_from, false≢true}
use Rattle.wb_values.specs.Value.{Sort, Value, Valuation, Entries}
use Rattle.verilog_meaning.specs.Settled.{Design, port_order}
use Rattle.verilog_meaning.specs.Next.{AreRegisters, AreInputs}
use Rattle.verilog_registers.specs.Outputs.{outputs_of}
use Rattle.scripts.specs.Script.{with_sets}
use Rattle.design_scripts.specs.Simulation.{AreCycles, HasCycles, IsTold, no_inputs, line_inputs, outputs_text, cycle_lines, register_text, registers_text, end_line}
use Rattle.wb_terms.specs.Graph.{HasDistinctNames}
use Rattle.wb_terms.specs.Environment.{AreOfSorts}
use Rattle.v_design.specs.Registers.{CountedBits}
use Rattle.v_design.specs.Parts.{Parts, registers_of, inputs_of, registers_after, are_bits_of, are_bits_for, are_words}
use Rattle.v_design.specs.Design.{values_under, IsDesignOf}
use Rattle.ila_sim.specs.declared.set.Set.{Set}
use Rattle.ila_sim.specs.declared.script.Script.{Script}
use Rattle.ila_sim.specs.Lines.{sets_view}
use Rattle.ila_sim.specs.Scripts.{script_view, IsScriptWithin}
use Rattle.ila_sim.specs.Sets.{are_right}
use Rattle.v_sim.specs.Names.{register_settable, register_settables, input_settables, names_by}
use Rattle.v_sim.specs.Texts.{line_values, outputs_by, cycle_line, registers_by, text_from, input_lines, text_by, first_values, IsSortedRun}
use Rattle.v_sim.proofs.Lists.{distinct_take, distinct_drop, all_set}
use Rattle.v_sim.proofs.Settings.{inputs_named}
use Rattle.v_sim.proofs.Named.{register_at}
use Rattle.v_sim.proofs.First.{are_zero, all_registers_set}
use Rattle.v_sim.proofs.First as first
use Rattle.v_sim.proofs.Fed.{no_inputs_are, line_fed}
use Rattle.v_sim.proofs.Step.{outputs_are, registers_next}

registers_told : (ns : Entries Sort) (cs : List CountedBits) (v : Valuation) → are_bits_for ns cs ≡ true
    → registers_by (register_settables ns cs) (values_under ns v) ≡ registers_text (register_settables ns cs) v
registers_told [] cs v h = refl
registers_told (n ∷ ns) [] v h = absurd (false≢true h)
registers_told (n ∷ ns) (c ∷ cs) v h = ap (λ t. register_text (register_settable n.0 n.1 c) (v n.0) ++ t) (registers_told ns cs v (and_parts (are_bits_of n.1 c) _ h).1)

-- pieces of a line, and what follows them
pieces : (a b c rest : List ℕ) → (a ++ (b ++ 10 ∷ [])) ++ (c ++ rest) ≡ (a ++ (b ++ (10 ∷ c))) ++ rest
pieces a b c rest =
    append_assoc a (b ++ 10 ∷ []) (c ++ rest)
    ∙ (ap (λ x. a ++ x) (append_assoc b (10 ∷ []) (c ++ rest) ∙ sym (append_assoc b (10 ∷ c) rest))
    ∙ sym (append_assoc a (b ++ (10 ∷ c)) rest))

-- a run of these lines
record IsRunFrom (d : Design) (r : Valuation) (inputs : List Valuation) : Type 0 where
  pub settled : List Valuation
  pub last : Valuation
  pub cycles : AreCycles d r inputs settled last

module _ (d : Design) (e : Parts) (meant : IsDesignOf d e) (runs : HasCycles d) (counting : are_bits_for (registers_of e) e.bits ≡ true) (inputs_words : are_words (inputs_of e) ≡ true) where
  abbrev lines_of : List (List Set) → List Valuation
  lines_of lines = map line_inputs (map (sets_view (input_settables (inputs_of e))) lines)

  registers_distinct : HasDistinctNames (registers_of e)
  registers_distinct = distinct_take e.register_count e.graph.names meant.distinct

  inputs_distinct : HasDistinctNames (inputs_of e)
  inputs_distinct = distinct_drop e.register_count e.graph.names meant.distinct

  run_from : (lines : List (List Set)) (r : Valuation) → list_all (are_right (input_settables (inputs_of e))) lines ≡ true → IsRunFrom d r (lines_of lines)
  run_from [] r right = record { settled = []; last = r; cycles = refl }
  run_from (ss ∷ lines) r right =
      let ins = input_settables (inputs_of e) in
      let i = line_inputs (sets_view ins ss) in
      let p = and_parts (are_right ins ss) (list_all (are_right ins) lines) right in
      let v = runs.settles r i (line_fed d e meant counting inputs_words ss p.0) in
      let next = runs.steps v.0 in
      let rest = run_from lines next.0 p.1 in
      record { settled = v.0 ∷ rest.settled; last = rest.last; cycles = (v.1, next.0, next.1, rest.cycles) }

  begun : (lines : List (List Set)) (rs : List Value) → IsSortedRun e rs lines → AreOfSorts (registers_of e) rs
  begun [] rs s = s
  begun (l ∷ lines) rs s = s.0

  told_from : (lines : List (List Set)) (t : ℕ) (r : Valuation) (settled : List Valuation) (last : Valuation) → AreRegisters d r
      → list_all (are_right (input_settables (inputs_of e))) lines ≡ true → IsSortedRun e (values_under (registers_of e) r) lines → AreCycles d r (lines_of lines) settled last
      → text_from e t (values_under (registers_of e) r) lines ≡ cycle_lines (outputs_of runs.top.of_module) t settled ++ end_line (names_by e).states last
  told_from [] t r [] last h right sorted c =
      ap (λ x. codes "end" ++ (x ++ 10 ∷ [])) (registers_told (registers_of e) e.bits r counting) ∙ ap (end_line (names_by e).states) (sym c)
  told_from [] t r (v ∷ vs) last h right sorted c = absurd c
  told_from (ss ∷ lines) t r [] last h right sorted c = absurd c
  told_from (ss ∷ lines) t r (v ∷ vs) last h right sorted c =
      let ns = registers_of e in
      let ins = input_settables (inputs_of e) in
      let os = outputs_of runs.top.of_module in
      let i = line_inputs (sets_view ins ss) in
      let p = and_parts (are_right ins ss) (list_all (are_right ins) lines) right in
      let i-are : AreInputs d i = line_fed d e meant counting inputs_words ss p.0 in
      let is-are : values_under (inputs_of e) i ≡ line_values e ss = all_set (inputs_of e) ins no_inputs ss inputs_distinct (inputs_named (inputs_of e)) p.0 in
      let settled = c.0 in
      let next = c.1 in
      let steps = c.2 in
      let rs = values_under ns r in
      let follow = sorted.1 in
      let now : AreOfSorts ns (registers_after e rs (values_under (inputs_of e) i)) =
      subst (λ is. AreOfSorts ns (registers_after e rs is)) (sym is-are) (begun lines (registers_after e rs (line_values e ss)) follow) in
      let after : values_under ns next ≡ registers_after e rs (line_values e ss) =
      registers_next d e meant counting inputs_words registers_distinct r i v h i-are settled next steps now ∙ ap (registers_after e rs) is-are in
      let rest = told_from lines (suc t) next vs last steps.registers p.1 (subst (λ xs. IsSortedRun e xs lines) (sym after) follow) c.3 in
      let shown : outputs_by e rs (line_values e ss) e.outputs ≡ outputs_text os v =
      ap (λ ms. outputs_by e rs (line_values e ss) ms) (meant.outputs_are runs.top runs.is_top)
      ∙ subst (λ is. outputs_by e rs is os ≡ outputs_text os v) is-are
      (outputs_are d e meant counting inputs_words registers_distinct r i v h i-are settled runs.top runs.is_top (port_order runs.top.of_module)) in
      let text : text_from e (suc t) (registers_after e rs (line_values e ss)) lines ≡ cycle_lines os (suc t) vs ++ end_line (names_by e).states last =
      subst (λ xs. text_from e (suc t) xs lines ≡ cycle_lines os (suc t) vs ++ end_line (names_by e).states last) after rest in
      ap (λ x. cycle_line e t rs (line_values e ss) ++ x) text
      ∙ (ap (λ x. (decimal t ++ (x ++ 10 ∷ [])) ++ (cycle_lines os (suc t) vs ++ end_line (names_by e).states last)) shown
      ∙ pieces (decimal t) (outputs_text os v) (cycle_lines os (suc t) vs) (end_line (names_by e).states last))

  pub told : (script : Script) → IsScriptWithin (names_by e) script → IsSortedRun e (first_values e script.state.items) (input_lines script.inputs.items)
      → IsTold d (names_by e) (script_view (names_by e) script) (text_by e script)
  told script within sorted =
      let ns = registers_of e in
      let any = runs.settles no_inputs no_inputs (no_inputs_are d e meant counting inputs_words) in
      let at = register_at d e meant counting inputs_words in
      let zeros : Valuation = λ n. first.zeroed (any.0 n) in
      let ss = register_settables ns e.bits in
      let sets = script.state.items in
      let ls = script.inputs.items in
      let run = run_from (input_lines ls) (with_sets zeros (sets_view ss sets)) (right ls within.1) in
      record {
        top = runs.top;
        is_top = runs.is_top;
        some_run = (
          run.settled,
          run.last,
          record {
            zeros = zeros;
            are_zero = are_zero d no_inputs no_inputs any.0 any.1;
            cycles = subst (λ is. AreCycles d (with_sets zeros (sets_view ss sets)) is run.settled run.last) (lines-are ls) run.cycles;
          },
        );
        each_run = λ settled last given.
            let begun-are : AreRegisters d (with_sets given.zeros (sets_view ss sets)) = all_registers_set d ns e.bits given.zeros sets runs counting at within.0 given.are_zero.registers_are in
            let values : values_under ns (with_sets given.zeros (sets_view ss sets)) ≡ first_values e sets = first.first_values d ns e.bits given.zeros sets registers_distinct counting at within.0 given.are_zero in
            ap (λ xs. text_from e 0 xs (input_lines ls)) (sym values)
            ∙ told_from (input_lines ls) 0 (with_sets given.zeros (sets_view ss sets)) settled last begun-are (right ls within.1)
            (subst (λ xs. IsSortedRun e xs (input_lines ls)) (sym values) sorted)
            (subst (λ is. AreCycles d (with_sets given.zeros (sets_view ss sets)) is settled last) (sym (lines-are ls)) given.cycles);
      }
    where
      right : (ls : List (Vec Set Global)) → list_all (λ (l : Vec Set Global). are_right (input_settables (inputs_of e)) l.items) ls ≡ true
          → list_all (are_right (input_settables (inputs_of e))) (input_lines ls) ≡ true
      right [] h = refl
      right (l ∷ ls) h =
          let p = and_parts (are_right (input_settables (inputs_of e)) l.items) (list_all (λ (x : Vec Set Global). are_right (input_settables (inputs_of e)) x.items) ls) h in
          and_from _ _ p.0 (right ls p.1)

      lines-are : (ls : List (Vec Set Global)) → lines_of (input_lines ls) ≡ map line_inputs (map (λ (l : Vec Set Global). sets_view (input_settables (inputs_of e)) l.items) ls)
      lines-are [] = refl
      lines-are (l ∷ ls) = ap (λ xs. line_inputs (sets_view (input_settables (inputs_of e)) l.items) ∷ xs) (lines-are ls)

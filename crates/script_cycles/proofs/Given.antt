-- The values that a script gives a design are those of the script on the design.
use Rattle.std.proofs.Common.{Vec, Global, ◌≡◌, ◌∙◌, ℕ, true, List, [], ◌∷◌, map, Err, refl, sym, subst}
use Rattle.std.specs.List.{list_all}
use Rattle.std.proofs.lemmas.Bool.{and_parts}
use Rattle.verilog_meaning.specs.Settled.{Design}
use Rattle.scripts.specs.Script as meaning
use Rattle.scripts.specs.Script.{Settables, is_script, script_reading}
use Rattle.design_scripts.specs.Simulation.{no_inputs, line_inputs}
use Rattle.wb_terms.specs.Graph.{HasDistinctNames}
use Rattle.v_design.specs.Parts.{Parts, registers_of, inputs_of, are_bits_for, are_words}
use Rattle.v_design.specs.Design.{values_under, IsDesignOf}
use Rattle.v_design.specs.Seen.{register_values, input_values}
use Rattle.ila_sim.specs.declared.set.Set.{Set}
use Rattle.ila_sim.specs.declared.script.Script.{Script}
use Rattle.ila_sim.specs.declared.refusal.ScriptRefusal.{ScriptRefusal}
use Rattle.ila_sim.specs.declared.refusal.ScriptStop.{ScriptStop}
use Rattle.ila_sim.specs.declared.refusal.ScriptStop.TheVariants as stops
use Rattle.ila_sim.specs.Lines.{sets_view}
use Rattle.ila_sim.specs.Noted.{IsNoted}
use Rattle.ila_sim.specs.Scripts.{script_view, IsScriptWithin, IsAnswered}
use Rattle.ila_sim.specs.Sets.{are_right}
use Rattle.v_sim.specs.Names.{input_settables, names_by}
use Rattle.v_sim.specs.Texts.{line_values, input_lines, first_values}
use Rattle.v_sim.proofs.Lists.{distinct_take, distinct_drop, all_set}
use Rattle.v_sim.proofs.Settings.{inputs_named}
use Rattle.v_sim.proofs.Named.{register_at, are_settables}
use Rattle.v_sim.proofs.First as first
use Rattle.script_cycles.specs.Read.{AreCyclesOf, IsRefusedFor}
use Rattle.script_cycles.specs.declared.values.ScriptCycles.{ScriptCycles}

lines_given : (e : Parts) (ls : List (Vec Set Global)) → HasDistinctNames (inputs_of e) → list_all (λ (l : Vec Set Global). are_right (input_settables (inputs_of e)) l.items) ls ≡ true
    → map (line_values e) (input_lines ls)
    ≡ map (λ (ss : List meaning.Set). values_under (inputs_of e) (line_inputs ss)) (map (λ (l : Vec Set Global). sets_view (input_settables (inputs_of e)) l.items) ls)
lines_given e [] distinct h = refl
lines_given e (l ∷ ls) distinct h =
    let ins = input_settables (inputs_of e) in
    let p = and_parts (are_right ins l.items) (list_all (λ (x : Vec Set Global). are_right ins x.items) ls) h in
    let here : line_values e l.items ≡ values_under (inputs_of e) (line_inputs (sets_view ins l.items)) =
    sym (all_set (inputs_of e) ins no_inputs l.items distinct (inputs_named (inputs_of e)) p.0) in
    let there = lines_given e ls distinct p.1 in λ i. here i ∷ there i

module _ (d : Design) (e : Parts) (meant : IsDesignOf d e) (counting : are_bits_for (registers_of e) e.bits ≡ true) (inputs_words : are_words (inputs_of e) ≡ true)
    (seen : Settables) (bytes : List ℕ) (view : seen ≡ names_by e) where
  pub cycles_of : (s : Script) (c : ScriptCycles) → script_reading seen bytes ≡ is_script (script_view seen s) → IsScriptWithin seen s
      → register_values c.registers ≡ first_values e s.state.items → map input_values c.inputs.items ≡ map (line_values e) (input_lines s.inputs.items)
      → AreCyclesOf d e bytes c
  cycles_of s c reading within registers inputs =
      let right : IsScriptWithin (names_by e) s = subst (λ (n : Settables). IsScriptWithin n s) view within in record {
        script = script_view (names_by e) s;
        is_read = record {
          names = names_by e;
          are_names = are_settables d e meant counting inputs_words;
          is_reading = subst (λ (n : Settables). script_reading n bytes ≡ is_script (script_view n s)) view reading;
        };
        registers = λ zeros h.
            registers
            ∙ sym (first.first_values d (registers_of e) e.bits zeros s.state.items (distinct_take e.register_count e.graph.names meant.distinct) counting
            (register_at d e meant counting inputs_words) right.0 h);
        inputs = inputs ∙ lines_given e s.inputs.items (distinct_drop e.register_count e.graph.names meant.distinct) right.1;
      }

  pub refused_for : (stop : ScriptStop) (refusal : ScriptRefusal) → stop ≡ stops.Refused refusal → IsAnswered seen (Err stop) (script_reading seen bytes)
      → IsNoted seen bytes stop → IsRefusedFor d bytes refusal
  refused_for stop refusal is answer note =
      let kind = subst (λ (t : ScriptStop). IsAnswered seen (Err t) (script_reading seen bytes)) is answer in
      let leads = subst (λ (t : ScriptStop). IsNoted seen bytes t) is note in
      by_names kind leads
    where
      by_names : IsAnswered seen (Err (stops.Refused refusal)) (script_reading seen bytes) → IsNoted seen bytes (stops.Refused refusal) → IsRefusedFor d bytes refusal
      by_names kind leads = record {
        names = names_by e;
        are_names = are_settables d e meant counting inputs_words;
        kind = subst (λ (n : Settables). IsAnswered n (Err (stops.Refused refusal)) (script_reading n bytes)) view kind;
        note = subst (λ (n : Settables). IsNoted n bytes (stops.Refused refusal)) view leads;
      }

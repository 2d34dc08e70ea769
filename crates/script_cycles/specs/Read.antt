-- What the bytes of a script are for a design.
use Rattle.std.specs.Prelude.{◌≡◌, ℕ, List, map, Some, ⊤}
use Rattle.wb_values.specs.Value.{Valuation}
use Rattle.scripts.specs.Script.{Settables, Script, ScriptReading, is_script, script_reading, with_sets}
use Rattle.verilog_meaning.specs.Settled.{Design}
use Rattle.design_scripts.specs.Names.{AreSettables}
use Rattle.design_scripts.specs.Simulation.{AreZero, line_inputs}
use Rattle.v_design.specs.Parts.{Parts, registers_of, inputs_of}
use Rattle.v_design.specs.Seen.{register_values, input_values}
use Rattle.v_design.specs.Design.{values_under}
use Rattle.ila_file.specs.Places.{note_text}
use Rattle.ila_sim.specs.Faults.{script_note}
use Rattle.ila_sim.specs.Scripts.{IsRefused}
use Rattle.ila_sim.specs.declared.refusal.ScriptRefusal.{ScriptRefusal}
use Rattle.script_cycles.specs.Values.{AreValuesFor}
use Rattle.script_cycles.specs.declared.values.ScriptCycles.{ScriptCycles}
use Rattle.script_cycles.specs.declared.reading.ScriptRead.{ScriptRead}
use Rattle.script_cycles.specs.declared.reading.ScriptRead.TheVariants.{Cycles, Refused}

-- The bytes are this for the design, by the names that a script may set of it.
pub record IsReadingFor (d : Design) (bytes : List ℕ) (reading : ScriptReading) : Type 0 where
  pub names : Settables
  pub are_names : AreSettables d names
  pub is_reading : script_reading names bytes ≡ reading

-- The bytes are a script for the design, and these are its values: registers that are 0 but for what the script sets, and for each line
-- the inputs that it gives.
pub record AreCyclesOf (d : Design) (e : Parts) (bytes : List ℕ) (c : ScriptCycles) : Type 0 where
  pub script : Script
  pub is_read : IsReadingFor d bytes (is_script script)
  pub registers : (zeros : Valuation) → AreZero d zeros → register_values c.registers ≡ values_under (registers_of e) (with_sets zeros script.state)
  pub inputs : map input_values c.inputs.items ≡ map (λ sets. values_under (inputs_of e) (line_inputs sets)) script.inputs

-- The bytes are no script for the design, of this kind, and the note leads to the line and what is wrong there.
pub record IsRefusedFor (d : Design) (bytes : List ℕ) (refusal : ScriptRefusal) : Type 0 where
  pub names : Settables
  pub are_names : AreSettables d names
  pub kind : IsRefused refusal.kind (script_reading names bytes)
  pub note : script_note refusal.kind names bytes ≡ Some (note_text refusal.note)

-- The answer is right for the design.
abbrev pub IsReadAs : Design → Parts → (bytes : List ℕ) → ScriptRead → Type 0
IsReadAs d e bytes (Cycles c) = AreCyclesOf d e bytes c
IsReadAs d e bytes (Refused refusal) = IsRefusedFor d bytes refusal

-- What holds of its values, whatever the design is.
abbrev pub IsOfDesign : Parts → ScriptRead → Type 0
IsOfDesign e (Cycles c) = AreValuesFor e c
IsOfDesign e (Refused refusal) = ⊤

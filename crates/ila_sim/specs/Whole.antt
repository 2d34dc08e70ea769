-- What is answered about a script and a model.
use Rattle.std.specs.Prelude.{◌≡◌, ⊤, List, ℕ, Some}
use Rattle.model_meaning.specs.Model.{Model}
use Rattle.scripts.specs.Script.{Settables, ScriptReading, is_script, bad_line, missing_input}
use Rattle.ila_file.specs.Places.{note_text}
use Rattle.ila_sim.specs.Faults.{script_note}
use Rattle.ila_sim.specs.declared.refusal.ScriptKind.TheVariants.{BadLine, MissingInput}
use Rattle.ila_sim.specs.declared.whole.Simulation.{Simulation}
use Rattle.ila_sim.specs.declared.whole.Simulation.TheVariants.{Text, Refused}
use Rattle.ila_sim.specs.Outcomes.{IsTold}

-- A script is run and told; anything else is refused by what it is.
abbrev pub IsSimulated : Model → ScriptReading → Simulation → Type 0
IsSimulated m (is_script script) (Text text) = IsTold m script text.items
IsSimulated m (is_script script) (Refused refusal) = ⊥
IsSimulated m bad_line (Text text) = ⊥
IsSimulated m bad_line (Refused refusal) = refusal.kind ≡ BadLine
IsSimulated m missing_input (Text text) = ⊥
IsSimulated m missing_input (Refused refusal) = refusal.kind ≡ MissingInput

-- The note of a refusal of the bytes leads to what is refused.
abbrev pub IsSimulationNoted : Settables → List ℕ → Simulation → Type 0
IsSimulationNoted names bytes (Text text) = ⊤
IsSimulationNoted names bytes (Refused refusal) = script_note refusal.kind names bytes ≡ Some (note_text refusal.note)

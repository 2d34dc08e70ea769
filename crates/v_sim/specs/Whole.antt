-- What is answered about a script and a design.
use Rattle.std.specs.Prelude.{◌≡◌, List, ℕ}
use Rattle.verilog_meaning.specs.Settled.{Design}
use Rattle.scripts.specs.Script.{Settables, ScriptReading, is_script, bad_line, missing_input, script_reading}
use Rattle.design_scripts.specs.Names.{AreSettables}
use Rattle.design_scripts.specs.Simulation.{IsTold}
use Rattle.ila_sim.specs.declared.refusal.ScriptKind.TheVariants.{BadLine, MissingInput}
use Rattle.ila_sim.specs.declared.whole.Simulation.{Simulation}
use Rattle.ila_sim.specs.declared.whole.Simulation.TheVariants.{Text, Refused}
use Rattle.ila_sim.specs.Whole.{IsSimulationNoted}

-- A script is run and told; anything else is refused by what it is.
abbrev pub IsAnswer : Design → Settables → ScriptReading → Simulation → Type 0
IsAnswer d names (is_script script) (Text text) = IsTold d names script text.items
IsAnswer d names (is_script script) (Refused refusal) = ⊥
IsAnswer d names bad_line (Text text) = ⊥
IsAnswer d names bad_line (Refused refusal) = refusal.kind ≡ BadLine
IsAnswer d names missing_input (Text text) = ⊥
IsAnswer d names missing_input (Refused refusal) = refusal.kind ≡ MissingInput

-- The answer is right for the design: the bytes are read by the names that a script may set of it.
pub record IsSimulated (d : Design) (bytes : List ℕ) (answer : Simulation) : Type 0 where
  pub names : Settables
  pub are_settables : AreSettables d names
  pub is_answer : IsAnswer d names (script_reading names bytes) answer
  pub note : IsSimulationNoted names bytes answer

-- What a model file and a script say together, and what a simulation of them ends with.
use Rattle.std.specs.Prelude.{◌≡◌, ℕ, List, [], ◌∷◌, codes}
use Rattle.model_meaning.specs.Model.{Model}
use Rattle.model_files.specs.Meaning.{ModelReading, stands_for, refused_by, model_reading}
use Rattle.scripts.specs.Script.{Script, ScriptReading, is_script, bad_line, missing_input, script_reading, settables_of}
use Rattle.model_meaning.specs.Outcome.{Outcome}
use Rattle.scripts.specs.Simulation.{IsSimulation, simulation_text}
use Rattle.ila_rules.specs.Rule.{rule_name}
use Rattle.wb_top.specs.Texts.{IsRefusalBy}
use Rattle.wb_top.specs.declared.status.Status.{Status}
use Rattle.wb_top.specs.declared.status.Status.TheVariants.{Done, Refused}

-- A model and a script for it; or a file is refused by the kind of this name.
pub data Pair : Type 0 where
  runs : Model → Script → Pair
  refused : (kind : List ℕ) → Pair

abbrev pub with_script : Model → ScriptReading → Pair
with_script m (is_script s) = runs m s
with_script m bad_line = refused (codes "S1 BadLine")
with_script m missing_input = refused (codes "S2 MissingInput")

-- The script is read by the names of the model; a rule that refuses the model file comes first.
abbrev pub with_model : ModelReading → (script_bytes : List ℕ) → Pair
with_model (stands_for m) s = with_script m (script_reading (settables_of m) s)
with_model (refused_by rule) s = refused (rule_name rule)

unfoldable pub pair_of : (model_bytes script_bytes : List ℕ) → Pair
pair_of m s = with_model (model_reading m) s

-- Done: the text tells what the model does under the script. Refused: by this kind.
abbrev pub IsSimulated : Pair → Status → List ℕ → Type 0
IsSimulated (runs m s) Done text = (os : List Outcome) × IsSimulation m s os × (text ≡ simulation_text m os)
IsSimulated (refused kind) Refused text = IsRefusalBy kind text
IsSimulated _ status text = ⊥

-- of two files in their order
abbrev pub AreSimulated : List (List ℕ) → Status → List ℕ → Type 0
AreSimulated (m ∷ s ∷ []) status text = IsSimulated (pair_of m s) status text
AreSimulated _ status text = ⊥

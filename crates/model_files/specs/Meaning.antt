-- What a model file stands for: the model, or the first rule that it breaks.
use Rattle.std.specs.Prelude.{◌≡◌, ℕ, cond, List, [], ◌∷◌, Option, Some, None}
use Rattle.wb_values.specs.Value.{Name, Entries, entry_of}
use Rattle.model_meaning.specs.Term.{Term}
use Rattle.model_meaning.specs.Model as pure
use Rattle.model_meaning.specs.Model.{StateDeclaration, Model, Machine, Instruction, Instructions, Child}
use Rattle.serde_json.specs.Data.{Data}
use Rattle.model_files.specs.Written.{WrittenTerm, WrittenMachine, machine, WrittenInstruction, instruction, WrittenInstructions, no_instructions, and_then, WrittenChild, no_child, child, WrittenModel}
use Rattle.model_files.specs.Shape.{document, model_in}
use Rattle.model_files.specs.Keys.{model_has_unknown_key}
use Rattle.model_files.specs.Scope.{Visible, MachineScope, term_of, with_fetch, scope_within, outermost}
use Rattle.model_files.specs.Rules.{has_bad_name, has_duplicate_name, has_unknown_name, has_bad_width, has_bad_sort, has_bad_number, has_memory_copy, has_too_deep_child, has_bad_steps}

abbrev pub with_own_update : Entries Visible → Name → Option WrittenTerm → Entries Term → Entries Term
with_own_update names n (Some e) us = (n, term_of names e) ∷ us
with_own_update names n None us = us

-- the updates of visible states, in the order in which these are declared, the outermost first
abbrev pub updates_for_states : Entries Visible → List StateDeclaration → Entries WrittenTerm → Entries Term
updates_for_states names [] us = []
updates_for_states names (s ∷ ss) us = with_own_update names s.state_name (entry_of us s.state_name) (updates_for_states names ss us)

abbrev mutual
  -- A machine of the file in its scope, with definitions and fetch put in.
  pub machine_of : MachineScope → WrittenMachine → Machine
  machine_of around (machine ss ds fetch valid is) =
      let inner : MachineScope = scope_within around ss ds in
      pure.machine ss (term_of (with_fetch inner.names fetch) valid) (instructions_of inner (with_fetch inner.names fetch) is)

  pub instructions_of : MachineScope → Entries Visible → WrittenInstructions → Instructions
  instructions_of inner names no_instructions = pure.no_instructions
  instructions_of inner names (and_then i is) = pure.and_then (instruction_of inner names i) (instructions_of inner names is)

  pub instruction_of : MachineScope → Entries Visible → WrittenInstruction → Instruction
  instruction_of inner names (instruction called decode update program) =
      pure.instruction called (term_of names decode) (updates_for_states names inner.states update) (child_of inner program)

  pub child_of : MachineScope → WrittenChild → Child
  child_of inner no_child = pure.no_child
  child_of inner (child steps program) = pure.child steps (machine_of inner program)

-- The model that a written one stands for.
abbrev pub model_of : WrittenModel → Model
model_of m = record { model_name = m.model_name; inputs = m.inputs; top = machine_of (outermost m) m.top }

-- The rules, in the order in which they are judged: each over the whole file before the next.
pub data ModelRule : Type 0 where
  BadJson BadShape UnknownKey BadName DuplicateName UnknownName : ModelRule
  BadWidth BadSort BadNumber MemoryCopy TooDeepChild BadSteps : ModelRule

-- The first rule from BadName on that a written model breaks.
abbrev pub broken_rule : WrittenModel → Option ModelRule
broken_rule m =
    cond (has_bad_name m) (Some BadName)
    (cond (has_duplicate_name m) (Some DuplicateName)
    (cond (has_unknown_name m) (Some UnknownName)
    (cond (has_bad_width m) (Some BadWidth)
    (cond (has_bad_sort m) (Some BadSort)
    (cond (has_bad_number m) (Some BadNumber)
    (cond (has_memory_copy m) (Some MemoryCopy)
    (cond (has_too_deep_child m) (Some TooDeepChild)
    (cond (has_bad_steps m) (Some BadSteps) None))))))))

-- What a file is: a model, or refused by the first rule that it breaks.
pub data ModelReading : Type 0 where
  stands_for : Model → ModelReading
  refused_by : ModelRule → ModelReading

abbrev pub judged_by : WrittenModel → Option ModelRule → ModelReading
judged_by m None = stands_for (model_of m)
judged_by m (Some rule) = refused_by rule

abbrev pub with_known_keys : Data → WrittenModel → ModelReading
with_known_keys d m = cond (model_has_unknown_key d) (refused_by UnknownKey) (judged_by m (broken_rule m))

abbrev pub of_shape : Data → Option WrittenModel → ModelReading
of_shape d None = refused_by BadShape
of_shape d (Some m) = with_known_keys d m

abbrev pub of_document : Option Data → ModelReading
of_document None = refused_by BadJson
of_document (Some d) = of_shape d (model_in d)

-- The reading of a model file's bytes.
abbrev pub model_reading : List ℕ → ModelReading
model_reading bytes = of_document (document bytes)

-- The bytes stand for the model: no rule refuses them.
abbrev pub ModelOf : List ℕ → Model → Type 0
ModelOf bytes m = model_reading bytes ≡ stands_for m

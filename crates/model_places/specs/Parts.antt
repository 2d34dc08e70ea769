-- What stands where in a model file, in the order in which a model is gone through: its name, inputs, states, definitions, fetch,
-- valid condition and instructions; of an instruction its name, decode condition, updates by the bytes of their names, and child; of a
-- child that it is one, its steps, and then its states and all that follows. No order of keys in the file is kept.
use Rattle.std.specs.Prelude.{ℕ, suc, ◌+◌, List, [], ◌∷◌, ◌++◌, length, Option, Some, None, codes}
use Rattle.wb_values.specs.Value.{Name, Sort, Value, Entries}
use Rattle.model_meaning.specs.Model.{StateDeclaration, InputDeclaration, state_named}
use Rattle.model_files.specs.Written.{WrittenTerm, WrittenMachine, machine, WrittenInstruction, instruction, WrittenInstructions, no_instructions, and_then, WrittenChild, no_child, child, WrittenModel}
use Rattle.model_files.specs.Scope.{Visible, MachineScope, PlacedTerm, placed, of_definition, of_fetch, of_condition, of_update, defined, with_states, with_fetch, scope_within, outermost}
use Rattle.model_places.specs.Sites.{Way, into, Spot, Site, site_at, key_spot, item_spot, part_spot, instruction_spot, update_spot}

-- What stands at a place: the name of the model, of an input, state or definition, or of an instruction; the sort of an input or
-- a state, with an initial value where one is stated; a term with what is visible there; a child program with how many children
-- it is within, itself counted; how many steps a child may take.
pub data Thing : Type 0 where
  model_name data_name instruction_name : Name → Thing
  declaration : Sort → Option Value → Thing
  term : PlacedTerm → Thing
  program : (depth : ℕ) → Thing
  step_limit : ℕ → Thing

pub record ModelPart : Type 0 where
  pub site : Site
  pub thing : Thing

abbrev pub part_at : Way → Spot → Thing → ModelPart
part_at way spot t = record { site = site_at way spot; thing = t }

-- a name and the sort that is declared for it
abbrev pub declared_parts : Way → Spot → Name → Sort → Option Value → List ModelPart
declared_parts way spot n s x = part_at way spot (data_name n) ∷ part_at way spot (declaration s x) ∷ []

-- Items of a list are numbered from 0.
abbrev pub input_parts : ℕ → List InputDeclaration → List ModelPart
input_parts k [] = []
input_parts k (i ∷ is) = declared_parts [] (item_spot (codes "inputs") k (Some i.input_name)) i.input_name i.sort None ++ input_parts (k + 1) is

abbrev pub state_parts : Way → ℕ → List StateDeclaration → List ModelPart
state_parts way k [] = []
state_parts way k (s ∷ ss) = declared_parts way (item_spot (codes "states") k (Some s.state_name)) s.state_name s.sort s.init ++ state_parts way (k + 1) ss

-- Each definition sees those before it.
abbrev pub definition_parts : Way → Entries Visible → ℕ → Entries WrittenTerm → List ModelPart
definition_parts way names k [] = []
definition_parts way names k (d ∷ ds) =
    part_at way (item_spot (codes "define") k (Some d.0)) (data_name d.0)
    ∷ part_at way (item_spot (codes "define") k (Some d.0)) (term (placed names d.1 of_definition))
    ∷ definition_parts way ((d.0, defined names d.1) ∷ names) (k + 1) ds

abbrev pub fetch_parts : Way → Entries Visible → Option WrittenTerm → List ModelPart
fetch_parts way names None = []
fetch_parts way names (Some e) = part_at way (key_spot (codes "fetch")) (term (placed names e of_fetch)) ∷ []

-- the updates of an instruction, which is given by its number and its name
abbrev pub update_parts : Way → Entries Visible → List StateDeclaration → (index : ℕ) → (called : Name) → Entries WrittenTerm → List ModelPart
update_parts way names states k n [] = []
update_parts way names states k n (u ∷ us) =
    part_at way (update_spot k n u.0) (term (placed names u.1 (of_update u.0 (state_named states u.0)))) ∷ update_parts way names states k n us

abbrev mutual
  -- The parts of a machine in its scope and of the child programs in it. Its valid and decode conditions and its updates see its
  -- fetch besides.
  pub machine_parts : Way → MachineScope → WrittenMachine → List ModelPart
  machine_parts way around (machine ss ds fetch valid is) =
      let inner : MachineScope = scope_within around ss ds in
      state_parts way 0 ss ++ (definition_parts way (with_states around.names ss) 0 ds ++ (fetch_parts way inner.names fetch
      ++ (part_at way (key_spot (codes "valid")) (term (placed (with_fetch inner.names fetch) valid of_condition))
      ∷ instructions_parts way inner (with_fetch inner.names fetch) 0 is)))

  pub instructions_parts : Way → MachineScope → Entries Visible → ℕ → WrittenInstructions → List ModelPart
  instructions_parts way inner names k no_instructions = []
  instructions_parts way inner names k (and_then i is) = instruction_parts way inner names k i ++ instructions_parts way inner names (k + 1) is

  pub instruction_parts : Way → MachineScope → Entries Visible → ℕ → WrittenInstruction → List ModelPart
  instruction_parts way inner names k (instruction called decode updates held) =
      part_at way (instruction_spot k called) (instruction_name called)
      ∷ part_at way (part_spot (instruction_spot k called) (codes "decode")) (term (placed names decode of_condition))
      ∷ (update_parts way names inner.states k called updates ++ child_parts way inner k called held)

  -- the child program of an instruction, which is given by its number and its name
  pub child_parts : Way → MachineScope → (index : ℕ) → (called : Name) → WrittenChild → List ModelPart
  child_parts way inner k n no_child = []
  child_parts way inner k n (child steps below) =
      part_at way (part_spot (instruction_spot k n) (codes "child")) (program (suc (length way)))
      ∷ part_at (into way k) (key_spot (codes "steps")) (step_limit steps)
      ∷ machine_parts (into way k) inner below

-- The parts of a model file, in that order.
abbrev pub parts_of_model : WrittenModel → List ModelPart
parts_of_model m = part_at [] (key_spot (codes "name")) (model_name m.model_name) ∷ (input_parts 0 m.inputs ++ machine_parts [] (outermost m) m.top)

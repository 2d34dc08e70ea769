-- The model that the parts of a model stand for: the trees of its terms under the names of its states and inputs, and its child programs.
use Rattle.std.specs.Prelude.{ℕ, zero, suc, ◌^◌, false, List, [], ◌∷◌, map, length, drop, replicate, Option, Some, None, option_map}
use Rattle.std.specs.String.{string_bytes}
use Rattle.wb_values.specs.Value as meaning
use Rattle.wb_values.specs.Value.{Name, Sort, truth, word, memory, truth_value, number, words, Entries}
use Rattle.model_meaning.specs.Term.{Term}
use Rattle.model_meaning.specs.Model as pure
use Rattle.model_meaning.specs.Model.{StateDeclaration, InputDeclaration, Model, machine, Instructions, no_instructions, and_then, no_child, value_or}
use Rattle.wb_terms.specs.declared.values.Value.{Value}
use Rattle.wb_terms.specs.Graph.{Graph, tree}
use Rattle.wb_terms.specs.Environment.{as_value}
use Rattle.ila_model.specs.declared.parts.Update.{Update}
use Rattle.ila_model.specs.declared.parts.Instruction.{Instruction}
use Rattle.ila_model.specs.declared.parts.ChildId.{ChildId}
use Rattle.ila_model.specs.declared.parts.Child.{Child}
use Rattle.ila_model.specs.declared.parts.Parts.{Parts}
use Rattle.ila_model.specs.Scope.{nesting}
use Rattle.ila_model.specs.Sorted.{name_at}

-- false, 0, or a memory whose words are 0
abbrev pub zero_of : Sort → meaning.Value
zero_of truth = truth_value false
zero_of (word w) = number 0
zero_of (memory a d) = words (replicate (2 ^ a) 0)

-- The first names of a table are states, one for each initial value.
abbrev pub declared_states : Entries Sort → List (Option Value) → List StateDeclaration
declared_states [] is = []
declared_states (n ∷ ns) [] = []
declared_states (n ∷ ns) (i ∷ is) = record { state_name = n.0; sort = n.1; init = option_map as_value i } ∷ declared_states ns is

-- the same for private states, each of which begins with a value (Well-sorted parts state it, else it is the zero of the sort.)
abbrev pub private_states : Entries Sort → List (Option Value) → List StateDeclaration
private_states [] is = []
private_states (n ∷ ns) [] = []
private_states (n ∷ ns) (i ∷ is) =
    record { state_name = n.0; sort = n.1; init = Some (value_or (option_map as_value i) (zero_of n.1)) } ∷ private_states ns is

-- The first so many names of a table are inputs.
abbrev pub declared_inputs : ℕ → Entries Sort → List InputDeclaration
declared_inputs zero ns = []
declared_inputs (suc m) [] = []
declared_inputs (suc m) (n ∷ ns) = record { input_name = n.0; sort = n.1 } ∷ declared_inputs m ns

abbrev pub update_of : Graph → Update → Name × Term
update_of g u = (name_at g.names u.state.0, tree g u.term.0)

-- Instructions are read with a meaning of their children.
abbrev pub instruction_of : Graph → (Option ChildId → pure.Child) → Instruction → pure.Instruction
instruction_of g inner i =
    pure.instruction (string_bytes i.name) (tree g i.decode.0) (map (update_of g) i.updates.items) (inner i.child)

abbrev pub instructions_of : Graph → (Option ChildId → pure.Child) → List Instruction → Instructions
instructions_of g inner [] = no_instructions
instructions_of g inner (i ∷ is) = and_then (instruction_of g inner i) (instructions_of g inner is)

-- the private states of a child
abbrev pub privates_of : Graph → Child → List StateDeclaration
privates_of g c = private_states (drop c.first.0 g.names) c.initial_values.items

abbrev pub machine_of : Graph → (Option ChildId → pure.Child) → Child → pure.Machine
machine_of g inner c = machine (privates_of g c) (tree g c.valid.0) (instructions_of g inner c.instructions.items)

abbrev pub program_at : Graph → (Option ChildId → pure.Child) → List Child → ℕ → pure.Child
program_at g inner [] k = no_child
program_at g inner (c ∷ cs) zero = pure.child c.steps (machine_of g inner c)
program_at g inner (c ∷ cs) (suc k) = program_at g inner cs k

-- The program of a child, with children inside it down to so many levels. (Well-sorted parts have no more than three.)
abbrev pub program_of : Graph → List Child → (levels : ℕ) → Option ChildId → pure.Child
program_of g cs zero o = no_child
program_of g cs (suc l) None = no_child
program_of g cs (suc l) (Some i) = program_at g (program_of g cs l) cs i.0

abbrev pub model_from : Name → Parts → Model
model_from name p = record {
  model_name = name;
  inputs = declared_inputs p.inputs (drop (length p.initial_values.items) p.terms.names);
  top = machine (declared_states p.terms.names p.initial_values.items) (tree p.terms p.valid.0) (instructions_of p.terms (program_of p.terms p.children.items nesting) p.instructions.items);
}

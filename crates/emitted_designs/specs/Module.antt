-- The module of an emitted design: its ports in their order, and its registers.
use Rattle.std.specs.Prelude.{◌≡◌, ℕ, ◌-◌, ◌^◌, ◌||◌, List, [], ◌∷◌, ◌++◌, map, Contains, Some, None, IsTrue}
use Rattle.wb_values.specs.Value.{Name, Sort, truth, word, memory}
use Rattle.wb_values.specs.Names.{begins_with_wb}
use Rattle.model_meaning.specs.Among.{is_name_in}
use Rattle.model_meaning.specs.Model.{Model, StateDeclaration, InputDeclaration, states_of}
use Rattle.model_meaning.specs.Invariant.{all_machines, gathered, state_names, valued_names}
use Rattle.verilog_trees.specs.Syntax.{Module, input, output}
use Rattle.verilog_meaning.specs.Expression.{Object, object_width, is_memory}
use Rattle.verilog_meaning.specs.Hierarchy.{Placed, placed_scope, constants_of, no_overrides}
use Rattle.verilog_meaning.specs.Settled.{HasPort, port_order, IsDeclared, IsBitOf, is_counted}
use Rattle.emitted_designs.specs.Names.{clock_name, reset_name, go_name, start_name, commit_name, busy_name, kept_name}
use Rattle.emitted_designs.specs.Bounds.{has_children}

-- the module as the top of a design
abbrev pub top_of : Module → Placed
top_of x = record { path = []; of_module = x; constants = constants_of x no_overrides }

abbrev pub object_of : Module → Name → Object
object_of x n = placed_scope (top_of x) n

-- A net or variable that holds values of the sort: a truth value in one bit, a word in its bits, a memory at the addresses [0:2^a-1].
abbrev pub HoldsSort : Sort → Object → Type 0
HoldsSort truth o = (object_width o ≡ 1) × (o.addresses ≡ None)
HoldsSort (word w) o = (object_width o ≡ w) × (o.addresses ≡ None)
HoldsSort (memory a d) o = (object_width o ≡ d) × (o.addresses ≡ Some (0, 2 ^ a - 1))

-- ---- ports

abbrev pub control_inputs : List Name
control_inputs = clock_name ∷ reset_name ∷ go_name ∷ []

abbrev pub control_outputs : List Name
control_outputs = start_name ∷ commit_name ∷ []

abbrev pub input_ports : Model → List Name
input_ports m = control_inputs ++ map (λ i. i.input_name) m.inputs

-- The module has the model's name, and these ports in their order: the inputs wb_clk, wb_rst and wb_go, the model's inputs, and the outputs
-- wb_start and wb_commit. Control signals have one bit, and the model's inputs those of their sorts.
pub record HasPortsOf (m : Model) (x : Module) : Type 0 where
  pub named : x.module_name ≡ m.model_name
  pub order : port_order x ≡ input_ports m ++ control_outputs
  pub inputs : (n : Name) → Contains (input_ports m) n → HasPort x n input
  pub outputs : (n : Name) → Contains control_outputs n → HasPort x n output
  pub control_bits : (n : Name) → Contains (control_inputs ++ control_outputs) n → HoldsSort truth (object_of x n)
  pub input_bits : (i : InputDeclaration) → Contains m.inputs i → HoldsSort i.sort (object_of x i.input_name)

-- ---- registers

-- A register that holds values of the sort: clocked blocks may assign each of its bits.
pub record IsRegisterOf (x : Module) (n : Name) (t : Sort) : Type 0 where
  pub is_declared : IsDeclared (top_of x) n
  pub object : HoldsSort t (object_of x n)
  pub counted : (k b : ℕ) → IsBitOf (top_of x) n k b → IsTrue (is_counted (top_of x) n k b)

-- the states of the model and the private states of its child programs
abbrev pub all_states : Model → List StateDeclaration
all_states m = gathered states_of (all_machines m.top)

abbrev pub all_state_names : Model → List Name
all_state_names m = gathered state_names (all_machines m.top)

-- Each state and private state is the register of its name. Where some instruction has a child, there are wb_busy, and a register for each
-- input. Any other register or net has a name that begins with wb_, and is no memory.
pub record HasRegistersOf (m : Model) (x : Module) : Type 0 where
  pub states : (d : StateDeclaration) → Contains (all_states m) d → IsRegisterOf x d.state_name d.sort
  pub busy : IsTrue (has_children m) → IsRegisterOf x busy_name truth
  pub kept_inputs : IsTrue (has_children m) → (i : InputDeclaration) → Contains m.inputs i → IsRegisterOf x (kept_name i.input_name) i.sort
  pub others : (n : Name) → IsDeclared (top_of x) n → IsTrue (is_name_in n (valued_names m) || begins_with_wb n)
  pub no_other_memory : (n : Name) → IsDeclared (top_of x) n → IsTrue (is_memory (object_of x n)) → IsTrue (is_name_in n (all_state_names m))

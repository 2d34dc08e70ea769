-- How child programs lie in the list of children: each in front of those inside it, with its own states in the table.
use Rattle.std.specs.Prelude.{ℕ, suc, ◌+◌, ◌≡◌, true, List, [], ◌∷◌, ◌++◌, map, length, Option, Some, None, option_map}
use Rattle.std.specs.Borrow.{Bor}
use Rattle.std.specs.BTreeMap.{BTreeMap}
use Rattle.wb_values.specs.Value.{Sort, Entries}
use Rattle.model_files.specs.Written.{WrittenInstruction, instruction, WrittenInstructions, no_instructions, and_then, WrittenMachine, machine, WrittenChild, no_child, child, states_in, machines_of_instruction}
use Rattle.model_files.specs.Scope.{Visible, MachineScope, with_states, scope_within, terms_below, terms_of_child}
use Rattle.wb_terms.specs.declared.nodes.TermId.{TermId}
use Rattle.wb_terms.specs.Environment.{as_value}
use Rattle.wb_terms.specs.Graph.{Graph}
use Rattle.ila_model.specs.declared.parts.ChildId.{ChildId}
use Rattle.ila_model.specs.declared.parts.Child.{Child}
use Rattle.ila_model.specs.Sorted.{are_placed}
use Rattle.ila_build.specs.Knowing.{Knows, are_right}
use Rattle.ila_build.specs.Updating.{StandAt}
use Rattle.ila_build.specs.Declaring.{state_entry}
use Rattle.ila_build.specs.Building.{IsMachine, own_instructions}
use Rattle.ila_build.specs.Inside.{links_from}

-- From a place on, the table has these declarations.
pub record IsDeclaredAt (names : Entries Sort) (place : ℕ) (es : Entries Sort) : Type 0 where
  pub before : Entries Sort
  pub behind : Entries Sort
  pub table : names ≡ before ++ (es ++ behind)
  pub length_before : length before ≡ place

-- The child is the written one, run from a place.
pub record IsLaid (g : Graph) (scope : MachineScope) (at : Option ChildId) (k : ℕ) (steps : ℕ) (m : WrittenMachine) (c : Child) : Type 0 where
  pub around : c.around ≡ at
  pub limit : c.steps ≡ steps
  pub values : map (option_map as_value) c.initial_values.items ≡ map (λ s. s.init) (states_in m)
  pub declared : IsDeclaredAt g.names c.first.0 (map state_entry (states_in m))
  pub places : List ℕ
  pub stand : StandAt g 0 places (scope.states ++ states_in m)
  pub own : IsMachine g (with_states scope.names (states_in m)) (scope.states ++ states_in m) (links_from (suc k) (own_instructions m)) m c.valid c.instructions.items

abbrev mutual
  -- The children are those of the instructions, from a place of the list on, each with those inside it behind it.
  pub AreLaid : Graph → MachineScope → Option ChildId → (k : ℕ) → WrittenInstructions → List Child → Type 0
  AreLaid g scope at k no_instructions xs = xs ≡ []
  AreLaid g scope at k (and_then i is) xs =
      (ys : List Child) × (zs : List Child) × (xs ≡ ys ++ zs) × IsLaidOf g scope at k i ys × AreLaid g scope at (k + length (machines_of_instruction i)) is zs

  pub IsLaidOf : Graph → MachineScope → Option ChildId → (k : ℕ) → WrittenInstruction → List Child → Type 0
  IsLaidOf g scope at k (instruction n d u p) xs = IsLaidChild g scope at k p xs

  pub IsLaidChild : Graph → MachineScope → Option ChildId → (k : ℕ) → WrittenChild → List Child → Type 0
  IsLaidChild g scope at k no_child xs = xs ≡ []
  IsLaidChild g scope at k (child steps m) xs = (c : Child) × (ys : List Child) × (xs ≡ c ∷ ys) × IsLaid g scope at k steps m c × AreLaidIn g scope k m ys

  -- those inside the child at a place
  pub AreLaidIn : Graph → MachineScope → (k : ℕ) → WrittenMachine → List Child → Type 0
  AreLaidIn g scope k (machine ss ds f v is) xs = AreLaid g (scope_within scope ss ds) (Some (record { 0 = k })) (suc k) is xs

-- Children were put behind those of the list: where no rule refuses their terms, they lie there.
pub record AreLaidPut (g : Graph) (t : BTreeMap (Bor (List ℕ)) TermId) (cs : List Child) (h : Graph) (ds : List Child) (at : Option ChildId) (is : WrittenInstructions) : Type 0 where
  pub more : List Child
  pub list : ds ≡ cs ++ more
  pub placed : are_placed (length g.names) (length h.names) more ≡ true
  pub laid : (scope : MachineScope) (ks : List ℕ) (names : Entries Visible) → Knows g t None scope.names → StandAt g 0 ks scope.states → are_right (terms_below scope names is) ≡ true → AreLaid h scope at (length cs) is more

-- the same for one child
pub record IsLaidPut (g : Graph) (t : BTreeMap (Bor (List ℕ)) TermId) (cs : List Child) (h : Graph) (ds : List Child) (at : Option ChildId) (p : WrittenChild) : Type 0 where
  pub more : List Child
  pub list : ds ≡ cs ++ more
  pub placed : are_placed (length g.names) (length h.names) more ≡ true
  pub laid : (scope : MachineScope) (ks : List ℕ) → Knows g t None scope.names → StandAt g 0 ks scope.states → are_right (terms_of_child scope p) ≡ true → IsLaidChild h scope at (length cs) p more

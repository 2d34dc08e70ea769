-- When calls are not refused, and which names they leave as they were.
use Rattle.std.specs.Prelude.{ℕ, ◌≤◌, ◌≡◌, ◌++◌, is_some, Bool, true, false, List, map, ⊤, Option, None, Result, Ok, Err}
use Rattle.std.specs.List.{list_all}
use Rattle.std.specs.Borrow.{Bor}
use Rattle.std.specs.BTreeMap.{BTreeMap}
use Rattle.wb_values.specs.Value.{Name, Sort, Entries}
use Rattle.model_meaning.specs.Term.{Term, name, is_sort}
use Rattle.model_meaning.specs.Model.{StateDeclaration}
use Rattle.model_files.specs.Written.{WrittenInstruction, instruction, WrittenInstructions, no_instructions, and_then, WrittenMachine, machine, WrittenChild, no_child, child, states_in, machines_below, machines_of_child}
use Rattle.model_files.specs.Names.{data_names, joined}
use Rattle.model_files.specs.Scope.{Visible, with_states, terms_below, terms_of_child}
use Rattle.model_meaning.specs.Among.{is_name_in}
use Rattle.wb_terms.specs.declared.nodes.TermId.{TermId}
use Rattle.wb_terms.specs.declared.store.PutStop.{PutStop}
use Rattle.wb_terms.specs.declared.store.PutStop.TheVariants.{BadSort, NoMemory}
use Rattle.wb_terms.specs.Graph.{Graph}
use Rattle.ila_build.specs.Standing.{IsFresh, under_name}
use Rattle.ila_build.specs.Knowing.{Knows, are_right, defined_names}
use Rattle.ila_build.specs.Building.{IsMachineRight, definitions_in}
use Rattle.ila_build.specs.Declaring.{state_entry}
use Rattle.ila_build.specs.Updating.{StandAt}

abbrev pub IsNoRefusal : PutStop → Type 0 → Type 0
IsNoRefusal BadSort Q = Q → ⊥
IsNoRefusal NoMemory Q = ⊤

-- The call is not refused where this holds.
abbrev pub IsUnrefused : {T : Type 0} → Result T PutStop → Type 0 → Type 0
IsUnrefused (Ok x) Q = ⊤
IsUnrefused (Err s) Q = IsNoRefusal s Q

-- Names besides those of the list stand for what they stood for before.
unfoldable pub IsBesides : BTreeMap (Bor (List ℕ)) TermId → BTreeMap (Bor (List ℕ)) TermId → List Name → Type 0
IsBesides t u ns = (q : Name) → is_name_in q ns ≡ false → under_name u q ≡ under_name t q

-- the names and the sorts of declarations
abbrev pub entry_names : Entries Sort → List Name
entry_names es = map (λ e. e.0) es

abbrev pub are_sorts : Entries Sort → Bool
are_sorts es = list_all (λ e. is_sort e.1) es

abbrev pub is_leaf : Term → Bool
is_leaf (name n s) = true
is_leaf _ = false

-- In some scope, whose names are known and whose states stand in the table, this is right.
pub record IsDue (g : Graph) (t : BTreeMap (Bor (List ℕ)) TermId) (f : Option TermId) (right : Entries Visible → List StateDeclaration → Type 0) : Type 0 where
  pub names : Entries Visible
  pub places : List ℕ
  pub states : List StateDeclaration
  pub knows : Knows g t f names
  pub stand : StandAt g 0 places states
  pub is_right : right names states

-- No rule refuses the machine's own terms, and its definitions have new names.
abbrev pub IsMachineDue : Graph → BTreeMap (Bor (List ℕ)) TermId → WrittenMachine → Type 0
IsMachineDue g t m = IsDue g t None (λ names ss. IsMachineRight names ss m) × IsFresh t (defined_names (definitions_in m))

-- The private states have sorts and initial values, and the steps are not past the limit.
pub record IsFitProgram (steps : ℕ) (m : WrittenMachine) : Type 0 where
  pub sorts : are_sorts (map state_entry (states_in m)) ≡ true
  pub values : list_all (λ s. is_some s.init) (states_in m) ≡ true
  pub limit : steps ≤ 4096

-- No rule refuses the child program's own parts, and its states and definitions have new names.
pub record IsChildDue (g : Graph) (t : BTreeMap (Bor (List ℕ)) TermId) (steps : ℕ) (m : WrittenMachine) : Type 0 where
  pub due : IsDue g t None (λ names ss. IsMachineRight (with_states names (states_in m)) (ss ++ states_in m) m)
  pub fresh : IsFresh t (data_names m)
  pub fit : IsFitProgram steps m

-- the names of the states and definitions of child programs, and of those inside them
abbrev pub names_below : WrittenInstructions → List Name
names_below is = joined (map data_names (machines_below is))

abbrev pub names_of_child : WrittenChild → List Name
names_of_child p = joined (map data_names (machines_of_child p))

abbrev mutual
  -- The child programs, and those inside them, are fit.
  pub AreFitBelow : WrittenInstructions → Type 0
  AreFitBelow no_instructions = ⊤
  AreFitBelow (and_then i is) = IsFitOf i × AreFitBelow is

  pub IsFitOf : WrittenInstruction → Type 0
  IsFitOf (instruction n d u p) = IsFitChild p

  pub IsFitChild : WrittenChild → Type 0
  IsFitChild no_child = ⊤
  IsFitChild (child steps m) = IsFitProgram steps m × IsFitMachine m

  pub IsFitMachine : WrittenMachine → Type 0
  IsFitMachine (machine ss ds f v is) = AreFitBelow is

-- No rule refuses the instructions' children and those inside them, and their states and definitions have new names.
pub record AreBelowDue (g : Graph) (t : BTreeMap (Bor (List ℕ)) TermId) (is : WrittenInstructions) : Type 0 where
  pub due : IsDue g t None (λ names ss. (fetched : Entries Visible) × (are_right (terms_below (record { names = names; states = ss }) fetched is) ≡ true))
  pub fresh : IsFresh t (names_below is)
  pub fit : AreFitBelow is

pub record IsProgramDue (g : Graph) (t : BTreeMap (Bor (List ℕ)) TermId) (p : WrittenChild) : Type 0 where
  pub due : IsDue g t None (λ names ss. are_right (terms_of_child (record { names = names; states = ss }) p) ≡ true)
  pub fresh : IsFresh t (names_of_child p)
  pub fit : IsFitChild p

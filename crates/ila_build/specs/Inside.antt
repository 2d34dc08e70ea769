-- When the child programs of a machine's instructions, and those inside them, stand in the list of children.
use Rattle.std.specs.Prelude.{ℕ, ◌+◌, ◌≤◌, ◌≡◌, true, List, [], ◌∷◌, ◌++◌, length, ⊤, Option, Some, None}
use Rattle.std.specs.Borrow.{Bor}
use Rattle.std.specs.BTreeMap.{BTreeMap}
use Rattle.wb_values.specs.Value.{Entries}
use Rattle.model_files.specs.Written.{WrittenInstruction, instruction, WrittenInstructions, no_instructions, and_then, WrittenChild, no_child, child, machines_below, machines_of_instruction, machines_of_child}
use Rattle.model_files.specs.Scope.{Visible, MachineScope, terms_below, terms_of_child}
use Rattle.model_files.specs.Rules.{depth_of_child}
use Rattle.model_files.specs.Meaning.{child_of}
use Rattle.wb_terms.specs.declared.nodes.TermId.{TermId}
use Rattle.wb_terms.specs.Graph.{Graph}
use Rattle.ila_model.specs.declared.parts.ChildId.{ChildId}
use Rattle.ila_model.specs.declared.parts.Child.{Child}
use Rattle.ila_model.specs.Meaning.{program_of}
use Rattle.ila_build.specs.Standing.{IsWider, IsKept, IsTable}
use Rattle.ila_build.specs.Knowing.{Knows, are_right}
use Rattle.ila_build.specs.Updating.{StandAt}

abbrev pub program_in : WrittenInstruction → WrittenChild
program_in (instruction called decode update program) = program

-- the id of a child that stands at a place, if there is one
abbrev pub link_from : ℕ → WrittenChild → Option ChildId
link_from k no_child = None
link_from k (child steps m) = Some (record { 0 = k })

-- The ids of the instructions' children, where these stand from a place on, each with those inside it behind it.
abbrev pub links_from : ℕ → WrittenInstructions → List (Option ChildId)
links_from k no_instructions = []
links_from k (and_then i is) = link_from k (program_in i) ∷ links_from (k + length (machines_of_instruction i)) is

-- The second list has the first in front, and so many children more.
pub record HasMore (cs : List Child) (n : ℕ) (ds : List Child) : Type 0 where
  pub more : List Child
  pub list : ds ≡ cs ++ more
  pub count : length ds ≡ length cs + n

-- In any wider store and with any further children, the id stands for the written child, down to as many levels as that has.
abbrev pub StandsForChild : Graph → List Child → MachineScope → Option ChildId → WrittenChild → Type 0
StandsForChild g cs scope link p = (h : Graph) (behind : List Child) (l : ℕ) → IsWider g h → depth_of_child p ≤ l → program_of h (cs ++ behind) l link ≡ child_of scope p

-- the same for the instructions' children, which stand from a place on
abbrev pub StandForChildren : Graph → List Child → MachineScope → ℕ → WrittenInstructions → Type 0
StandForChildren g cs scope k no_instructions = ⊤
StandForChildren g cs scope k (and_then i is) = StandsForChild g cs scope (link_from k (program_in i)) (program_in i) × StandForChildren g cs scope (k + length (machines_of_instruction i)) is

-- A child and those inside it were put: where no rule refuses their terms, its id stands for it.
pub record IsProgramPut (g : Graph) (t : BTreeMap (Bor (List ℕ)) TermId) (cs : List Child) (h : Graph) (u : BTreeMap (Bor (List ℕ)) TermId) (ds : List Child) (p : WrittenChild) : Type 0 where
  pub wider : IsWider g h
  pub kept : IsKept t u
  pub table : IsTable h u
  pub longer : HasMore cs (length (machines_of_child p)) ds
  pub stands : (scope : MachineScope) (ks : List ℕ) → Knows g t None scope.names → StandAt g 0 ks scope.states → are_right (terms_of_child scope p) ≡ true → StandsForChild h ds scope (link_from (length cs) p) p

-- The instructions' children and those inside them were put: where no rule refuses their terms, their ids stand for them.
pub record AreChildrenPut (g : Graph) (t : BTreeMap (Bor (List ℕ)) TermId) (cs : List Child) (h : Graph) (u : BTreeMap (Bor (List ℕ)) TermId) (ds : List Child) (is : WrittenInstructions) : Type 0 where
  pub wider : IsWider g h
  pub kept : IsKept t u
  pub table : IsTable h u
  pub longer : HasMore cs (length (machines_below is)) ds
  pub stand : (scope : MachineScope) (ks : List ℕ) (names : Entries Visible) → Knows g t None scope.names → StandAt g 0 ks scope.states → are_right (terms_below scope names is) ≡ true → StandForChildren h ds scope (length cs) is

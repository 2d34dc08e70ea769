-- When a machine of the code's model has the terms of a written one.
use Rattle.std.specs.Prelude.{ℕ, suc, ◌<◌, ◌≡◌, true, List, ◌++◌, [], ◌∷◌, map, length, ⊤, Option, None, slice_index_or}
use Rattle.std.specs.Borrow.{Bor}
use Rattle.std.specs.BTreeMap.{BTreeMap}
use Rattle.std.specs.String.{string_bytes}
use Rattle.wb_values.specs.Value.{Name, Entries}
use Rattle.model_meaning.specs.Model.{StateDeclaration}
use Rattle.model_files.specs.Written.{WrittenTerm, WrittenInstruction, instruction, WrittenInstructions, no_instructions, and_then, WrittenMachine, machine, states_in}
use Rattle.model_files.specs.Scope.{Visible, PlacedTerm, placed, of_condition, term_of, with_states, with_definitions, with_fetch, placed_definitions, placed_fetch, placed_updates}
use Rattle.model_files.specs.Meaning.{updates_for_states}
use Rattle.wb_terms.specs.declared.nodes.TermId.{TermId}
use Rattle.wb_terms.specs.Graph.{Graph, tree}
use Rattle.ila_model.specs.declared.parts.Update.{Update}
use Rattle.ila_model.specs.declared.parts.Instruction.{Instruction}
use Rattle.ila_model.specs.declared.parts.ChildId.{ChildId}
use Rattle.ila_model.specs.declared.parts.Child.{Child}
use Rattle.ila_model.specs.Meaning.{privates_of}
use Rattle.ila_build.specs.Standing.{IsWider}
use Rattle.ila_build.specs.Knowing.{Knows, is_right, are_right}
use Rattle.ila_build.specs.Updating.{StandAt, AreUpdates}

-- the parts of an instruction as it is written
abbrev pub called_in : WrittenInstruction → Name
called_in (instruction called decode update program) = called

abbrev pub decode_in : WrittenInstruction → WrittenTerm
decode_in (instruction called decode update program) = decode

abbrev pub update_in : WrittenInstruction → Entries WrittenTerm
update_in (instruction called decode update program) = update

abbrev pub pair_of : Update → ℕ × TermId
pair_of u = (u.state.0, u.term)

-- the id of the child of the instruction at a place, if it has one
abbrev pub link_at : List (Option ChildId) → ℕ → Option ChildId
link_at ls k = slice_index_or ls k None

-- the terms of an instruction itself, with where they stand
abbrev pub own_terms : Entries Visible → List StateDeclaration → WrittenInstruction → List PlacedTerm
own_terms names ss i = placed names (decode_in i) of_condition ∷ placed_updates names ss (update_in i)

-- No rule refuses the instructions' own terms.
abbrev pub AreOwnRight : Entries Visible → List StateDeclaration → WrittenInstructions → Type 0
AreOwnRight names ss no_instructions = ⊤
AreOwnRight names ss (and_then i is) = (are_right (own_terms names ss i) ≡ true) × AreOwnRight names ss is

-- The instruction has the name and the terms of the written one, and this child.
abbrev pub IsInstruction : Graph → Entries Visible → List StateDeclaration → Option ChildId → WrittenInstruction → Instruction → Type 0
IsInstruction g names ss link i x =
    (string_bytes x.name ≡ called_in i) × (x.decode.0 < length g.nodes) × (tree g x.decode.0 ≡ term_of names (decode_in i))
    × AreUpdates g (map pair_of x.updates.items) (updates_for_states names ss (update_in i)) × (x.child ≡ link)

abbrev pub AreInstructions : Graph → Entries Visible → List StateDeclaration → List (Option ChildId) → (from : ℕ) → WrittenInstructions → List Instruction → Type 0
AreInstructions g names ss links k no_instructions [] = ⊤
AreInstructions g names ss links k no_instructions (x ∷ xs) = ⊥
AreInstructions g names ss links k (and_then i is) [] = ⊥
AreInstructions g names ss links k (and_then i is) (x ∷ xs) = IsInstruction g names ss (link_at links k) i x × AreInstructions g names ss links (suc k) is xs

-- An instruction was put: where no rule refuses its terms, it is the written one.
unfoldable pub IsInstructionPut : Graph → BTreeMap (Bor (List ℕ)) TermId → Option TermId → Graph → Option ChildId → WrittenInstruction → Instruction → Type 0
IsInstructionPut g t f h link i x = (names : Entries Visible) (ks : List ℕ) (ss : List StateDeclaration)
    → Knows g t f names → StandAt g 0 ks ss → are_right (own_terms names ss i) ≡ true → IsInstruction h names ss link i x

unfoldable pub AreInstructionsPut : Graph → BTreeMap (Bor (List ℕ)) TermId → Option TermId → Graph → List (Option ChildId) → WrittenInstructions → List Instruction → Type 0
AreInstructionsPut g t f h links is xs = (names : Entries Visible) (ks : List ℕ) (ss : List StateDeclaration)
    → Knows g t f names → StandAt g 0 ks ss → AreOwnRight names ss is → AreInstructions h names ss links 0 is xs

-- ---- machines

abbrev pub definitions_in : WrittenMachine → Entries WrittenTerm
definitions_in (machine ss ds f v is) = ds

abbrev pub fetch_in : WrittenMachine → Option WrittenTerm
fetch_in (machine ss ds f v is) = f

abbrev pub valid_in : WrittenMachine → WrittenTerm
valid_in (machine ss ds f v is) = v

abbrev pub own_instructions : WrittenMachine → WrittenInstructions
own_instructions (machine ss ds f v is) = is

-- what the conditions and updates of a machine see, where these names are visible to its definitions
abbrev pub names_in : Entries Visible → WrittenMachine → Entries Visible
names_in names m = with_fetch (with_definitions names (definitions_in m)) (fetch_in m)

-- No rule refuses the machine's own terms: its definitions, its fetch, its conditions and its updates.
pub record IsMachineRight (names : Entries Visible) (ss : List StateDeclaration) (m : WrittenMachine) : Type 0 where
  pub definitions : are_right (placed_definitions names (definitions_in m)) ≡ true
  pub fetch : are_right (placed_fetch (with_definitions names (definitions_in m)) (fetch_in m)) ≡ true
  pub valid : is_right (placed (names_in names m) (valid_in m) of_condition) ≡ true
  pub instructions : AreOwnRight (names_in names m) ss (own_instructions m)

-- The machine's fetch was put: where no rule refuses it, it is known besides the other names.
unfoldable pub IsFetched : Graph → BTreeMap (Bor (List ℕ)) TermId → Graph → Option WrittenTerm → Option TermId → Type 0
IsFetched g t h w f = (names : Entries Visible) → Knows g t None names → are_right (placed_fetch names w) ≡ true → Knows h t f (with_fetch names w)

-- The valid condition and the instructions are the machine's.
pub record IsMachine (g : Graph) (names : Entries Visible) (ss : List StateDeclaration) (links : List (Option ChildId)) (m : WrittenMachine) (valid : TermId) (xs : List Instruction) : Type 0 where
  pub within : valid.0 < length g.nodes
  pub valid_tree : tree g valid.0 ≡ term_of (names_in names m) (valid_in m)
  pub instructions : AreInstructions g (names_in names m) ss links 0 (own_instructions m) xs

-- A machine's own terms were put: where no rule refuses them, they are the machine's, and its definitions are known besides.
unfoldable pub IsMachinePut : Graph → BTreeMap (Bor (List ℕ)) TermId → Graph → BTreeMap (Bor (List ℕ)) TermId → List (Option ChildId) → WrittenMachine → TermId → List Instruction → Type 0
IsMachinePut g t h u links m valid xs = (names : Entries Visible) (ks : List ℕ) (ss : List StateDeclaration)
    → Knows g t None names → StandAt g 0 ks ss → IsMachineRight names ss m
    → Knows h u None (with_definitions names (definitions_in m)) × IsMachine h names ss links m valid xs

-- What is known inside a child program: its names, the places of its states and of those around it, and its machine.
pub record IsInside (g : Graph) (t : BTreeMap (Bor (List ℕ)) TermId) (links : List (Option ChildId)) (m : WrittenMachine) (c : Child) (names : Entries Visible) (ss : List StateDeclaration) : Type 0 where
  pub known : Knows g t None (with_definitions names (definitions_in m))
  pub places : List ℕ
  pub states : StandAt g 0 places ss
  pub machine : IsMachine g names ss links m c.valid c.instructions.items

-- A child program was put: in any wider store its private states are the machine's, and where no rule refuses its own terms, they are too.
unfoldable pub IsChildPut : Graph → BTreeMap (Bor (List ℕ)) TermId → Graph → BTreeMap (Bor (List ℕ)) TermId → List (Option ChildId) → WrittenMachine → Child → Type 0
IsChildPut g t h u links m c = ((k : Graph) → IsWider h k → privates_of k c ≡ states_in m)
    × ((names : Entries Visible) (ks : List ℕ) (ss : List StateDeclaration) → Knows g t None names → StandAt g 0 ks ss
    → IsMachineRight (with_states names (states_in m)) (ss ++ states_in m) m → IsInside h u links m c (with_states names (states_in m)) (ss ++ states_in m))

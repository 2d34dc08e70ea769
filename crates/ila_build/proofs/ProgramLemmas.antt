-- What was put of instructions and child programs, read as the model that the parts stand for.
use Rattle.std.proofs.Common.{◌≡◌, ℕ, suc, List, [], ◌∷◌, ◌++◌, length, map, Option, refl, ap, ◌∙◌}
use Rattle.std.specs.Prelude.{⊤}
use Rattle.wb_values.specs.Value.{Entries}
use Rattle.model_meaning.specs.Term.{Term}
use Rattle.model_meaning.specs.Model as pure
use Rattle.model_meaning.specs.Model.{StateDeclaration}
use Rattle.model_files.specs.Written.{WrittenInstruction, instruction, WrittenInstructions, no_instructions, and_then, WrittenMachine, machine, states_in}
use Rattle.model_files.specs.Scope.{Visible, MachineScope, term_of, with_states, with_fetch, scope_within}
use Rattle.model_files.specs.Meaning as file
use Rattle.wb_terms.specs.Graph.{Graph, tree}
use Rattle.ila_model.specs.declared.parts.Update.{Update}
use Rattle.ila_model.specs.declared.parts.Instruction.{Instruction}
use Rattle.ila_model.specs.declared.parts.ChildId.{ChildId}
use Rattle.ila_model.specs.declared.parts.Child.{Child}
use Rattle.ila_model.specs.Meaning.{update_of, instruction_of, instructions_of, machine_of, program_at, privates_of}
use Rattle.ila_build.specs.Updating.{AreUpdates}
use Rattle.ila_build.specs.Building.{pair_of, called_in, decode_in, update_in, definitions_in, own_instructions, link_at, IsInstruction, AreInstructions, IsMachine}

pair_is : {A B : Type 0} {x y : A} {u w : B} → x ≡ y → u ≡ w → ◌≡◌ {A = A × B} (x, u) (y, w)
pair_is {A} {B} {x} {y} {u} {w} p q = λ i. (p i, q i)

-- the updates are those by names and trees
pub updates_read : (g : Graph) (us : List Update) (ts : Entries Term) → AreUpdates g (map pair_of us) ts → map (update_of g) us ≡ ts
updates_read g [] [] a = refl
updates_read g [] (t ∷ ts) a = absurd a
updates_read g (u ∷ us) [] a = absurd a
updates_read g (u ∷ us) (t ∷ ts) a = ap (λ x. x ∷ map (update_of g) us) (pair_is a.2 a.3) ∙ ap (λ r. t ∷ r) (updates_read g us ts a.4)

-- What the ids of children stand for, by a meaning of the ids, is what the written children stand for.
abbrev pub AreLinked : (Option ChildId → pure.Child) → MachineScope → List (Option ChildId) → ℕ → WrittenInstructions → Type 0
AreLinked inner scope links k no_instructions = ⊤
AreLinked inner scope links k (and_then (instruction n d u p) is) = (inner (link_at links k) ≡ file.child_of scope p) × AreLinked inner scope links (suc k) is

pub instruction_read : (g : Graph) (inner : Option ChildId → pure.Child) (scope : MachineScope) (names : Entries Visible) (link : Option ChildId) (i : WrittenInstruction) (p : pure.Child) (x : Instruction)
    → IsInstruction g names scope.states link i x → inner link ≡ p → instruction_of g inner x ≡ pure.instruction (called_in i) (term_of names (decode_in i)) (file.updates_for_states names scope.states (update_in i)) p
instruction_read g inner scope names link i p x a e =
    ap (λ n. pure.instruction n (tree g x.decode.0) (map (update_of g) x.updates.items) (inner x.child)) a.0
    ∙ (ap (λ t. pure.instruction (called_in i) t (map (update_of g) x.updates.items) (inner x.child)) a.2
    ∙ (ap (λ us. pure.instruction (called_in i) (term_of names (decode_in i)) us (inner x.child)) (updates_read g x.updates.items _ a.3)
    ∙ ap (pure.instruction (called_in i) (term_of names (decode_in i)) (file.updates_for_states names scope.states (update_in i))) (ap inner a.4 ∙ e)))

-- Instructions with their children are those of the file.
pub instructions_read : (g : Graph) (inner : Option ChildId → pure.Child) (scope : MachineScope) (names : Entries Visible) (links : List (Option ChildId)) (k : ℕ) (is : WrittenInstructions) (xs : List Instruction)
    → AreInstructions g names scope.states links k is xs → AreLinked inner scope links k is → instructions_of g inner xs ≡ file.instructions_of scope names is
instructions_read g inner scope names links k no_instructions [] a l = refl
instructions_read g inner scope names links k no_instructions (x ∷ xs) a l = absurd a
instructions_read g inner scope names links k (and_then i is) [] a l = absurd a
instructions_read g inner scope names links k (and_then (instruction n d u p) is) (x ∷ xs) a l =
    ap (λ y. pure.and_then y (instructions_of g inner xs)) (instruction_read g inner scope names (link_at links k) (instruction n d u p) (file.child_of scope p) x a.0 l.0)
    ∙ ap (pure.and_then (file.instruction_of scope names (instruction n d u p))) (instructions_read g inner scope names links (suc k) is xs a.1 l.1)

-- A child at a place of the table of children.
pub program_there : (g : Graph) (inner : Option ChildId → pure.Child) (before : List Child) (c : Child) (behind : List Child) → program_at g inner (before ++ c ∷ behind) (length before) ≡ pure.child c.steps (machine_of g inner c)
program_there g inner [] c behind = refl
program_there g inner (b ∷ before) c behind = program_there g inner before c behind

-- A machine's private states, valid condition and instructions together.
pub machine_read : (g : Graph) (inner : Option ChildId → pure.Child) (scope : MachineScope) (links : List (Option ChildId)) (m : WrittenMachine) (c : Child)
    → privates_of g c ≡ states_in m → IsMachine g (with_states scope.names (states_in m)) (scope.states ++ states_in m) links m c.valid c.instructions.items
    → AreLinked inner (scope_within scope (states_in m) (definitions_in m)) links 0 (own_instructions m) → machine_of g inner c ≡ file.machine_of scope m
machine_read g inner scope links (machine ss ds f v is) c e a l =
    let inside = scope_within scope ss ds in
    let names = with_fetch inside.names f in
    ap (λ own. pure.machine own (tree g c.valid.0) (instructions_of g inner c.instructions.items)) e
    ∙ (ap (λ t. pure.machine ss t (instructions_of g inner c.instructions.items)) a.valid_tree
    ∙ ap (pure.machine ss (term_of names v)) (instructions_read g inner inside names links 0 is c.instructions.items a.instructions l))

-- Lemmas on the names of a model: they are apart, and stand at their places.
use Rattle.std.proofs.Common.{◌≡◌, ℕ, zero, suc, ◌+◌, ◌<◌, Bool, true, false, cond, List, [], ◌∷◌, ◌++◌, map, length, take, drop, Option, Some, option_map, slice_get, is_none, refl, sym, ap, ◌∙◌, subst, arith, add-one, get_or, ◌≤◌}
use Rattle.std.proofs.lemmas.Bool.{and_from, and_parts}
use Rattle.std.specs.String.{string_bytes}
use Rattle.wb_values.specs.Value.{Name, same_name, Sort, truth, word, memory, Entries, entry_of}
use Rattle.model_meaning.specs.Model.{StateDeclaration, InputDeclaration, Model, states_of, instructions_in, instruction_list, instruction_name}
use Rattle.model_meaning.specs.Model as pure
use Rattle.scripts.specs.Script.{settable, settable_named, settables_of}
use Rattle.scripts.specs.Simulation.{name_or_none}
use Rattle.wb_terms.specs.Graph.{Graph}
use Rattle.ila_model.specs.declared.parts.Instruction.{Instruction}
use Rattle.ila_model.specs.declared.parts.ChildId.{ChildId}
use Rattle.ila_model.specs.declared.parts.Parts.{Parts}
use Rattle.ila_model.specs.Meaning.{model_from, instructions_of}
use Rattle.ila_model.specs.Sorted.{are_distinct, is_well_sorted}
use Rattle.ila_model.proofs.Declarations.{sorted}
use Rattle.ila_child.specs.State.{sorts_of_states, sorts_of_inputs}
use Rattle.ila_child.proofs.Places.{distinct-take, distinct-drop}
use Rattle.ila_child.proofs.Starts.{states_table, inputs_table}
use Rattle.ila_sim.specs.Names.{are_apart}
use Rattle.ila_sim.specs.Outcomes.{settables_by}

-- what a script sets by a name has that name
pub named_as : (n : Name) (s : Sort) → (settable n s).called ≡ n
named_as n truth = refl
named_as n (word w) = refl
named_as n (memory a d) = refl

lacks_same : (ns : Entries Sort) (n : Name) → is_none (settable_named (settables_by ns) n) ≡ is_none (entry_of ns n)
lacks_same [] n = refl
lacks_same (e ∷ ns) n =
    ap (λ m. is_none (cond (same_name m n) (Some (settable e.0 e.1)) (settable_named (settables_by ns) n))) (named_as e.0 e.1)
    ∙ shown (same_name e.0 n) (lacks_same ns n)
  where
    shown : (t : Bool) → is_none (settable_named (settables_by ns) n) ≡ is_none (entry_of ns n)
        → is_none (cond t (Some (settable e.0 e.1)) (settable_named (settables_by ns) n)) ≡ is_none (cond t (Some e.1) (entry_of ns n))
    shown true h = refl
    shown false h = h

pub apart_from : (ns : Entries Sort) → are_distinct ns ≡ true → are_apart (settables_by ns) ≡ true
apart_from [] h = refl
apart_from (e ∷ ns) h =
    let p = and_parts (is_none (entry_of ns e.0)) (are_distinct ns) h in
    let lacks : is_none (settable_named (settables_by ns) (settable e.0 e.1).called) ≡ true =
    ap (λ m. is_none (settable_named (settables_by ns) m)) (named_as e.0 e.1) ∙ (lacks_same ns e.0 ∙ p.0) in
    and_from _ _ lacks (apart_from ns p.1)

pub states_by : (ss : List StateDeclaration) → map (λ (s : StateDeclaration). settable s.state_name s.sort) ss ≡ settables_by (sorts_of_states ss)
states_by [] = refl
states_by (s ∷ ss) = ap (λ xs. settable s.state_name s.sort ∷ xs) (states_by ss)

pub inputs_by : (is : List InputDeclaration) → map (λ (i : InputDeclaration). settable i.input_name i.sort) is ≡ settables_by (sorts_of_inputs is)
inputs_by [] = refl
inputs_by (i ∷ is) = ap (λ xs. settable i.input_name i.sort ∷ xs) (inputs_by is)

pub states_apart : (p : Parts) (name : Name) → is_well_sorted p ≡ true → are_apart (settables_of (model_from name p)).states ≡ true
states_apart p name h =
    let ns = p.terms.names in
    let is = p.initial_values.items in
    let d = subst (λ t. are_distinct t ≡ true) (sym (states_table ns is)) (distinct-take (length is) ns (sorted p h).distinct) in
    subst (λ t. are_apart t ≡ true) (sym (states_by (states_of (model_from name p).top))) (apart_from (sorts_of_states (states_of (model_from name p).top)) d)

pub inputs_apart : (p : Parts) (name : Name) → is_well_sorted p ≡ true → are_apart (settables_of (model_from name p)).inputs ≡ true
inputs_apart p name h =
    let ns = p.terms.names in
    let is = p.initial_values.items in
    let d = subst (λ t. are_distinct t ≡ true) (sym (inputs_table p.inputs (drop (length is) ns))) (distinct-take p.inputs _ (distinct-drop (length is) ns (sorted p h).distinct)) in
    subst (λ t. are_apart t ≡ true) (sym (inputs_by (model_from name p).inputs)) (apart_from (sorts_of_inputs (model_from name p).inputs) d)

pub state_there : (ss : List StateDeclaration) (k : ℕ) (n : Name) (s : Sort) → option_map (λ (d : StateDeclaration). d.state_name) (slice_get ss k) ≡ Some n
    → option_map (λ (d : StateDeclaration). d.sort) (slice_get ss k) ≡ Some s → slice_get (map (λ (d : StateDeclaration). settable d.state_name d.sort) ss) k ≡ Some (settable n s)
state_there [] k n s a b = absurd (cc)
state_there (d ∷ ss) zero n s a b =
    let x : d.state_name ≡ n = cc in
    let y : d.sort ≡ s = cc in
    ap (λ m. Some (settable m d.sort)) x ∙ ap (λ t. Some (settable n t)) y
state_there (d ∷ ss) (suc k) n s a b = state_there ss k n s a b

pub input_there : (is : List InputDeclaration) (k : ℕ) (n : Name) (s : Sort) → option_map (λ (d : InputDeclaration). d.input_name) (slice_get is k) ≡ Some n
    → option_map (λ (d : InputDeclaration). d.sort) (slice_get is k) ≡ Some s → slice_get (map (λ (d : InputDeclaration). settable d.input_name d.sort) is) k ≡ Some (settable n s)
input_there [] k n s a b = absurd (cc)
input_there (d ∷ is) zero n s a b =
    let x : d.input_name ≡ n = cc in
    let y : d.sort ≡ s = cc in
    ap (λ m. Some (settable m d.sort)) x ∙ ap (λ t. Some (settable n t)) y
input_there (d ∷ is) (suc k) n s a b = input_there is k n s a b

-- a list goes on by its element at a place
taken : {X : Type 0} (xs : List X) (k : ℕ) (y : X) → slice_get xs k ≡ Some y → take (suc k) xs ≡ take k xs ++ y ∷ []
taken [] k y e = absurd (cc)
taken (x ∷ xs) zero y e =
    let same : x ≡ y = cc in
    ap (λ z. z ∷ []) same
taken (x ∷ xs) (suc k) y e = ap (λ ys. x ∷ ys) (taken xs k y e)

pub taken_more : {X : Type 0} (xs : List X) (k : ℕ) (y : X) → slice_get xs k ≡ Some y → take (k + 1) xs ≡ take k xs ++ y ∷ []
taken_more xs k y e = ap (λ j. take j xs) (add-one k) ∙ taken xs k y e

-- the name of the instruction at a place
pub name_there : (g : Graph) (inner : Option ChildId → pure.Child) (is : List Instruction) (k : ℕ) (i : Instruction) → k < length is
    → name_or_none (option_map instruction_name (slice_get (instruction_list (instructions_of g inner is)) k)) ≡ string_bytes (get_or is k i).name
name_there g inner [] k i h = absurd (omega arith)
name_there g inner (d ∷ is) zero i h = refl
name_there g inner (d ∷ is) (suc k) i h = name_there g inner is k i (omega arith)

pub name_nowhere : (g : Graph) (inner : Option ChildId → pure.Child) (is : List Instruction) (k : ℕ) → length is ≤ k
    → name_or_none (option_map instruction_name (slice_get (instruction_list (instructions_of g inner is)) k)) ≡ []
name_nowhere g inner [] k h = refl
name_nowhere g inner (d ∷ is) zero h = absurd (omega arith)
name_nowhere g inner (d ∷ is) (suc k) h = name_nowhere g inner is k (omega arith)

-- The instructions of a model, one more at a time.
use Rattle.std.proofs.Common.{◌≡◌, ℕ, zero, suc, ◌+◌, ◌<◌, true, false, List, [], ◌∷◌, ◌++◌, length, take, map, get_or, Option, Some, None, slice_get, codes, refl, sym, ap, ◌∙◌, append_assoc, arith}
use Rattle.std.specs.Prelude.{decimal, is_some}
use Rattle.std.proofs.lemmas.Bool.{and_parts, false≢true}
use Rattle.std.proofs.lemmas.List.{append-nil, length-take-le}
use Rattle.wb_values.specs.Value.{Name}
use Rattle.model_meaning.specs.Model as pure
use Rattle.model_meaning.specs.Model.{Model, Instruction, instruction_list, instruction_name, child_program, states_of}
use Rattle.refinement.specs.Map.{Map}
use Rattle.refinement.specs.Obligation.{for_each, ends, result_of, started_by, ended_at, invariant_obligations, state_obligations, child_obligations, bound_obligation, commit_obligations, bound_named, instruction_obligations, all_instruction_obligations}
use Rattle.wb_terms.specs.Graph.{Graph}
use Rattle.ila_model.specs.declared.parts.Instruction as code
use Rattle.ila_model.specs.declared.parts.ChildId.{ChildId}
use Rattle.ila_model.specs.declared.parts.Child.{Child}
use Rattle.ila_model.specs.declared.parts.Parts.{Parts}
use Rattle.ila_model.specs.Scope.{nesting}
use Rattle.ila_model.specs.Sorted.{is_instruction, is_link, is_condition, child_after, are_instructions, IsChildBelow, is_well_sorted}
use Rattle.ila_model.specs.Meaning.{instruction_of, instructions_of, program_of, program_at}
use Rattle.ila_model.proofs.Declarations.{IsChildBelow-link, sorted}
use Rattle.obligation_lists.proofs.Growing.{line}

pub instructions_back : (g : Graph) (inner : Option ChildId → pure.Child) (is : List code.Instruction)
    → instruction_list (instructions_of g inner is) ≡ map (instruction_of g inner) is
instructions_back g inner [] = refl
instructions_back g inner (i ∷ is) = ap (λ xs. instruction_of g inner i ∷ xs) (instructions_back g inner is)

-- the child of an instruction stands in the table
linked_in : (p : Parts) (at : Option ℕ) (from : ℕ) (is : List code.Instruction) (k : ℕ) (d : code.Instruction) → are_instructions p at from is ≡ true → k < length is
    → IsChildBelow (length p.children.items) (get_or is k d).child
linked_in p at from [] k d h b = absurd (omega (arith, b))
linked_in p at from (i ∷ is) zero d h b =
    let x = and_parts (is_instruction p at i) _ h in
    IsChildBelow-link p.children.items at from i.child (and_parts (is_link p.children.items at from i.child) _ x.1).0
linked_in p at from (i ∷ is) (suc k) d h b =
    let x = and_parts (is_instruction p at i) _ h in
    let z = and_parts (is_link p.children.items at from i.child) _ x.1 in
    linked_in p at (child_after from i.child) is k d z.1 (omega (arith, b))

pub linked_at : (p : Parts) (k : ℕ) (d : code.Instruction) → is_well_sorted p ≡ true → k < length p.instructions.items
    → IsChildBelow (length p.children.items) (get_or p.instructions.items k d).child
linked_at p k d w b =
    let x = and_parts (is_condition p None p.valid.0) _ (sorted p w).top in
    linked_in p None 0 p.instructions.items k d x.1 b

program_there : (g : Graph) (inner : Option ChildId → pure.Child) (cs : List Child) (k : ℕ) → k < length cs
    → (n : ℕ) × (m : pure.Machine) × (program_at g inner cs k ≡ pure.child n m)
program_there g inner [] k h = absurd (omega (arith, h))
program_there g inner (c ∷ cs) zero h = (_, _, refl)
program_there g inner (c ∷ cs) (suc k) h = program_there g inner cs k (omega (arith, h))

pub no_child_lines : (p : Map) (j : ℕ) (n : Name) (g : Graph) (cs : List Child) (o : Option ChildId) → is_some o ≡ false
    → child_obligations p j n (program_of g cs nesting o) ≡ []
unfolding nesting
no_child_lines p j n g cs None e = refl
no_child_lines p j n g cs (Some i) e = absurd (false≢true (sym e))

pub child_line : (p : Map) (j : ℕ) (n : Name) (g : Graph) (cs : List Child) (o : Option ChildId) → is_some o ≡ true → IsChildBelow (length cs) o
    → line (codes "child." ++ n) 1 (started_by p j) (ends j) ∷ [] ≡ child_obligations p j n (program_of g cs nesting o)
unfolding nesting
child_line p j n g cs None e h = absurd (false≢true e)
child_line p j n g cs (Some i) e h =
    let r = program_there g (program_of g cs 2) cs i.0 h in
    ap (child_obligations p j n) (sym r.2)

-- ---- commits

pub commit_lines : (m : Model) (p : Map) (j : ℕ) (n : Name) (c : ℕ) (t u : Name) (k : ℕ)
    → t ≡ (codes "commit." ++ n ++ codes "." ++ decimal c) ++ codes ".inv." → u ≡ (codes "commit." ++ n ++ codes "." ++ decimal c) ++ codes ".state."
    → k ≡ suc c
    → invariant_obligations p t k (ended_at p j c) k ++ state_obligations u k (ended_at p j c) (λ q. result_of j q k) (states_of m.top)
    ≡ commit_obligations m p j n c
commit_lines m p j n c t u k is_t is_u is_k =
    ap (λ x. invariant_obligations p x k (ended_at p j c) k ++ state_obligations u k (ended_at p j c) (λ q. result_of j q k) (states_of m.top)) is_t
    ∙ ap (λ x. invariant_obligations p ((codes "commit." ++ n ++ codes "." ++ decimal c) ++ codes ".inv.") k (ended_at p j c) k
    ++ state_obligations x k (ended_at p j c) (λ q. result_of j q k) (states_of m.top)) is_u
    ∙ ap (λ x. invariant_obligations p ((codes "commit." ++ n ++ codes "." ++ decimal c) ++ codes ".inv.") x (ended_at p j c) x
    ++ state_obligations ((codes "commit." ++ n ++ codes "." ++ decimal c) ++ codes ".state.") x (ended_at p j c) (λ q. result_of j q x) (states_of m.top)) is_k

-- ---- one instruction after another

all_append : (m : Model) (p : Map) (j : ℕ) (xs ys : List Instruction)
    → all_instruction_obligations m p j (xs ++ ys) ≡ all_instruction_obligations m p j xs ++ all_instruction_obligations m p (j + length xs) ys
all_append m p j [] ys =
    let e : j ≡ j + 0 = omega arith in
    ap (λ k. all_instruction_obligations m p k ys) e
all_append m p j (x ∷ xs) ys =
    let e : suc j + length xs ≡ j + suc (length xs) = omega arith in
    ap (λ os. instruction_obligations m p j x ++ os)
    (all_append m p (suc j) xs ys ∙ ap (λ k. all_instruction_obligations m p (suc j) xs ++ all_instruction_obligations m p k ys) e)
    ∙ sym (append_assoc (instruction_obligations m p j x) (all_instruction_obligations m p (suc j) xs)
    (all_instruction_obligations m p (j + suc (length xs)) ys))

pub all_more : (m : Model) (p : Map) (is : List Instruction) (k : ℕ) (i : Instruction) → k < length is → take k is ++ i ∷ [] ≡ take (k + 1) is
    → all_instruction_obligations m p 0 (take k is) ++ instruction_obligations m p k i ≡ all_instruction_obligations m p 0 (take (k + 1) is)
all_more m p is k i here more =
    let e : k ≡ 0 + length (take k is) = omega (arith, length-take-le k is (omega (arith, here))) in
    ap (λ os. all_instruction_obligations m p 0 (take k is) ++ os) (sym (append-nil (instruction_obligations m p k i)))
    ∙ ap (λ n. all_instruction_obligations m p 0 (take k is) ++ all_instruction_obligations m p n (i ∷ [])) e
    ∙ sym (all_append m p 0 (take k is) (i ∷ []))
    ∙ ap (all_instruction_obligations m p 0) more

map_at : {A B : Type 0} (f : A → B) (xs : List A) (k : ℕ) (x : A) (y : B) → k < length xs → slice_get xs k ≡ Some x → get_or (map f xs) k y ≡ f x
map_at f [] k x y h e = absurd (omega (arith, h))
map_at f (a ∷ xs) zero x y h e =
    let same : a ≡ x = cc in
    ap f same
map_at f (a ∷ xs) (suc k) x y h e = map_at f xs k x y (omega (arith, h)) e

-- the bound at an instruction's place
pub bound_at : (p : Map) (is : List Instruction) (bs : List ℕ) (k b d : ℕ) (i : Instruction) → map (λ i. bound_named p (instruction_name i)) is ≡ bs
    → k < length is → slice_get is k ≡ Some i → b ≡ get_or bs k d → b ≡ bound_named p (instruction_name i)
bound_at p is bs k b d i same here there e =
    e ∙ ap (λ l. get_or l k d) (sym same) ∙ map_at (λ i. bound_named p (instruction_name i)) is k i d here there

pub with_bound : (m : Model) (p : Map) (k b : ℕ) (i : Instruction) → b ≡ bound_named p (instruction_name i)
    → child_obligations p k (instruction_name i) (child_program i) ++ bound_obligation p k (instruction_name i) b
    ∷ for_each (commit_obligations m p k (instruction_name i)) 0 b
    ≡ instruction_obligations m p k i
with_bound m p k b i e =
    ap (λ c. child_obligations p k (instruction_name i) (child_program i) ++ bound_obligation p k (instruction_name i) c
    ∷ for_each (commit_obligations m p k (instruction_name i)) 0 c) e

-- the instruction at a place of the code's list and of the model's
pub same_there : (g : Graph) (inner : Option ChildId → pure.Child) (is : List code.Instruction) (k : ℕ) (x : code.Instruction) (i : Instruction)
    → k < length is → x ≡ get_or is k x → slice_get (instruction_list (instructions_of g inner is)) k ≡ Some i → instruction_of g inner x ≡ i
same_there g inner [] k x i h e f = absurd (omega (arith, h))
same_there g inner (a ∷ is) zero x i h e f =
    let same : instruction_of g inner a ≡ i = cc in
    ap (instruction_of g inner) e ∙ same
same_there g inner (a ∷ is) (suc k) x i h e f = same_there g inner is k x i (omega (arith, h)) e f

pub same_length : (g : Graph) (inner : Option ChildId → pure.Child) (is : List code.Instruction)
    → length (instruction_list (instructions_of g inner is)) ≡ length is
same_length g inner [] = refl
same_length g inner (i ∷ is) = ap (λ n. suc n) (same_length g inner is)

-- Child programs of a model's parts: their bounds, how deep they nest, and how great a bound can be.
use Rattle.std.proofs.Common.{◌≡◌, ℕ, zero, suc, ◌+◌, ◌-◌, ◌*◌, ◌<◌, ◌≤◌, true, List, [], ◌∷◌, length, get_or, drop, Option, Some, None, MatchOption, slice_get, refl, sym, ap, ◌∙◌, subst, arith}
use Rattle.std.specs.Prelude.{max, nat_le, option_map}
use Rattle.std.specs.Borrow.{Bor}
use Rattle.std.specs.Slice.{IsItemAt}
use Rattle.std.proofs.lemmas.Bool.{and_parts, leb-true}
use Rattle.std.proofs.lemmas.List.{drop_more}
use Rattle.std.proofs.lemmas.Nat.{mul-le}
use Rattle.model_meaning.specs.Model as pure
use Rattle.model_meaning.specs.Model.{instruction_list, no_child}
use Rattle.wb_terms.specs.Graph.{Graph}
use Rattle.ila_model.specs.declared.parts.ChildId.{ChildId}
use Rattle.ila_model.specs.declared.parts.Child.{Child}
use Rattle.ila_model.specs.declared.parts.Instruction.{Instruction}
use Rattle.ila_model.specs.declared.parts.Parts.{Parts}
use Rattle.ila_model.specs.Sorted.{is_limit, is_child, are_children, is_well_sorted}
use Rattle.ila_model.specs.Meaning.{program_at, machine_of, instructions_of}
use Rattle.ila_model.proofs.Declarations.{sorted}
use Rattle.emitted_designs.specs.Bounds.{instruction_bound, child_bound, bound_among, nesting_of_child, nesting_among}
use Rattle.emitted_maps.specs.Programs.{program_within, instructions_within, most_within, IsProgram}

-- ---- the program of a child

program_there : (g : Graph) (inner : Option ChildId → pure.Child) (cs : List Child) (k : ℕ) (c : Child) → k < length cs → c ≡ get_or cs k c
    → program_at g inner cs k ≡ pure.child c.steps (machine_of g inner c)
program_there g inner [] k c h e = absurd (omega (arith, h))
program_there g inner (x ∷ cs) zero c h e = ap (λ (y : Child). pure.child y.steps (machine_of g inner y)) (sym e)
program_there g inner (x ∷ cs) (suc k) c h e = program_there g inner cs k c (omega (arith, h)) e

program_past : (g : Graph) (inner : Option ChildId → pure.Child) (cs : List Child) (k : ℕ) → length cs ≤ k → program_at g inner cs k ≡ no_child
program_past g inner [] k h = refl
program_past g inner (x ∷ cs) zero h = absurd (omega (arith, h))
program_past g inner (x ∷ cs) (suc k) h = program_past g inner cs k (omega (arith, h))

within_there : (p : Parts) (l j : ℕ) (i : ChildId) (c : Child) → l ≡ suc j → i.0 < length p.children.items → c ≡ get_or p.children.items i.0 c
    → program_within p l (Some i) ≡ pure.child c.steps (machine_of p.terms (program_within p j) c)
within_there p l j i c e h is =
    ap (λ m. program_within p m (Some i)) e ∙ program_there p.terms (program_within p j) p.children.items i.0 c h is

-- no child, and none that is so deep
pub nothing_within : (p : Parts) (l : ℕ) (o : Option ChildId) → o ≡ None → program_within p l o ≡ no_child
nothing_within p l o e = ap (λ (q : Option ChildId). program_within p l q) e ∙ none l
  where
    none : (l : ℕ) → program_within p l None ≡ no_child
    none zero = refl
    none (suc l) = refl

pub too_deep : (p : Parts) (l : ℕ) (o : Option ChildId) → l ≡ 0 → program_within p l o ≡ no_child
too_deep p l o e = ap (λ m. program_within p m o) e

missing : (p : Parts) (l : ℕ) (i : ChildId) → length p.children.items ≤ i.0 → program_within p l (Some i) ≡ no_child
missing p zero i h = refl
missing p (suc l) i h = program_past p.terms (program_within p l) p.children.items i.0 h

limit_at : (p : Parts) (from : ℕ) (cs : List Child) (k : ℕ) (d : Child) → are_children p from cs ≡ true → k < length cs
    → is_limit (get_or cs k d).steps ≡ true
limit_at p from [] k d h b = absurd (omega (arith, b))
limit_at p from (c ∷ cs) zero d h b = (and_parts (is_limit c.steps) _ (and_parts (is_child p from c) _ h).0).0
limit_at p from (c ∷ cs) (suc k) d h b = limit_at p (suc from) cs k d (and_parts (is_child p from c) _ h).1 (omega (arith, b))

-- a child takes 4,096 steps at most
steps_limit : (p : Parts) → is_well_sorted p ≡ true → (k : ℕ) (c : Child) → k < length p.children.items → c ≡ get_or p.children.items k c → c.steps ≤ 4096
steps_limit p s k c b here =
    let l = subst (λ (x : Child). is_limit x.steps ≡ true) (sym here) (limit_at p 0 p.children.items k c (sorted p s).children b) in
    leb-true c.steps 4096 (and_parts (nat_le 1 c.steps) _ l).1

-- what the table has at the place of a child
pub child_found : (p : Parts) → is_well_sorted p ≡ true → (l : ℕ) (o : Option ChildId) (i : ChildId) (r : Option (Bor Child)) → o ≡ Some i → (l ≡ 0 → ⊥)
    → IsItemAt p.children.items i.0 r → MatchOption r (program_within p l o ≡ no_child) (λ c. IsProgram p l o c.now)
child_found p s l o i None e some h = ap (λ (q : Option ChildId). program_within p l q) e ∙ missing p l i h.3
child_found p s l o i (Some c) e some h =
    let level : 0 < l = omega (arith, some) in
    let is : l ≡ suc (l - 1) = omega (arith, level) in
    let inside : i.0 < length p.children.items = h.3.0 in
    record {
      level = level;
      limit = steps_limit p s i.0 c.now inside h.1;
      is_program = ap (λ (q : Option ChildId). program_within p l q) e ∙ within_there p l (l - 1) i c.now is inside h.1;
    }

-- ---- the greatest among instructions

cut : {A : Type 0} (xs : List A) (k : ℕ) (x : A) → k < length xs → x ≡ get_or xs k x → drop k xs ≡ x ∷ drop (k + 1) xs
cut xs k x h e = drop_more xs k x h ∙ ap (λ y. y ∷ drop (k + 1) xs) (sym e)

moved : (a b c : ℕ) → max (max b a) c ≡ max a (max b c)
moved a b c = omega arith

one_at_least : (p : Parts) (l : ℕ) (is : List Instruction) → 1 ≤ bound_among (instructions_within p l is)
one_at_least p l [] = omega arith
one_at_least p l (i ∷ is) = let h = one_at_least p l is in omega (arith, h)

pub bound_start : (p : Parts) (l : ℕ) (is : List Instruction) → max 1 (bound_among (instructions_within p l is)) ≡ bound_among (instructions_within p l is)
bound_start p l is = let h = one_at_least p l is in omega (arith, h)

pub bound_turn : (p : Parts) (l k : ℕ) (is : List Instruction) (i : Instruction) (greatest bound more : ℕ) → k < length is → i ≡ get_or is k i
    → bound ≡ child_bound (program_within p l i.child) → more ≡ max bound greatest
    → max more (bound_among (instructions_within p l (drop (k + 1) is))) ≡ max greatest (bound_among (instructions_within p l (drop k is)))
bound_turn p l k is i greatest bound more h e b m =
    let rest = bound_among (instructions_within p l (drop (k + 1) is)) in
    ap (λ x. max x rest) (m ∙ ap (λ x. max x greatest) b)
    ∙ (moved greatest (child_bound (program_within p l i.child)) rest
    ∙ ap (λ (js : List Instruction). max greatest (bound_among (instructions_within p l js))) (sym (cut is k i h e)))

none_left : {A : Type 0} (xs : List A) (k : ℕ) → length xs ≤ k → drop k xs ≡ []
none_left [] zero h = refl
none_left [] (suc k) h = refl
none_left (x ∷ xs) zero h = absurd (omega (arith, h))
none_left (x ∷ xs) (suc k) h = none_left xs k (omega (arith, h))

pub bound_end : (p : Parts) (l k : ℕ) (is : List Instruction) (greatest : ℕ) → length is ≤ k → 1 ≤ greatest
    → max greatest (bound_among (instructions_within p l (drop k is))) ≡ bound_among (instructions_within p l is)
    → greatest ≡ bound_among (instructions_within p l is)
bound_end p l k is greatest h some e =
    let none = ap (λ (js : List Instruction). max greatest (bound_among (instructions_within p l js))) (none_left is k h) in
    omega (arith, some, e, none)

pub nesting_start : (p : Parts) (l : ℕ) (is : List Instruction) → max 0 (nesting_among (instructions_within p l is)) ≡ nesting_among (instructions_within p l is)
nesting_start p l is = omega arith

pub one_deeper : (n m : ℕ) → n ≡ m → n + 1 ≡ suc m
one_deeper n m e = omega (arith, e)

pub nesting_turn : (p : Parts) (l k : ℕ) (is : List Instruction) (i : Instruction) (deepest depth more : ℕ) → k < length is → i ≡ get_or is k i
    → depth ≡ nesting_of_child (program_within p l i.child) → more ≡ max depth deepest
    → max more (nesting_among (instructions_within p l (drop (k + 1) is))) ≡ max deepest (nesting_among (instructions_within p l (drop k is)))
nesting_turn p l k is i deepest depth more h e b m =
    let rest = nesting_among (instructions_within p l (drop (k + 1) is)) in
    ap (λ x. max x rest) (m ∙ ap (λ x. max x deepest) b)
    ∙ (moved deepest (nesting_of_child (program_within p l i.child)) rest
    ∙ ap (λ (js : List Instruction). max deepest (nesting_among (instructions_within p l js))) (sym (cut is k i h e)))

pub nesting_end : (p : Parts) (l k : ℕ) (is : List Instruction) (deepest : ℕ) → length is ≤ k
    → max deepest (nesting_among (instructions_within p l (drop k is))) ≡ nesting_among (instructions_within p l is)
    → deepest ≡ nesting_among (instructions_within p l is)
nesting_end p l k is deepest h e =
    let none = ap (λ (js : List Instruction). max deepest (nesting_among (instructions_within p l js))) (none_left is k h) in
    omega (arith, e, none)

-- ---- how great a bound can be

pub most_small : (l : ℕ) → l ≤ 3 → most_within l ≤ 68753039362
most_small zero h = omega arith
most_small (suc zero) h = omega arith
most_small (suc (suc zero)) h = omega arith
most_small (suc (suc (suc zero))) h = omega arith
most_small (suc (suc (suc (suc l)))) h = absurd (omega (arith, h))

pub one_most : (l : ℕ) → 1 ≤ most_within l
one_most zero = omega arith
one_most (suc l) = let h = one_most l in omega (arith, h)

-- what a child takes with the cycles of its start and its end
pub product_limit : (p : Parts) (l : ℕ) (o : Option ChildId) (c : Child) (most : ℕ) → IsProgram p l o c → most ≤ most_within (l - 1)
    → 2 + c.steps * most ≤ most_within l
product_limit p l o c most x h =
    let is : l ≡ suc (l - 1) = omega (arith, x.level) in
    let steps = mul-le c.steps most 4096 (most_within (l - 1)) x.limit h in
    subst (λ m. 2 + c.steps * most ≤ most_within m) (sym is) (omega (arith, steps))

pub max_below : (a b n : ℕ) → a ≤ n → b ≤ n → max a b ≤ n
max_below a b n h k = omega (arith, h, k)

-- ---- the instructions of the top

pub bound_at : (g : Graph) (inner : Option ChildId → pure.Child) (is : List Instruction) (k : ℕ) (i : Instruction) → k < length is → i ≡ get_or is k i
    → option_map instruction_bound (slice_get (instruction_list (instructions_of g inner is)) k) ≡ Some (child_bound (inner i.child))
bound_at g inner [] k i h e = absurd (omega (arith, h))
bound_at g inner (x ∷ is) zero i h e = ap (λ (y : Instruction). Some (child_bound (inner y.child))) (sym e)
bound_at g inner (x ∷ is) (suc k) i h e = bound_at g inner is k i (omega (arith, h)) e

pub count_at : (g : Graph) (inner : Option ChildId → pure.Child) (is : List Instruction) → length (instruction_list (instructions_of g inner is)) ≡ length is
count_at g inner [] = refl
count_at g inner (x ∷ is) = ap suc (count_at g inner is)

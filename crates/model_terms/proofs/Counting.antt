-- How many steps child programs take at most.
use Rattle.std.proofs.Common.{◌≡◌, ℕ, zero, suc, ◌+◌, ◌-◌, ◌*◌, ◌<◌, ◌≤◌, Bool, true, false, ◌&&◌, List, [], ◌∷◌, length, get_or, drop, Option, Some, None, slice_get, refl, sym, ap, ◌∙◌, subst, arith}
use Rattle.std.specs.Prelude.{max, nat_le, option_map}
use Rattle.std.proofs.lemmas.Bool.{and_parts, leb-true}
use Rattle.std.proofs.lemmas.List.{drop_more}
use Rattle.std.proofs.lemmas.Nat.{mul-le}
use Rattle.model_meaning.specs.Model as pure
use Rattle.model_meaning.specs.Model.{instruction_list}
use Rattle.model_results.specs.Results.{unrolled, unrolled_child, unrolled_most}
use Rattle.wb_terms.specs.Graph.{Graph}
use Rattle.ila_model.specs.declared.parts.ChildId.{ChildId}
use Rattle.ila_model.specs.declared.parts.Child.{Child}
use Rattle.ila_model.specs.declared.parts.Instruction.{Instruction}
use Rattle.ila_model.specs.declared.parts.Parts.{Parts}
use Rattle.ila_model.specs.Scope.{nesting}
use Rattle.ila_model.specs.Sorted.{is_limit, is_child, are_children}
use Rattle.ila_model.specs.Meaning.{program_of, instruction_of, instructions_of}
use Rattle.ila_model.proofs.Declarations.{AreSorted}
use Rattle.ila_child.specs.Running.{program_in}
use Rattle.ila_child.proofs.Programs.{IsSortedChild, program_child}
use Rattle.model_terms.specs.Unrolled.{most_at}
use Rattle.model_terms.specs.Programs.{pure_instructions}
use Rattle.model_terms.proofs.Programming.{no_instructions_left}

pub nothing_unrolled : (p : Parts) (d : ℕ) (o : Option ChildId) → o ≡ None → unrolled_child (program_in p d o) ≡ 0
nothing_unrolled p d o e = ap (λ (q : Option ChildId). unrolled_child (program_in p d q)) e ∙ by_depth (nesting - d)
  where
    by_depth : (l : ℕ) → unrolled_child (program_of p.terms p.children.items l None) ≡ 0
    by_depth zero = refl
    by_depth (suc l) = refl

pub most_small : (l : ℕ) → l ≤ 3 → most_at l ≤ 68719476736
most_small zero h = omega arith
most_small (suc zero) h = omega arith
most_small (suc (suc zero)) h = omega arith
most_small (suc (suc (suc zero))) h = omega arith
most_small (suc (suc (suc (suc l)))) h = absurd (omega (arith, h))

pub one_most : (l : ℕ) → 1 ≤ most_at l
one_most zero = omega arith
one_most (suc l) = let h = one_most l in omega (arith, h)

limit_at : (p : Parts) (from : ℕ) (cs : List Child) (k : ℕ) (d : Child) → are_children p from cs ≡ true → k < length cs → is_limit (get_or cs k d).steps ≡ true
limit_at p from [] k d h b = absurd (omega (arith, b))
limit_at p from (c ∷ cs) zero d h b = (and_parts (is_limit c.steps) _ (and_parts (is_child p from c) _ h).0).0
limit_at p from (c ∷ cs) (suc k) d h b = limit_at p (suc from) cs k d (and_parts (is_child p from c) _ h).1 (omega (arith, b))

pub child_limit : (p : Parts) (s : AreSorted p) (k : ℕ) (c : Child) → k < length p.children.items → c ≡ get_or p.children.items k c → c.steps ≤ 4096
child_limit p s k c b here =
    let l = subst (λ (x : Child). is_limit x.steps ≡ true) (sym here) (limit_at p 0 p.children.items k c s.children b) in
    leb-true c.steps 4096 (and_parts (nat_le 1 c.steps) _ l).1

-- the last instructions of a machine
pub most_start : (p : Parts) (d : ℕ) (is : List Instruction) → 1 ≡ unrolled_most (pure_instructions p d (drop (length is - 0) is))
most_start p d is = ap (λ (js : List Instruction). unrolled_most (pure_instructions p d js)) (sym (no_instructions_left is (length is - 0) (omega arith)))

pub most_turn : (p : Parts) (d k done : ℕ) (is : List Instruction) (i : Instruction) (most inner more : ℕ) → k ≡ length is - 1 - done → done < length is → i ≡ get_or is k i → most ≡ unrolled_most (pure_instructions p d (drop (length is - done) is)) → inner ≡ unrolled_child (program_in p d i.child) → more ≡ max inner most → more ≡ unrolled_most (pure_instructions p d (drop (length is - (done + 1)) is))
most_turn p d k done is i most inner more z l here e f g =
    let within : k < length is = omega (arith, z, l) in
    let up : k + 1 ≡ length is - done = omega (arith, z, l) in
    let down : k ≡ length is - (done + 1) = omega (arith, z, l) in
    let split : drop k is ≡ i ∷ drop (length is - done) is = drop_more is k i within ∙ ap (λ (x : Instruction). x ∷ drop (k + 1) is) (sym here) ∙ ap (λ m. i ∷ drop m is) up in
    g ∙ ap (λ m. max m most) f ∙ ap (max (unrolled_child (program_in p d i.child))) e
    ∙ sym (ap (λ m. unrolled_most (pure_instructions p d (drop m is))) (sym down) ∙ ap (λ (js : List Instruction). unrolled_most (pure_instructions p d js)) split)

pub max_below : (a b n : ℕ) → a ≤ n → b ≤ n → max a b ≤ n
max_below a b n h k = omega (arith, h, k)

pub most_end : (p : Parts) (i : ChildId) (d done : ℕ) (x : Child) (o : Option ChildId) (most : ℕ) → o ≡ Some i → IsSortedChild p i.0 d x → length x.instructions.items ≤ done → most ≡ unrolled_most (pure_instructions p (suc d) (drop (length x.instructions.items - done) x.instructions.items)) → x.steps * most ≡ unrolled_child (program_in p d o)
most_end p i d done x o most e sc l f =
    let is = x.instructions.items in
    let z : length is - done ≡ 0 = omega (arith, l) in
    ap (λ m. x.steps * m) (f ∙ ap (λ m. unrolled_most (pure_instructions p (suc d) (drop m is))) z)
    ∙ sym (ap (λ (q : Option ChildId). unrolled_child (program_in p d q)) e ∙ ap unrolled_child (program_child p i d x sc.inside.within sc.inside.is_child sc.low))

pub product_below : (d steps most : ℕ) → suc d ≤ 3 → steps ≤ 4096 → most ≤ most_at (3 - suc d) → steps * most ≤ most_at (3 - d)
product_below d steps most l a b =
    let z : 3 - d ≡ suc (3 - suc d) = omega (arith, l) in
    let h = mul-le steps most 4096 (most_at (3 - suc d)) a b in
    subst (λ k. steps * most ≤ most_at k) (sym z) h

-- the top's instructions
pub unrolled_at : (g : Graph) (inner : Option ChildId → pure.Child) (is : List Instruction) (k : ℕ) (d : Instruction) → k < length is → option_map unrolled (slice_get (instruction_list (instructions_of g inner is)) k) ≡ Some (unrolled_child (inner (get_or is k d).child))
unrolled_at g inner [] k d h = absurd (omega (arith, h))
unrolled_at g inner (x ∷ is) zero d h = refl
unrolled_at g inner (x ∷ is) (suc k) d h = unrolled_at g inner is k d (omega (arith, h))

pub count_at : (g : Graph) (inner : Option ChildId → pure.Child) (is : List Instruction) → length (instruction_list (instructions_of g inner is)) ≡ length is
count_at g inner [] = refl
count_at g inner (x ∷ is) = ap suc (count_at g inner is)

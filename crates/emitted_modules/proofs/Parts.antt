-- The parts of memories.
use Rattle.std.proofs.Common.{◌≡◌, ℕ, zero, suc, ◌<◌, Bool, true, ◌||◌, ◌==◌, ◌⊎◌, inl, inr, List, [], ◌∷◌, length, refl, sym, ◌∙◌, ap, subst, arith}
use Rattle.std.specs.List.{list_any}
use Rattle.std.proofs.lemmas.Bool.{or_cases, eq-eqb, eqb-true}
use Rattle.wb_terms.specs.declared.nodes.Node.{Node}
use Rattle.wb_terms.specs.declared.nodes.Node.TheVariants.{Ite, Store}
use Rattle.wb_terms.specs.Graph.{Graph, AllBelow, operands_of}
use Rattle.emitted_modules.specs.Nodes.{node_at, memories_of, is_part}
use Rattle.emitted_modules.specs.Kept.{IsOrdered}
use Rattle.emitted_modules.proofs.Names.{Among}

-- ---- some of a list

or_left : (a b : Bool) → a ≡ true → (a || b) ≡ true
or_left a b e = ap (λ c. c || b) e

or_right : (a b : Bool) → b ≡ true → (a || b) ≡ true
or_right true b e = refl
or_right _ b e = e

any_from : (f : ℕ → Bool) (x : ℕ) (xs : List ℕ) → Among x xs → f x ≡ true → list_any f xs ≡ true
any_from f x [] h e = absurd h
any_from f x (y ∷ ys) (inl q) e = or_left (f y) (list_any f ys) (ap f q ∙ e)
any_from f x (y ∷ ys) (inr h) e = or_right (f y) (list_any f ys) (any_from f x ys h e)

pub any_found : (f : ℕ → Bool) (xs : List ℕ) → list_any f xs ≡ true → (x : ℕ) × Among x xs × (f x ≡ true)
any_found f [] e = cc
any_found f (y ∷ ys) e = by_cases (or_cases (f y) (list_any f ys) e) (any_found f ys)
  where
    by_cases : (f y ≡ true) ⊎ (list_any f ys ≡ true) → (list_any f ys ≡ true → (x : ℕ) × Among x ys × (f x ≡ true))
        → (x : ℕ) × Among x (y ∷ ys) × (f x ≡ true)
    by_cases (inl t) more = (y, inl refl, t)
    by_cases (inr t) more = let z = more t in (z.0, inr z.1, z.2)

-- ---- parts

-- the memories that a node is made of stand before it
pub memory_below : (b : ℕ) (n : Node) (k : ℕ) → AllBelow b (operands_of n) → Among k (memories_of n) → k < b
memory_below b (Store m i x) k all (inl e) = subst (λ j. j < b) e all.0
memory_below b (Store m i x) k all (inr h) = absurd h
memory_below b (Ite c x y) k all (inl e) = subst (λ j. j < b) e all.1.0
memory_below b (Ite c x y) k all (inr (inl e)) = subst (λ j. j < b) e all.1.1.0
memory_below b (Ite c x y) k all (inr (inr h)) = absurd h
memory_below b _ k all h = absurd h

pub its_own_part : (g : Graph) (l k : ℕ) → k < l → is_part g l k k ≡ true
its_own_part g zero k less = absurd (omega (arith, less))
its_own_part g (suc l) k less = or_left (k == k) (list_any (λ i. is_part g l i k) (memories_of (node_at g k))) (eq-eqb k k refl)

-- What a part is made of is a part.
pub part_of_part : (g : Graph) → IsOrdered g → (l j p k : ℕ) → j < l → j < length g.nodes → is_part g l j p ≡ true → Among k (memories_of (node_at g p))
    → is_part g l j k ≡ true
part_of_part g ordered zero j p k less low h at = absurd (omega (arith, less))
part_of_part g ordered (suc l) j p k less low h at =
    or_right (j == k) (list_any (λ i. is_part g l i k) (memories_of (node_at g j)))
    (by_cases (or_cases (j == p) (list_any (λ i. is_part g l i p) (memories_of (node_at g j))) h)
    (λ i there e. part_of_part g ordered l i p k (within i there) (before i there) e at))
  where
    below : (i : ℕ) → Among i (memories_of (node_at g j)) → i < j
    below i there = memory_below j (node_at g j) i (ordered j low) there

    within : (i : ℕ) → Among i (memories_of (node_at g j)) → i < l
    within i there = let q : i < j = below i there in omega (arith, q, less)

    before : (i : ℕ) → Among i (memories_of (node_at g j)) → i < length g.nodes
    before i there = let q : i < j = below i there in omega (arith, q, low)

    by_cases : ((j == p) ≡ true) ⊎ (list_any (λ i. is_part g l i p) (memories_of (node_at g j)) ≡ true)
        → ((i : ℕ) → Among i (memories_of (node_at g j)) → is_part g l i p ≡ true → is_part g l i k ≡ true)
        → list_any (λ i. is_part g l i k) (memories_of (node_at g j)) ≡ true
    by_cases (inl e) more =
        let there : Among k (memories_of (node_at g j)) = subst (λ i. Among k (memories_of (node_at g i))) (sym (eqb-true j p e)) at in
        any_from (λ i. is_part g l i k) k (memories_of (node_at g j)) there (its_own_part g l k (within k there))
    by_cases (inr e) more =
        let z = any_found (λ i. is_part g l i p) (memories_of (node_at g j)) e in
        any_from (λ i. is_part g l i k) z.0 (memories_of (node_at g j)) z.1 (more z.0 z.1 z.2)

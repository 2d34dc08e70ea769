-- Tables and sets with one more.
use Rattle.std.proofs.Common.{◌≡◌, ℕ, ◌+◌, ◌<◌, Bool, true, false, cond, not, ◌&&◌, ◌||◌, List, [], ◌∷◌, length, drop, get_or, Bor, Option, Some, None, sym, refl, ap, ◌∙◌, subst, add-one}
use Rattle.std.specs.Prelude.{is_some}
use Rattle.std.specs.Ordering.{nat_cmp}
use Rattle.std.specs.Cmp.Lexicographic.{slice_cmp}
use Rattle.std.specs.BTreeMap as tree
use Rattle.std.specs.BTreeMap.{BTreeMap, is_at}
use Rattle.std.proofs.lemmas.Slice.Eq.{bytes_eq-Decides}
use Rattle.std.proofs.lemmas.Map.Text.{btree_map_updates_str}
use Rattle.std.specs.List.{list_any, list_all}
use Rattle.std.specs.Prelude.{map, ◌==◌}
use Rattle.std.specs.BTreeSet as sorted
use Rattle.std.specs.BTreeSet.{BTreeSet}
use Rattle.std.proofs.Math.Seq.{drop-cons}
use Rattle.std.proofs.Common.{arith}
use Rattle.std.proofs.lemmas.Bool.Decides.{nat_tests}
use Rattle.wb_values.specs.Value.{Name, same_name}
use Rattle.wb_values.specs.Choice.{first_of}
use Rattle.ila_sim.specs.Places.{under_name, has_number}
use Rattle.ila_sim.specs.Sets.{key_of, are_distinct_numbers}
use Rattle.ila_sim.specs.declared.set.Set.{Set}

-- ---- the first value under a name

first_none : {A : Type 0} (x : Option A) → first_of x None ≡ x
first_none None = refl
first_none (Some x) = refl

no_value : {A : Type 0} (x : Option A) → is_some x ≡ false → x ≡ None
no_value None e = refl
no_value (Some x) e = cc

pub first_added : {X : Type 0} (old new : BTreeMap (Bor (List ℕ)) X) (k : Bor (List ℕ)) (v : X)
    → tree.Updates (λ x y. slice_cmp nat_cmp x.now y.now) old new k (Some v) → is_some (under_name old k.now) ≡ false → (q : Name)
    → under_name new q ≡ first_of (under_name old q) (cond (same_name k.now q) (Some v) None)
first_added {X} old new k v u absent q =
    btree_map_updates_str k.now old new (Some v) u q
    ∙ (elim (same_name k.now q) as (λ b. same_name k.now q ≡ b → cond b (Some v) (under_name old q) ≡ first_of (under_name old q) (cond b (Some v) None)) [
      | true ↦ λ e. subst (λ n. Some v ≡ first_of (under_name old n) (Some v)) ((bytes_eq-Decides k.now q).0 e) (ap (λ o. first_of o (Some v)) (sym (no_value (under_name old k.now) absent)))
      | false ↦ λ e. sym (first_none (under_name old q))
    ]) refl

-- ---- numbers that stand once

same_at : (k q : ℕ) → is_at (nat_cmp k) q ≡ (k == q)
same_at k q = grind (arith, nat_tests)

pub turned : (m n : ℕ) → (m == n) ≡ (n == m)
turned m n = grind (arith, nat_tests)

pub has_more : (s n : BTreeSet ℕ) (k : ℕ) (b : Bool) → sorted.Updates nat_cmp s n k b → (q : ℕ) → has_number n q ≡ cond (k == q) b (has_number s q)
has_more s n k b u q = u.0 q ∙ ap (λ t. cond t b (has_number s q)) (same_at k q)

all_true : (p : ℕ → Bool) (ns : List ℕ) → ((n : ℕ) → p n ≡ true) → list_all p ns ≡ true
all_true p [] h = refl
all_true p (n ∷ ns) h = rw (h n, all_true p ns h) refl

pub distinct_start : (s : BTreeSet ℕ) (ns : List ℕ) → s.keys ≡ [] → are_distinct_numbers ns ≡ (list_all (λ n. not (has_number s n)) ns && are_distinct_numbers ns)
distinct_start s ns e =
    let none : (n : ℕ) → not (has_number s n) ≡ true = λ n. ap (λ ks. not (list_any (is_at (nat_cmp n)) ks)) e in
    ap (λ b. b && are_distinct_numbers ns) (sym (all_true (λ n. not (has_number s n)) ns none))

fresh_one : (e h a r : Bool) → (not (cond e true h) && (a && not r)) ≡ ((not h && a) && not (e || r))
fresh_one true true a r = refl
fresh_one true false true r = refl
fresh_one true false false r = refl
fresh_one false true a r = refl
fresh_one false false a r = refl

fresh : (h g : ℕ → Bool) (k : ℕ) → ((q : ℕ) → g q ≡ cond (k == q) true (h q)) → (ns : List ℕ)
    → list_all (λ n. not (g n)) ns ≡ (list_all (λ n. not (h n)) ns && not (list_any (λ m. k == m) ns))
fresh h g k e [] = refl
fresh h g k e (n ∷ ns) =
    ap (λ b. not b && list_all (λ m. not (g m)) ns) (e n)
    ∙ (ap (λ b. not (cond (k == n) true (h n)) && b) (fresh h g k e ns)
    ∙ fresh_one (k == n) (h n) (list_all (λ m. not (h m)) ns) (list_any (λ m. k == m) ns))

joined : (a b c : Bool) → (a && (b && c)) ≡ ((a && b) && c)
joined true b c = refl
joined false b c = refl

keys_drop : (sets : List Set) (i : ℕ) (d : Set) → i < length sets → map key_of (drop i sets) ≡ key_of (get_or sets i d) ∷ map key_of (drop (i + 1) sets)
keys_drop sets i d h = rw (add-one, drop-cons sets i d h) refl

turn : (s n : BTreeSet ℕ) (k : ℕ) (rest all : List ℕ) (t : Bool) → sorted.Updates nat_cmp s n k true → has_number s k ≡ false → all ≡ k ∷ rest
    → t ≡ (list_all (λ m. not (has_number s m)) all && are_distinct_numbers all) → t ≡ (list_all (λ m. not (has_number n m)) rest && are_distinct_numbers rest)
turn s n k rest all t u new cut e =
    e
    ∙ (ap (λ ns. list_all (λ m. not (has_number s m)) ns && are_distinct_numbers ns) cut
    ∙ (ap (λ b. (not b && list_all (λ m. not (has_number s m)) rest) && (not (list_any (λ m. k == m) rest) && are_distinct_numbers rest)) new
    ∙ (joined (list_all (λ m. not (has_number s m)) rest) (not (list_any (λ m. k == m) rest)) (are_distinct_numbers rest)
    ∙ ap (λ b. b && are_distinct_numbers rest) (sym (fresh (has_number s) (has_number n) k (has_more s n k true u) rest)))))

-- a turn of a search for a number that stands twice
pub distinct_turn : (sets : List Set) (i : ℕ) (d : Set) (s n : BTreeSet ℕ) (k : ℕ) (t : Bool) → i < length sets → k ≡ key_of (get_or sets i d)
    → sorted.Updates nat_cmp s n k true → has_number s k ≡ false
    → t ≡ (list_all (λ m. not (has_number s m)) (map key_of (drop i sets)) && are_distinct_numbers (map key_of (drop i sets)))
    → t ≡ (list_all (λ m. not (has_number n m)) (map key_of (drop (i + 1) sets)) && are_distinct_numbers (map key_of (drop (i + 1) sets)))
distinct_turn sets i d s n k t h same u new e =
    turn s n k (map key_of (drop (i + 1) sets)) (map key_of (drop i sets)) t u new (keys_drop sets i d h ∙ ap (λ x. x ∷ map key_of (drop (i + 1) sets)) (sym same)) e

pub was_absent : (a b : Bool) → a ≡ not b → a ≡ true → b ≡ false
was_absent a true h k = sym k ∙ h
was_absent a false h k = refl

stopped_at : (s : BTreeSet ℕ) (k : ℕ) (rest all : List ℕ) (t : Bool) → has_number s k ≡ true → all ≡ k ∷ rest
    → t ≡ (list_all (λ m. not (has_number s m)) all && are_distinct_numbers all) → false ≡ t
stopped_at s k rest all t old cut e =
    sym (e
    ∙ (ap (λ ns. list_all (λ m. not (has_number s m)) ns && are_distinct_numbers ns) cut
    ∙ ap (λ b. (not b && list_all (λ m. not (has_number s m)) rest) && are_distinct_numbers (k ∷ rest)) old))

pub was_there : (a b : Bool) → a ≡ not b → a ≡ false → b ≡ true
was_there a true h k = refl
was_there a false h k = sym k ∙ h

pub distinct_stop : (sets : List Set) (i : ℕ) (d : Set) (s : BTreeSet ℕ) (k : ℕ) (t : Bool) → i < length sets → k ≡ key_of (get_or sets i d) → has_number s k ≡ true
    → t ≡ (list_all (λ m. not (has_number s m)) (map key_of (drop i sets)) && are_distinct_numbers (map key_of (drop i sets))) → false ≡ t
distinct_stop sets i d s k t h same old e =
    stopped_at s k (map key_of (drop (i + 1) sets)) (map key_of (drop i sets)) t old (keys_drop sets i d h ∙ ap (λ x. x ∷ map key_of (drop (i + 1) sets)) (sym same)) e

-- What lists contain, and keys that are put into a set.
use Rattle.std.proofs.Common.{◌≡◌, ◌∙◌, ℕ, zero, suc, ◌<◌, ◌≤◌, Bool, true, false, List, [], ◌∷◌, ◌++◌, length, get_or, map, Contains, ◌⊎◌, Ordering, Less, Equal, Greater, arith, refl, sym, ap, subst, inl, inr}
use Rattle.std.specs.Ordering.{nat_cmp, match_ordering}
use Rattle.std.specs.BTreeSet.{insert_key}
use Rattle.std.proofs.lemmas.Bool.Decides.{nat_tests}
use Rattle.std.proofs.lemmas.Map.Lookups.{exact_unsigned}
use Rattle.std.proofs.lemmas.Map.Views.{All-insert_key}
use Rattle.std.proofs.lemmas.List.Elements.{All-weaker, All-contains, All-contains_itself, Contains-append_right}
use Rattle.sat_gates.specs.Cone.{with_keys}

pub none_contained : (k : ℕ) → Contains {X = ℕ} [] k → ⊥
none_contained k (i, below, e) = omega (arith, below)

pub contained_cons : (x : ℕ) (xs : List ℕ) (q : ℕ) → Contains (x ∷ xs) q → (x ≡ q) ⊎ Contains xs q
contained_cons x xs q (zero, i, e) = inl e
contained_cons x xs q (suc k, i, e) = inr (k, omega (arith, i), e)

pub first_contained : (x : ℕ) (xs : List ℕ) → Contains (x ∷ xs) x
first_contained x xs = (0, omega arith, refl)

pub rest_contained : (x : ℕ) (xs : List ℕ) (q : ℕ) → Contains xs q → Contains (x ∷ xs) q
rest_contained x xs q h = Contains-append_right (x ∷ []) xs q h

pub less : (x y : ℕ) → nat_cmp x y ≡ Less → x < y
less x y h = grind (arith, nat_tests, h)

-- one key
from_insert : (keys : List ℕ) (k q : ℕ) → Contains (insert_key nat_cmp keys k) q → Contains keys q ⊎ (k ≡ q)
from_insert keys k q h =
    All-contains (λ x. Contains keys x ⊎ (k ≡ x)) (insert_key nat_cmp keys k) q
    (All-insert_key nat_cmp k (λ x. Contains keys x ⊎ (k ≡ x)) keys
    (All-weaker (Contains keys) (λ x. Contains keys x ⊎ (k ≡ x)) (λ x c. inl c) keys (All-contains_itself keys)) (inr refl)) h

into_insert_new : (keys : List ℕ) (k : ℕ) → Contains (insert_key nat_cmp keys k) k
into_insert_new [] k = first_contained k []
into_insert_new (x ∷ xs) k = by (nat_cmp k x) refl (into_insert_new xs k)
  where
    by : (o : Ordering) → nat_cmp k x ≡ o → Contains (insert_key nat_cmp xs k) k → Contains (match_ordering o (k ∷ x ∷ xs) (x ∷ xs) (x ∷ insert_key nat_cmp xs k)) k
    by Less e h = first_contained k (x ∷ xs)
    by Equal e h = subst (λ y. Contains (y ∷ xs) k) (exact_unsigned k x e) (first_contained k xs)
    by Greater e h = rest_contained x (insert_key nat_cmp xs k) k h

into_insert_old : (keys : List ℕ) (k q : ℕ) → Contains keys q → Contains (insert_key nat_cmp keys k) q
into_insert_old [] k q h = absurd (none_contained q h)
into_insert_old (x ∷ xs) k q h = by (nat_cmp k x) (into_insert_old xs k q)
  where
    later : (Contains xs q → Contains (insert_key nat_cmp xs k) q) → (x ≡ q) ⊎ Contains xs q → Contains (x ∷ insert_key nat_cmp xs k) q
    later f (inl e) = subst (λ y. Contains (x ∷ insert_key nat_cmp xs k) y) e (first_contained x (insert_key nat_cmp xs k))
    later f (inr r) = rest_contained x (insert_key nat_cmp xs k) q (f r)

    by : (o : Ordering) → (Contains xs q → Contains (insert_key nat_cmp xs k) q) → Contains (match_ordering o (k ∷ x ∷ xs) (x ∷ xs) (x ∷ insert_key nat_cmp xs k)) q
    by Less f = rest_contained k (x ∷ xs) q h
    by Equal f = h
    by Greater f = later f (contained_cons x xs q h)

-- several keys
pub from_keys : (ks keys : List ℕ) (q : ℕ) → Contains (with_keys ks keys) q → Contains keys q ⊎ Contains ks q
from_keys [] keys q h = inl h
from_keys (k ∷ ks) keys q h = elim (from_keys ks (insert_key nat_cmp keys k) q h) [
  | inl i ↦ (elim (from_insert keys k q i) [
    | inl old ↦ inl old
    | inr e ↦ inr (subst (Contains (k ∷ ks)) e (first_contained k ks))
  ])
  | inr i ↦ inr (rest_contained k ks q i)
]

pub into_keys_old : (ks keys : List ℕ) (q : ℕ) → Contains keys q → Contains (with_keys ks keys) q
into_keys_old [] keys q h = h
into_keys_old (k ∷ ks) keys q h = into_keys_old ks (insert_key nat_cmp keys k) q (into_insert_old keys k q h)

pub into_keys_new : (ks keys : List ℕ) (q : ℕ) → Contains ks q → Contains (with_keys ks keys) q
into_keys_new [] keys q h = absurd (none_contained q h)
into_keys_new (k ∷ ks) keys q h = elim (contained_cons k ks q h) [
  | inl e ↦ subst (Contains (with_keys ks (insert_key nat_cmp keys k))) e (into_keys_old ks (insert_key nat_cmp keys k) k (into_insert_new keys k))
  | inr r ↦ into_keys_new ks (insert_key nat_cmp keys k) q r
]

pub emptied : (keys : List ℕ) → (0 < length keys → ⊥) → keys ≡ []
emptied [] h = refl
emptied (k ∷ ks) h = absurd (h (omega arith))

-- Tables by hashes, after what is put into them.
use Rattle.std.proofs.Common.{◌≡◌, ◌∙◌, refl, ap, arith, ℕ, Bool, true, false, nat_eq, cond, Option, Some}
use Rattle.std.specs.Ordering.{nat_cmp}
use Rattle.std.specs.BTreeMap as tree
use Rattle.std.specs.BTreeMap.{BTreeMap, get}
use Rattle.std.proofs.lemmas.Bool.Decides.{nat_tests}

pub are_same : (a b : ℕ) → nat_eq a b ≡ true → a ≡ b
are_same a b e = grind (arith, nat_tests)

is_number : (a b : ℕ) → tree.is_at (nat_cmp a) b ≡ nat_eq a b
is_number a b = grind (arith, nat_tests)

module _ {X : Type 0} where
  pub at_hash : (old new : BTreeMap ℕ X) (h : ℕ) (w : Option X) → tree.Updates nat_cmp old new h w → (k : ℕ) → get nat_cmp new k ≡ cond (nat_eq h k) w (get nat_cmp old k)
  at_hash old new h w u k = u.0 k ∙ ap (λ b. cond b w (get nat_cmp old k)) (is_number h k)

  -- what is put and then overwritten
  pub put_twice : (old new last : BTreeMap ℕ X) (h : ℕ) (d x : X) → tree.Updates nat_cmp old new h (Some d) → tree.Updates nat_cmp new last h (Some x) → (k : ℕ)
      → get nat_cmp last k ≡ cond (nat_eq h k) (Some x) (get nat_cmp old k)
  put_twice old new last h d x u v k =
      at_hash new last h (Some x) v k ∙ (ap (cond (nat_eq h k) (Some x)) (at_hash old new h (Some d) u k) ∙ by (nat_eq h k))
    where
      by : (b : Bool) → cond b (Some x) (cond b (Some d) (get nat_cmp old k)) ≡ cond b (Some x) (get nat_cmp old k)
      by true = refl
      by false = refl

  -- what is put and taken back
  pub taken_back : (old new last : BTreeMap ℕ X) (h : ℕ) (d first : X) → tree.Updates nat_cmp old new h (Some d) → Some first ≡ get nat_cmp old h
      → tree.Updates nat_cmp new last h (Some first) → (k : ℕ) → get nat_cmp last k ≡ get nat_cmp old k
  taken_back old new last h d first u was v k = put_twice old new last h d first u v k ∙ by (nat_eq h k) refl
    where
      by : (b : Bool) → nat_eq h k ≡ b → cond b (Some first) (get nat_cmp old k) ≡ get nat_cmp old k
      by true e = was ∙ ap (get nat_cmp old) (are_same h k e)
      by false e = refl

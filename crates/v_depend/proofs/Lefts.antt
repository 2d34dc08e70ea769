-- What an assignment leaves of a bit, put together from its parts, and what that says of what the bit rests on.
use Rattle.std.proofs.Common.{◌≡◌, ◌∙◌, ℕ, ◌+◌, ◌-◌, refl, ap, sym, subst, Bool, true, false, inl, inr, arith}
use Rattle.std.specs.Prelude.{◌&&◌, ◌||◌, ◌↔◌, not, nat_lt, IsTrue}
use Rattle.std.proofs.lemmas.Bool.{false≢true, and_parts, and_from, or_cases, or_left, or_right}
use Rattle.std.proofs.lemmas.Bool.Decides.{nat_tests}
use Rattle.verilog_trees.specs.Syntax.{Expression, Target, joined, Targets, no_targets, target}
use Rattle.verilog_meaning.specs.Expression.{Scope}
use Rattle.verilog_meaning.specs.Statement.{target_width, targets_width}
use Rattle.verilog_designs.specs.Reads.{BitSet, reads, surely_reaches, one_surely_reaches}
use Rattle.verilog_designs.specs.Dependence.{Bit, is_in, takes, one_takes, index_reads, one_index_reads, copied_to, computed, kept, given, indexed}
use Rattle.verilog_settled.proofs.Assigned.{takes_reach}
use Rattle.v_depend.specs.Resting.{IsThere, OneIsUnsettled, CopiesUnsettled, RestsAt, copies, computes, RestsAfterAssignment}
use Rattle.v_depend.specs.Copying.{plain_at}
use Rattle.v_depend.specs.Left.{IsLeft, stays, takes_place, by_index}
use Rattle.v_depend.proofs.Targets.{HasBits, takes-below, reach-takes, takes-first, takes-rest}

-- ---- one target after the others

pub left-none : (p : BitSet) (s : Scope) (rests : ℕ → Type 0) (before : Type 0) (u : Bit) → IsLeft p s rests before (joined no_targets) u ↔ before
left-none p s rests before u = (there, λ b. stays refl b)
  where
    there : IsLeft p s rests before (joined no_targets) u → before
    there (stays n b) = b
    there (takes_place j l k r) = absurd (false≢true k)
    there (by_index r) = absurd (false≢true r.1)

neither : (a b : Bool) → not (a || b) ≡ true → (not a ≡ true) × (not b ≡ true)
neither true b h = absurd (false≢true h)
neither false b h = (refl, h)

from-neither : (a b : Bool) → not a ≡ true → not b ≡ true → not (a || b) ≡ true
from-neither true b h g = absurd (false≢true h)
from-neither false b h g = g

below-first : (w j v : ℕ) → nat_lt j (v + w) ≡ true → not (nat_lt j w) ≡ true → nat_lt (j - w) v ≡ true
below-first w j v h g = grind (arith, nat_tests)

back-up : (w j : ℕ) → not (nat_lt j w) ≡ true → j - w + w ≡ j
back-up w j h = grind (arith, nat_tests)

up-below : (w j v : ℕ) → nat_lt j v ≡ true → nat_lt (j + w) (v + w) ≡ true
up-below w j v h = grind (arith, nat_tests)

low-below : (w j v : ℕ) → nat_lt j w ≡ true → nat_lt j (v + w) ≡ true
low-below w j v h = grind (arith, nat_tests)

module _ (p : BitSet) (s : Scope) (rests : ℕ → Type 0) (before : Type 0) (t : Target) (ts : Targets) (u : Bit) (there : IsThere s u) where
  apart : IsLeft p s rests before (joined (target t ts)) u → IsLeft p s (λ j. rests (j + targets_width s ts)) (IsLeft p s rests before (joined ts) u) t u
  apart (stays n b) = let g = neither (is_in (surely_reaches s t) u) (is_in (one_surely_reaches s ts) u) n in stays g.0 (stays g.1 b)
  apart (takes_place j l k r) =
      elim (or_cases (not (nat_lt j (targets_width s ts)) && takes s t u (j - targets_width s ts)) (not (is_in (surely_reaches s t) u) && one_takes s ts u j) k) [
        | inl e ↦
            let g = and_parts (not (nat_lt j (targets_width s ts))) (takes s t u (j - targets_width s ts)) e in
            takes_place (j - targets_width s ts) (below-first (targets_width s ts) j (target_width s t) l g.0) g.1 (subst rests (sym (back-up (targets_width s ts) j g.0)) r)
        | inr e ↦
            let g = and_parts (not (is_in (surely_reaches s t) u)) (one_takes s ts u j) e in
            stays g.0 (takes_place j (takes-below s (joined ts) u j there g.1) g.1 r)
      ]
  apart (by_index r) =
      elim (or_cases (is_in (index_reads s t u) r.0) (not (is_in (surely_reaches s t) u) && is_in (one_index_reads s ts u) r.0) r.1) [
        | inl e ↦ by_index (r.0, e, r.2)
        | inr e ↦ let g = and_parts (not (is_in (surely_reaches s t) u)) (is_in (one_index_reads s ts u) r.0) e in stays g.0 (by_index (r.0, g.1, r.2))
      ]

  rest-first : IsTrue (not (is_in (surely_reaches s t) u)) → IsLeft p s rests before (joined ts) u → IsLeft p s rests before (joined (target t ts)) u
  rest-first n (stays m b) = stays (from-neither (is_in (surely_reaches s t) u) (is_in (one_surely_reaches s ts) u) n m) b
  rest-first n (takes_place j l k r) = takes_place j (low-below (targets_width s ts) j (target_width s t) l) (takes-rest s t ts u j n k) r
  rest-first n (by_index r) =
      by_index (
        r.0,
        or_right (is_in (index_reads s t u) r.0) (not (is_in (surely_reaches s t) u) && is_in (one_index_reads s ts u) r.0)
            (and_from (not (is_in (surely_reaches s t) u)) (is_in (one_index_reads s ts u) r.0) n r.1),
        r.2,
      )

  together : IsLeft p s (λ j. rests (j + targets_width s ts)) (IsLeft p s rests before (joined ts) u) t u → IsLeft p s rests before (joined (target t ts)) u
  together (stays n b) = rest-first n b
  together (takes_place j l k r) = takes_place (j + targets_width s ts) (up-below (targets_width s ts) j (target_width s t) l) (takes-first s t ts u j k) r
  together (by_index r) =
      by_index (r.0, or_left (is_in (index_reads s t u) r.0) (not (is_in (surely_reaches s t) u) && is_in (one_index_reads s ts u) r.0) r.1, r.2)

  -- The leftmost part is written last, from the value's high end.
  pub left-two : IsLeft p s rests before (joined (target t ts)) u ↔ IsLeft p s (λ j. rests (j + targets_width s ts)) (IsLeft p s rests before (joined ts) u) t u
  left-two = (apart, together)

-- ---- other accounts of the value and of what was before

pub left-map : (p : BitSet) (s : Scope) (f g : ℕ → Type 0) (b c : Type 0) (t : Target) (u : Bit) → ((j : ℕ) → nat_lt j (target_width s t) ≡ true → f j → g j)
    → (b → c) → IsLeft p s f b t u → IsLeft p s g c t u
left-map p s f g b c t u h k (stays n r) = stays n (k r)
left-map p s f g b c t u h k (takes_place j l m r) = takes_place j l m (h j l r)
left-map p s f g b c t u h k (by_index r) = by_index r

pub left-same : (p : BitSet) (s : Scope) (f g : ℕ → Type 0) (b c : Type 0) (t : Target) (u : Bit) → ((j : ℕ) → nat_lt j (target_width s t) ≡ true → f j ↔ g j)
    → (b ↔ c) → IsLeft p s f b t u ↔ IsLeft p s g c t u
left-same p s f g b c t u h k = (left-map p s f g b c t u (λ j l. (h j l).0) k.0, left-map p s g f c b t u (λ j l. (h j l).1) k.1)

-- ---- after an assignment

module _ (p : BitSet) (s : Scope) (t : Target) (e : Expression) (u : Bit) (w : HasBits s t) (there : IsThere s u) where
  left-rests : IsLeft p s (RestsAt p s e) (IsTrue (is_in p u)) t u → RestsAfterAssignment p s t e u
  left-rests (stays n b) = kept n b
  left-rests (takes_place j l k (copies q r)) = given r.0 (copied_to j q l k r.1) r.2
  left-rests (takes_place j l k (computes q r)) = given r.0 (computed q (takes_reach s t u j k) r.1) r.2
  left-rests (by_index r) = indexed (r.0, r.1, r.2)

  rests-left : RestsAfterAssignment p s t e u → IsLeft p s (RestsAt p s e) (IsTrue (is_in p u)) t u
  rests-left (kept n b) = stays n b
  rests-left (given x (copied_to j q l k c) r) = takes_place j l k (copies q (x, c, r))
  rests-left (given x (computed q m c) r) =
      let g = reach-takes s t u w there m in
      takes_place g.0 g.1 g.2 (computes q (x, c, r))
  rests-left (indexed r) = by_index (r.0, r.1, r.2)

  -- What is left of the value's places and of what was before is what rests after the assignment.
  pub left-after : IsLeft p s (RestsAt p s e) (IsTrue (is_in p u)) t u ↔ RestsAfterAssignment p s t e u
  left-after = (left-rests, rests-left)

-- ---- the places of a value that rest

pub plain-rests : (p : BitSet) (s : Scope) (e : Expression) (j : ℕ) (b t : Bool) → t ≡ plain_at s e → t ≡ true → IsTrue b ↔ CopiesUnsettled p s e j
    → IsTrue b ↔ RestsAt p s e j
unfolding plain_at
plain-rests p s e j b t is h g = ((λ k. copies (sym is ∙ h) (g.0 k)), back)
  where
    back : RestsAt p s e j → IsTrue b
    back (copies q r) = g.1 r
    back (computes q r) = absurd (false≢true (sym (ap not (sym is ∙ h)) ∙ q))

pub other-rests : (p : BitSet) (s : Scope) (e : Expression) (j : ℕ) (b r t : Bool) → t ≡ plain_at s e → t ≡ false → b ≡ r → IsTrue r ↔ OneIsUnsettled p (reads s e)
    → IsTrue b ↔ RestsAt p s e j
unfolding plain_at
other-rests p s e j b r t is h f g = ((λ k. computes (ap not (sym is ∙ h)) (g.0 (sym f ∙ k))), back)
  where
    back : RestsAt p s e j → IsTrue b
    back (copies q k) = absurd (false≢true (sym (sym is ∙ h) ∙ q))
    back (computes q k) = f ∙ g.1 k

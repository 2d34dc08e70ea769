-- What an assignment to a target leaves, from part to part.
use Rattle.std.proofs.Common.{◌≡◌, ◌∙◌, ℕ, ◌+◌, ◌-◌, ◌<◌, ◌≤◌, refl, ap, sym, subst, Bool, true, false, cond, inl, inr, arith, lt-ltb, ltb-true}
use Rattle.std.specs.Prelude.{◌&&◌, ◌||◌, ◌⊎◌, not, nat_lt, Some, pos, ◌-ℤ◌, ◌+ℤ◌, int_le, int_lt, IsTrue}
use Rattle.std.proofs.lemmas.Bool.{false≢true, and_parts, and_from, or_cases, or_left, or_right, cases_Bool, not_from_false, false_from_ne_true}
use Rattle.std.proofs.lemmas.Bool.Decides.{nat_tests}
use Rattle.std.proofs.lemmas.Int.{ints}
use Rattle.std.proofs.lemmas.Slice.Eq.{bytes_eq-Decides}
use Rattle.wb_values.specs.Value.{Name, same_name}
use Rattle.verilog_trees.specs.Syntax.{Select, Selects, whole, one, two, Target, place, joined, Targets, no_targets, target}
use Rattle.verilog_meaning.specs.Expression.{Scope, no_values, object_width, is_memory, selects_width, select_index, select_bits}
use Rattle.verilog_meaning.specs.Statement.{variable_cell, Place, all_bits, indexed_cell, named_place, target_width, targets_width}
use Rattle.verilog_meaning.specs.Register.{select_is_constant, selects_are_constant, is_within, may_mean, may_mean_bit, may_mean_word, may_reach, may_reach_one, word_count, is_bit_of}
use Rattle.verilog_designs.specs.Reads.{surely_reaches}
use Rattle.verilog_designs.specs.Dependence.{Bit, is_in, natural_in, is_same_cell, takes, one_takes}
use Rattle.verilog_settled.proofs.Bits.{offset, is_offset, offset_below}
use Rattle.v_depend.specs.Resting.{IsThere}
use Rattle.v_depend.proofs.Following.{sure-reach}

-- ---- the place of a part with constant selects

all-within : (w b : ℕ) → nat_lt b w ≡ true → (int_le (pos 0) (pos b) && int_lt (pos b) (pos 0 +ℤ pos w)) ≡ true
all-within w b h = let l : b < w = ltb-true b w h in grind (arith, ints, nat_tests)

-- a bit that a constant select may mean is one of those that it takes
meant-bit : (c b : Bool) → c ≡ true → cond c b true ≡ true → b ≡ true
meant-bit true b e h = h
meant-bit false b e h = absurd (false≢true e)

-- the place of one select, by whether its name is a memory
abbrev chosen-place : Scope → Name → Select → Bool → Place
chosen-place s n i q =
    cond q (record { of_name = n; cell = indexed_cell (s n) (select_index s no_values i); bits = all_bits (s n) })
    (record { of_name = n; cell = variable_cell; bits = select_bits s no_values (s n) i })

pub place-within : (s : Scope) (n : Name) (x : Selects) (k b : ℕ) → is_bit_of (s n) k b ≡ true → selects_are_constant s x ≡ true → may_mean s (s n) x k b ≡ true
    → IsTrue (is_within (named_place s no_values n x).bits b)
place-within s n whole k b t c m = all-within (object_width (s n)) b (and_parts (nat_lt k (word_count (s n))) (nat_lt b (object_width (s n))) t).1
place-within s n (one i) k b t c m = at (is_memory (s n)) m
  where
    at : (q : Bool) → cond q (may_mean_word s (s n) i k) (may_mean_bit s (s n) i b) ≡ true
        → is_within (chosen-place s n i q).bits b ≡ true
    at true h = all-within (object_width (s n)) b (and_parts (nat_lt k (word_count (s n))) (nat_lt b (object_width (s n))) t).1
    at false h = meant-bit (select_is_constant s i) (is_within (select_bits s no_values (s n) i) b) c h
place-within s n (two i j) k b t c m =
    meant-bit (select_is_constant s j) (is_within (select_bits s no_values (s n) j) b) (and_parts (select_is_constant s i) (select_is_constant s j) c).1
    (and_parts (may_mean_word s (s n) i k) (may_mean_bit s (s n) j b) m).1

-- how many bits a part takes
pub part-count : (s : Scope) (n : Name) (x : Selects) → (named_place s no_values n x).bits.count ≡ selects_width s (s n) x
part-count s n whole = refl
part-count s n (one i) = at (is_memory (s n))
  where
    at : (q : Bool) → (chosen-place s n i q).bits.count
        ≡ cond q (object_width (s n)) (select_bits s no_values (s n) i).count
    at true = refl
    at false = refl
part-count s n (two i j) = refl

same-place : (j : ℕ) → (not (nat_lt j j) && not (nat_lt j j)) ≡ true
same-place j = grind (arith, nat_tests)

only-place : (i j : ℕ) → (not (nat_lt i j) && not (nat_lt j i)) ≡ true → i ≡ j
only-place i j h = grind (arith, nat_tests)

-- where a bit within stands
abbrev pub place-of : Scope → Name → Selects → ℕ → ℕ
place-of s n x b = offset (named_place s no_values n x).bits.low b

pub place-is : (s : Scope) (n : Name) (x : Selects) (b : ℕ) → IsTrue (is_within (named_place s no_values n x).bits b)
    → natural_in (pos b -ℤ (named_place s no_values n x).bits.low) ≡ Some (place-of s n x b)
place-is s n x b h = ap natural_in (is_offset (named_place s no_values n x).bits b h)

pub place-below : (s : Scope) (n : Name) (x : Selects) (b : ℕ) → IsTrue (is_within (named_place s no_values n x).bits b) → place-of s n x b < selects_width s (s n) x
place-below s n x b h = subst (λ w. place-of s n x b < w) (part-count s n x) (offset_below (named_place s no_values n x).bits b h)

-- ---- what a part takes

module _ (s : Scope) (n : Name) (x : Selects) (u : Bit) (t : IsThere s u) (reach : may_reach s (place n x) u.of_name u.word u.place ≡ true) where
  inside : selects_are_constant s x ≡ true → IsTrue (is_within (named_place s no_values n x).bits u.place)
  inside c =
      let r = and_parts (same_name n u.of_name) (may_mean s (s n) x u.word u.place) reach in
      place-within s n x u.word u.place (subst (λ m. is_bit_of (s m) u.word u.place ≡ true) (sym ((bytes_eq-Decides n u.of_name).0 r.0)) t) c r.1

  pub takes-constant : selects_are_constant s x ≡ true → takes s (place n x) u (place-of s n x u.place) ≡ true
  takes-constant c =
      and_from (may_reach s (place n x) u.of_name u.word u.place) _ reach
      (ap (λ q. cond q (is_same_cell (natural_in (pos u.place -ℤ (named_place s no_values n x).bits.low)) (place-of s n x u.place)) (nat_lt (place-of s n x u.place) (selects_width s (s n) x))) c
      ∙ ap (λ p. is_same_cell p (place-of s n x u.place)) (place-is s n x u.place (inside c)) ∙ same-place (place-of s n x u.place))

  pub takes-variable : (j : ℕ) → selects_are_constant s x ≡ false → nat_lt j (selects_width s (s n) x) ≡ true → takes s (place n x) u j ≡ true
  takes-variable j c l =
      and_from (may_reach s (place n x) u.of_name u.word u.place) _ reach
      (ap (λ q. cond q (is_same_cell (natural_in (pos u.place -ℤ (named_place s no_values n x).bits.low)) j) (nat_lt j (selects_width s (s n) x))) c ∙ l)

  pub taken-constant : (j : ℕ) → selects_are_constant s x ≡ true → takes s (place n x) u j ≡ true → j ≡ place-of s n x u.place
  taken-constant j c h =
      let g = (and_parts (may_reach s (place n x) u.of_name u.word u.place) _ h).1 in
      let e = sym (ap (λ q. cond q (is_same_cell (natural_in (pos u.place -ℤ (named_place s no_values n x).bits.low)) j) (nat_lt j (selects_width s (s n) x))) c
      ∙ ap (λ p. is_same_cell p j) (place-is s n x u.place (inside c))) ∙ g in
      sym (only-place (place-of s n x u.place) j e)

  pub taken-variable : (j : ℕ) → selects_are_constant s x ≡ false → takes s (place n x) u j ≡ true → nat_lt j (selects_width s (s n) x) ≡ true
  taken-variable j c h =
      sym (ap (λ q. cond q (is_same_cell (natural_in (pos u.place -ℤ (named_place s no_values n x).bits.low)) j) (nat_lt j (selects_width s (s n) x))) c)
      ∙ (and_parts (may_reach s (place n x) u.of_name u.word u.place) _ h).1

  pub below-constant : selects_are_constant s x ≡ true → place-of s n x u.place < selects_width s (s n) x
  below-constant c = place-below s n x u.place (inside c)

  pub taken-below : (j : ℕ) → takes s (place n x) u j ≡ true → nat_lt j (selects_width s (s n) x) ≡ true
  taken-below j h = at (cases_Bool (selects_are_constant s x))
    where
      at : (selects_are_constant s x ≡ true) ⊎ (selects_are_constant s x ≡ false) → nat_lt j (selects_width s (s n) x) ≡ true
      at (inl c) =
          let l = below-constant c in
          lt-ltb j (selects_width s (s n) x) (subst (λ i. i < selects_width s (s n) x) (sym (taken-constant j c h)) l)
      at (inr c) = taken-variable j c h

  pub takes-some : 1 ≤ selects_width s (s n) x → (j : ℕ) × (nat_lt j (selects_width s (s n) x) ≡ true) × (takes s (place n x) u j ≡ true)
  takes-some w = at (cases_Bool (selects_are_constant s x))
    where
      at : (selects_are_constant s x ≡ true) ⊎ (selects_are_constant s x ≡ false) → (j : ℕ) × (nat_lt j (selects_width s (s n) x) ≡ true) × (takes s (place n x) u j ≡ true)
      at (inl c) = (place-of s n x u.place, lt-ltb _ _ (below-constant c), takes-constant c)
      at (inr c) = let l : nat_lt 0 (selects_width s (s n) x) ≡ true = lt-ltb 0 (selects_width s (s n) x) (omega (arith, w)) in (0, l, takes-variable 0 c l)

-- ---- what a target takes

abbrev mutual
  -- Each part has a bit.
  pub HasBits : Scope → Target → Type 0
  HasBits s (place n x) = 1 ≤ selects_width s (s n) x
  HasBits s (joined ts) = HaveBits s ts

  pub HaveBits : Scope → Targets → Type 0
  HaveBits s no_targets = Unit {0}
  HaveBits s (target t ts) = HasBits s t × HaveBits s ts

-- the first of two targets, at the high end, or the others
high-part : (w j v : ℕ) → not (nat_lt j w) ≡ true → nat_lt (j - w) v ≡ true → nat_lt j (v + w) ≡ true
high-part w j v h g = grind (arith, nat_tests)

low-part : (w j v : ℕ) → nat_lt j w ≡ true → nat_lt j (v + w) ≡ true
low-part w j v h = grind (arith, nat_tests)

past-low : (w j : ℕ) → not (nat_lt (j + w) w) ≡ true
past-low w j = grind (arith, nat_tests)

mutual
  pub takes-below : (s : Scope) (t : Target) (u : Bit) (j : ℕ) → IsThere s u → takes s t u j ≡ true → nat_lt j (target_width s t) ≡ true
  takes-below s (place n x) u j h k = taken-below s n x u h (and_parts (may_reach s (place n x) u.of_name u.word u.place) _ k).0 j k
  takes-below s (joined ts) u j h k = one-takes-below s ts u j h k

  one-takes-below : (s : Scope) (ts : Targets) (u : Bit) (j : ℕ) → IsThere s u → one_takes s ts u j ≡ true → nat_lt j (targets_width s ts) ≡ true
  one-takes-below s no_targets u j h k = absurd (false≢true k)
  one-takes-below s (target t ts) u j h k =
      elim (or_cases (not (nat_lt j (targets_width s ts)) && takes s t u (j - targets_width s ts)) (not (is_in (surely_reaches s t) u) && one_takes s ts u j) k) [
        | inl e ↦
            let p = and_parts (not (nat_lt j (targets_width s ts))) (takes s t u (j - targets_width s ts)) e in
            high-part (targets_width s ts) j (target_width s t) p.0 (takes-below s t u (j - targets_width s ts) h p.1)
        | inr e ↦ low-part (targets_width s ts) j (target_width s t) (one-takes-below s ts u j h (and_parts (not (is_in (surely_reaches s t) u)) (one_takes s ts u j) e).1)
      ]

pub takes-first : (s : Scope) (t : Target) (ts : Targets) (u : Bit) (j : ℕ) → takes s t u j ≡ true → one_takes s (target t ts) u (j + targets_width s ts) ≡ true
takes-first s t ts u j h =
    let w = targets_width s ts in
    let e : j + w - w ≡ j = omega arith in
    or_left (not (nat_lt (j + w) w) && takes s t u (j + w - w)) (not (is_in (surely_reaches s t) u) && one_takes s ts u (j + w))
    (and_from (not (nat_lt (j + w) w)) (takes s t u (j + w - w)) (past-low w j) (subst (λ i. takes s t u i ≡ true) (sym e) h))

pub takes-rest : (s : Scope) (t : Target) (ts : Targets) (u : Bit) (j : ℕ) → not (is_in (surely_reaches s t) u) ≡ true → one_takes s ts u j ≡ true → one_takes s (target t ts) u j ≡ true
takes-rest s t ts u j n h =
    or_right (not (nat_lt j (targets_width s ts)) && takes s t u (j - targets_width s ts)) (not (is_in (surely_reaches s t) u) && one_takes s ts u j)
    (and_from (not (is_in (surely_reaches s t) u)) (one_takes s ts u j) n h)

other-true : (p q : Bool) → p ≡ false → (p || q) ≡ true → q ≡ true
other-true true q e h = absurd (false≢true (sym e))
other-true false q e h = h

mutual
  -- What may be reached takes some place of the value.
  pub reach-takes : (s : Scope) (t : Target) (u : Bit) → HasBits s t → IsThere s u → may_reach s t u.of_name u.word u.place ≡ true
      → (j : ℕ) × (nat_lt j (target_width s t) ≡ true) × (takes s t u j ≡ true)
  reach-takes s (place n x) u w h r = takes-some s n x u h r w
  reach-takes s (joined ts) u w h r = one-reach-takes s ts u w h r

  one-reach-takes : (s : Scope) (ts : Targets) (u : Bit) → HaveBits s ts → IsThere s u → may_reach_one s ts u.of_name u.word u.place ≡ true
      → (j : ℕ) × (nat_lt j (targets_width s ts) ≡ true) × (one_takes s ts u j ≡ true)
  one-reach-takes s no_targets u w h r = absurd (false≢true r)
  one-reach-takes s (target t ts) u w h r =
      elim (cases_Bool (may_reach s t u.of_name u.word u.place)) [
        | inl e ↦
            let g = reach-takes s t u w.0 h e in
            let k = takes-first s t ts u g.0 g.2 in
            (g.0 + targets_width s ts, one-takes-below s (target t ts) u (g.0 + targets_width s ts) h k, k)
        | inr e ↦
            let n = not_from_false (is_in (surely_reaches s t) u) (false_from_ne_true (is_in (surely_reaches s t) u) (λ g. false≢true (sym e ∙ sure-reach s t u g))) in
            let g = one-reach-takes s ts u w.1 h (other-true (may_reach s t u.of_name u.word u.place) (may_reach_one s ts u.of_name u.word u.place) e r) in
            (g.0, low-part (targets_width s ts) g.0 (target_width s t) g.1, takes-rest s t ts u g.0 n g.2)
      ]

-- The shortest hexadecimal digits are those that a number is written with.
use Rattle.std.proofs.Common.{◌≡◌, ◌∙◌, ℕ, zero, suc, ◌+◌, ◌-◌, ◌*◌, ◌/◌, ◌%◌, ◌^◌, ◌<◌, ◌≤◌, Bool, true, false, cond, not, ◌&&◌, ◌||◌, List, [], ◌∷◌, ◌++◌, length, Option, Some, None, refl, sym, ap, subst, arith, eq-eqb, ne_eqb, append-nil, ◌⊎◌, inl, inr}
use Rattle.std.specs.Prelude.{◌==◌, nat_lt, nat_le, if◌then◌else◌, option_and_then}
use Rattle.std.specs.Fmt.{digits, digits_onto, digit_glyph}
use Rattle.std.specs.List.{list_all}
use Rattle.std.proofs.lemmas.Bool.{and_parts, and_from, or_left, or_right, false≢true, cases_lt, cases_eq, not_from_false, cond-true, cond-false, not-true, or_cases, eqb-true, lt-ltb, le-ltb, le-leb, leb-true}
use Rattle.std.proofs.lemmas.Bool.Decides.{nat_tests}
use Rattle.std.proofs.Math.Nat.{pow-suc, pow-le-pow_right}
use Rattle.model_files.specs.Shape.{is_lower_digit, lower_digit_value, with_hexadecimal_digits, are_hexadecimal_digits}
use Rattle.reports.specs.Report.{hexadecimal}
use Rattle.serde_json.specs.Data.{Data}
use Rattle.serde_json.specs.Find.{as_str}
use Rattle.trace_files.specs.Shape.{IsNumeral}
use Rattle.trace_reading.specs.Numbers.{begins_with_zero, are_shortest_digits, number_of_shortest, numeral_in}

-- ---- one digit

abbrev glyph : ℕ → ℕ
glyph d = digit_glyph false d

low_glyph : (d : ℕ) → d < 10 → glyph d ≡ 48 + d
low_glyph d h = cond-true (nat_lt d 10) (48 + d) (87 + d) (lt-ltb d 10 h)

high_glyph : (d : ℕ) → 10 ≤ d → glyph d ≡ 87 + d
high_glyph d h = cond-false (nat_lt d 10) (48 + d) (87 + d) (le-ltb d 10 h)

decimal_digit : (b : ℕ) → 48 ≤ b → b ≤ 57 → is_lower_digit b ≡ true
decimal_digit b l h = grind (arith, nat_tests)

letter_digit : (b : ℕ) → 97 ≤ b → b ≤ 102 → is_lower_digit b ≡ true
letter_digit b l h = grind (arith, nat_tests)

low_value : (b : ℕ) → b < 97 → lower_digit_value b ≡ b - 48
low_value b h = grind (arith, nat_tests)

high_value : (b : ℕ) → 97 ≤ b → lower_digit_value b ≡ b - 87
high_value b h = grind (arith, nat_tests)

kinds_of_digit : (b : ℕ) → is_lower_digit b ≡ true → ((48 ≤ b) × (b ≤ 57)) ⊎ ((97 ≤ b) × (b ≤ 102))
kinds_of_digit b h = by (or_cases (nat_le 48 b && nat_le b 57) (nat_le 97 b && nat_le b 102) h)
  where
    by : ((nat_le 48 b && nat_le b 57) ≡ true) ⊎ ((nat_le 97 b && nat_le b 102) ≡ true) → ((48 ≤ b) × (b ≤ 57)) ⊎ ((97 ≤ b) × (b ≤ 102))
    by (inl e) = let p = and_parts (nat_le 48 b) (nat_le b 57) e in inl (leb-true 48 b p.0, leb-true b 57 p.1)
    by (inr e) = let p = and_parts (nat_le 97 b) (nat_le b 102) e in inr (leb-true 97 b p.0, leb-true b 102 p.1)

glyph_lower : (d : ℕ) → d < 16 → is_lower_digit (glyph d) ≡ true
glyph_lower d h = by (cases_lt d 10)
  where
    by : (d < 10) ⊎ (10 ≤ d) → is_lower_digit (glyph d) ≡ true
    by (inl l) = ap is_lower_digit (low_glyph d l) ∙ decimal_digit (48 + d) (omega arith) (omega (arith, l))
    by (inr g) = ap is_lower_digit (high_glyph d g) ∙ letter_digit (87 + d) (omega (arith, g)) (omega (arith, h))

glyph_value : (d : ℕ) → d < 16 → lower_digit_value (glyph d) ≡ d
glyph_value d h = by (cases_lt d 10)
  where
    by : (d < 10) ⊎ (10 ≤ d) → lower_digit_value (glyph d) ≡ d
    by (inl l) = ap lower_digit_value (low_glyph d l) ∙ (low_value (48 + d) (omega (arith, l)) ∙ omega arith)
    by (inr g) = ap lower_digit_value (high_glyph d g) ∙ (high_value (87 + d) (omega (arith, g)) ∙ omega arith)

value_glyph : (b : ℕ) → is_lower_digit b ≡ true → (b ≡ glyph (lower_digit_value b)) × (lower_digit_value b < 16)
value_glyph b h = by (kinds_of_digit b h)
  where
    by : ((48 ≤ b) × (b ≤ 57)) ⊎ ((97 ≤ b) × (b ≤ 102)) → (b ≡ glyph (lower_digit_value b)) × (lower_digit_value b < 16)
    by (inl (l, m)) =
        let v : lower_digit_value b ≡ b - 48 = low_value b (omega (arith, m)) in
        (sym (ap glyph v ∙ (low_glyph (b - 48) (omega (arith, m, l)) ∙ omega (arith, l))), omega (arith, v, m))
    by (inr (l, m)) =
        let v : lower_digit_value b ≡ b - 87 = high_value b l in
        (sym (ap glyph v ∙ (high_glyph (b - 87) (omega (arith, l)) ∙ omega (arith, l))), omega (arith, v, m))

not_zero : (b : ℕ) → is_lower_digit b ≡ true → (b == 48) ≡ false → 0 < lower_digit_value b
not_zero b h e = by (kinds_of_digit b h)
  where
    apart : b ≡ 48 → ⊥
    apart is = false≢true (sym e ∙ eq-eqb b 48 is)

    by : ((48 ≤ b) × (b ≤ 57)) ⊎ ((97 ≤ b) × (b ≤ 102)) → 0 < lower_digit_value b
    by (inl (l, m)) = let v : lower_digit_value b ≡ b - 48 = low_value b (omega (arith, m)) in above (cases_lt 48 b) v
      where
        above : (48 < b) ⊎ (b ≤ 48) → lower_digit_value b ≡ b - 48 → 0 < lower_digit_value b
        above (inl g) v = omega (arith, g, v)
        above (inr g) v = absurd (apart (omega (arith, g, l)))
    by (inr (l, m)) = let v : lower_digit_value b ≡ b - 87 = high_value b l in omega (arith, v, l)

-- ---- all digits

unfoldable hex_onto : ℕ → ℕ → List ℕ → List ℕ
hex_onto k n acc = digits_onto k 16 false n acc

start : (n : ℕ) → hex_onto 64 n [] ≡ digits 16 false n
unfolding hex_onto digits
start n = refl

none_left : (n : ℕ) (acc : List ℕ) → hex_onto zero n acc ≡ acc
unfolding hex_onto
none_left n acc = refl

by_test : (k n : ℕ) (acc : List ℕ) (t : Bool) → (n / 16 == 0) ≡ t
    → hex_onto (suc k) n acc ≡ (if t then glyph (n % 16) ∷ acc else hex_onto k (n / 16) (glyph (n % 16) ∷ acc))
unfolding hex_onto
by_test k n acc t e = ap (λ (b : Bool). if b then glyph (n % 16) ∷ acc else digits_onto k 16 false (n / 16) (glyph (n % 16) ∷ acc)) e

last : (k n : ℕ) (acc : List ℕ) → n / 16 ≡ 0 → hex_onto (suc k) n acc ≡ glyph (n % 16) ∷ acc
last k n acc z = by_test k n acc true (eq-eqb (n / 16) 0 z)

next : (k n : ℕ) (acc : List ℕ) → (n / 16 ≡ 0 → ⊥) → hex_onto (suc k) n acc ≡ hex_onto k (n / 16) (glyph (n % 16) ∷ acc)
next k n acc z = by_test k n acc false (ne_eqb (n / 16) 0 z)

abbrev with : ℕ → List ℕ → ℕ
with n ds = with_hexadecimal_digits n ds

over : (n d : ℕ) → d < 16 → ((n * 16 + d) / 16 ≡ n) × ((n * 16 + d) % 16 ≡ d)
over n d h = (omega (arith, h), omega (arith, h))

-- digits that go on from a number that is not 0 stand after its own
go_on : (ds : List ℕ) (j n : ℕ) (acc : List ℕ) → 0 < n → list_all is_lower_digit ds ≡ true → hex_onto (j + length ds) (with n ds) acc ≡ hex_onto j n (ds ++ acc)
go_on [] j n acc h a = ap (λ k. hex_onto k n acc) (omega arith)
go_on (b ∷ bs) j n acc h a =
    let p = and_parts (is_lower_digit b) (list_all is_lower_digit bs) a in
    let g = value_glyph b p.0 in
    let o = over n (lower_digit_value b) g.1 in
    let m = n * 16 + lower_digit_value b in
    let count : j + suc (length bs) ≡ suc j + length bs = omega arith in
    let later : m / 16 ≡ 0 → ⊥ = λ z. absurd (omega (arith, h, z, o.0)) in
    ap (λ k. hex_onto k (with m bs) acc) count
    ∙ (go_on bs (suc j) m acc (omega (arith, h)) p.1
    ∙ (next j m (bs ++ acc) later
    ∙ (ap (λ q. hex_onto j q (glyph (m % 16) ∷ bs ++ acc)) o.0
    ∙ ap (λ c. hex_onto j n (c ∷ bs ++ acc)) (ap glyph o.1 ∙ sym g.0))))

below : (ds : List ℕ) (i n : ℕ) → n < 16 ^ i → list_all is_lower_digit ds ≡ true → with n ds < 16 ^ (i + length ds)
below [] i n h a = subst (λ k. n < 16 ^ k) (omega arith) h
below (b ∷ bs) i n h a =
    let p = and_parts (is_lower_digit b) (list_all is_lower_digit bs) a in
    let g = value_glyph b p.0 in
    let s : 16 ^ suc i ≡ 16 ^ i * 16 = pow-suc 16 i in
    let count : suc i + length bs ≡ i + suc (length bs) = omega arith in
    let r : with (n * 16 + lower_digit_value b) bs < 16 ^ (suc i + length bs) =
    below bs (suc i) (n * 16 + lower_digit_value b) (omega (arith, h, s, g.1)) p.1 in
    subst (λ k. with (n * 16 + lower_digit_value b) bs < 16 ^ k) count r

-- what shortest digits are
record AreShortest (ds : List ℕ) : Type 0 where
  some : 1 ≤ length ds
  few : length ds ≤ 32
  lower : list_all is_lower_digit ds ≡ true
  first : (not (begins_with_zero ds) || (length ds == 1)) ≡ true

are_shortest : (ds : List ℕ) → are_shortest_digits ds ≡ true → AreShortest ds
are_shortest ds h =
    let p = and_parts (are_hexadecimal_digits ds) (not (begins_with_zero ds) || (length ds == 1)) h in
    let q = and_parts (nat_le 1 (length ds) && nat_le (length ds) 32) (list_all is_lower_digit ds) p.0 in
    let r = and_parts (nat_le 1 (length ds)) (nat_le (length ds) 32) q.0 in
    record { some = leb-true 1 (length ds) r.0; few = leb-true (length ds) 32 r.1; lower = q.1; first = p.1 }

from_shortest : (ds : List ℕ) → AreShortest ds → are_shortest_digits ds ≡ true
from_shortest ds s =
    and_from (are_hexadecimal_digits ds) (not (begins_with_zero ds) || (length ds == 1))
    (and_from (nat_le 1 (length ds) && nat_le (length ds) 32) (list_all is_lower_digit ds)
    (and_from (nat_le 1 (length ds)) (nat_le (length ds) 32) (le-leb 1 (length ds) s.some) (le-leb (length ds) 32 s.few)) s.lower)
    s.first

no_more : (bs : List ℕ) → length bs ≡ 0 → bs ≡ []
no_more [] e = refl
no_more (b ∷ bs) e = absurd (omega (arith, e))

-- the digits of the number that shortest digits write
pub written_back : (ds : List ℕ) → are_shortest_digits ds ≡ true → digits 16 false (with 0 ds) ≡ ds
written_back ds h = by ds (are_shortest ds h)
  where
    from_first : (b : ℕ) (bs : List ℕ) → AreShortest (b ∷ bs) → (t : Bool) → (b == 48) ≡ t → hex_onto 64 (with (lower_digit_value b) bs) [] ≡ b ∷ bs
    from_first b bs s true e =
        let is : b ≡ 48 = eqb-true b 48 e in
        let alone : bs ≡ [] = no_more bs (one (or_cases (not (b == 48)) (length (b ∷ bs) == 1) s.first)) in
        ap (λ xs. hex_onto 64 (with (lower_digit_value b) xs) []) alone
        ∙ (ap (λ c. hex_onto 64 (lower_digit_value c) []) is ∙ (last 63 0 [] refl ∙ (ap (λ c. c ∷ []) (sym is) ∙ ap (λ xs. b ∷ xs) (sym alone))))
      where
        one : (not (b == 48) ≡ true) ⊎ ((length (b ∷ bs) == 1) ≡ true) → length bs ≡ 0
        one (inl n) = absurd (false≢true (sym (not-true (b == 48) n) ∙ e))
        one (inr n) = omega (arith, eqb-true (length (b ∷ bs)) 1 n)
    from_first b bs s false e =
        let p = and_parts (is_lower_digit b) (list_all is_lower_digit bs) s.lower in
        let g = value_glyph b p.0 in
        let v = lower_digit_value b in
        let j = 63 - length bs in
        let few : length bs ≤ 31 = omega (arith, s.few) in
        let count : 64 ≡ suc j + length bs = omega (arith, few) in
        ap (λ k. hex_onto k (with v bs) []) count
        ∙ (go_on bs (suc j) v [] (not_zero b p.0 e) p.1
        ∙ (last j v (bs ++ []) (omega (arith, g.1)) ∙ (ap (λ c. c ∷ bs ++ []) (ap glyph (omega (arith, g.1)) ∙ sym g.0) ∙ ap (λ xs. b ∷ xs) (append-nil bs))))

    by : (xs : List ℕ) → AreShortest xs → digits 16 false (with 0 xs) ≡ xs
    by [] s = absurd (omega (arith, s.some))
    by (b ∷ bs) s =
        let zero : 0 * 16 + lower_digit_value b ≡ lower_digit_value b = omega arith in
        sym (start (with 0 (b ∷ bs))) ∙ (ap (λ n. hex_onto 64 (with n bs) []) zero ∙ from_first b bs s (b == 48) refl)

pub below_128_bits : (ds : List ℕ) → are_shortest_digits ds ≡ true → with 0 ds < 2 ^ 128
below_128_bits ds h =
    let s = are_shortest ds h in
    let count : 0 + length ds ≡ length ds = omega arith in
    let b : with 0 ds < 16 ^ length ds = subst (λ k. with 0 ds < 16 ^ k) count (below ds 0 0 (omega arith) s.lower) in
    wide (length ds) (with 0 ds) s.few b
  where
    wide : (i n : ℕ) → i ≤ 32 → n < 16 ^ i → n < 2 ^ 128
    wide i n l h = let most : 16 ^ i ≤ 16 ^ 32 = pow-le-pow_right (omega arith) l in omega arith

-- ---- the digits of a number

value_back : (k n : ℕ) (acc : List ℕ) → n < 16 ^ k → with 0 (hex_onto k n acc) ≡ with n acc
value_back zero n acc h = ap (with 0) (none_left n acc) ∙ ap (λ m. with m acc) (omega (arith, h))
value_back (suc k) n acc h = by (cases_eq (n / 16) 0) (value_back k (n / 16) (glyph (n % 16) ∷ acc) (omega (arith, h, pow-suc 16 k)))
  where
    rest : n % 16 < 16
    rest = omega arith

    by : (n / 16 ≡ 0) ⊎ (n / 16 ≡ 0 → ⊥) → with 0 (hex_onto k (n / 16) (glyph (n % 16) ∷ acc)) ≡ with (n / 16) (glyph (n % 16) ∷ acc)
        → with 0 (hex_onto (suc k) n acc) ≡ with n acc
    by (inl z) r =
        ap (with 0) (last k n acc z) ∙ (ap (λ v. with (0 * 16 + v) acc) (glyph_value (n % 16) rest) ∙ ap (λ m. with m acc) (omega (arith, z)))
    by (inr z) r =
        ap (with 0) (next k n acc z) ∙ (r ∙ (ap (λ v. with (n / 16 * 16 + v) acc) (glyph_value (n % 16) rest) ∙ ap (λ m. with m acc) (omega arith)))

all_lower : (k n : ℕ) (acc : List ℕ) → list_all is_lower_digit acc ≡ true → list_all is_lower_digit (hex_onto k n acc) ≡ true
all_lower zero n acc a = ap (list_all is_lower_digit) (none_left n acc) ∙ a
all_lower (suc k) n acc a =
    by (cases_eq (n / 16) 0)
    (all_lower k (n / 16) (glyph (n % 16) ∷ acc) (and_from (is_lower_digit (glyph (n % 16))) (list_all is_lower_digit acc) (glyph_lower (n % 16) (omega arith)) a))
  where
    by : (n / 16 ≡ 0) ⊎ (n / 16 ≡ 0 → ⊥) → list_all is_lower_digit (hex_onto k (n / 16) (glyph (n % 16) ∷ acc)) ≡ true → list_all is_lower_digit (hex_onto (suc k) n acc) ≡ true
    by (inl z) r =
        ap (list_all is_lower_digit) (last k n acc z)
        ∙ and_from (is_lower_digit (glyph (n % 16))) (list_all is_lower_digit acc) (glyph_lower (n % 16) (omega arith)) a
    by (inr z) r = ap (list_all is_lower_digit) (next k n acc z) ∙ r

at_most : (i k n : ℕ) (acc : List ℕ) → n < 16 ^ i → 0 < i → length (hex_onto k n acc) ≤ i + length acc
at_most i zero n acc h p = omega (arith, ap length (none_left n acc))
at_most zero (suc k) n acc h p = absurd (omega (arith, p))
at_most (suc i) (suc k) n acc h p = by (cases_eq (n / 16) 0) (cases_lt 0 i) (λ g o. at_most i k (n / 16) (glyph (n % 16) ∷ acc) g o)
  where
    Later : Type 0
    Later = n / 16 < 16 ^ i → 0 < i → length (hex_onto k (n / 16) (glyph (n % 16) ∷ acc)) ≤ i + suc (length acc)

    power : 16 ^ suc i ≡ 16 ^ i * 16
    power = pow-suc 16 i

    by : (n / 16 ≡ 0) ⊎ (n / 16 ≡ 0 → ⊥) → (0 < i) ⊎ (i ≤ 0) → Later → length (hex_onto (suc k) n acc) ≤ suc i + length acc
    by (inl z) o f = omega (arith, ap length (last k n acc z))
    by (inr z) (inl o) f =
        let r : length (hex_onto k (n / 16) (glyph (n % 16) ∷ acc)) ≤ i + suc (length acc) = f (omega (arith, h, power)) o in
        omega (arith, r, ap length (next k n acc z))
    by (inr z) (inr o) f =
        let none : i ≡ 0 = omega (arith, o) in
        let small : n < 16 = omega (arith, h, ap (λ j. 16 ^ suc j) none) in
        absurd (z (omega (arith, small)))

at_least : (k n : ℕ) (acc : List ℕ) → length acc ≤ length (hex_onto k n acc)
at_least zero n acc = omega (arith, ap length (none_left n acc))
at_least (suc k) n acc = by (cases_eq (n / 16) 0) (at_least k (n / 16) (glyph (n % 16) ∷ acc))
  where
    by : (n / 16 ≡ 0) ⊎ (n / 16 ≡ 0 → ⊥) → suc (length acc) ≤ length (hex_onto k (n / 16) (glyph (n % 16) ∷ acc)) → length acc ≤ length (hex_onto (suc k) n acc)
    by (inl z) r = omega (arith, ap length (last k n acc z))
    by (inr z) r = omega (arith, r, ap length (next k n acc z))

some_digit : (k n : ℕ) → 1 ≤ length (hex_onto (suc k) n [])
some_digit k n = by (cases_eq (n / 16) 0) (at_least k (n / 16) (glyph (n % 16) ∷ []))
  where
    by : (n / 16 ≡ 0) ⊎ (n / 16 ≡ 0 → ⊥) → 1 ≤ length (hex_onto k (n / 16) (glyph (n % 16) ∷ [])) → 1 ≤ length (hex_onto (suc k) n [])
    by (inl z) r = omega (arith, ap length (last k n [] z))
    by (inr z) r = omega (arith, r, ap length (next k n [] z))

no_zero : (d : ℕ) → 0 < d → d < 16 → (glyph d == 48) ≡ false
no_zero d l h = ne_eqb (glyph d) 48 (λ e. by (cases_lt d 10) e)
  where
    by : (d < 10) ⊎ (10 ≤ d) → glyph d ≡ 48 → ⊥
    by (inl m) e = absurd (omega (arith, l, low_glyph d m, e))
    by (inr m) e = absurd (omega (arith, l, high_glyph d m, e))

first_digit : (k n : ℕ) (acc : List ℕ) → 0 < n → n < 16 ^ k → begins_with_zero (hex_onto k n acc) ≡ false
first_digit zero n acc l h = absurd (omega (arith, l, h))
first_digit (suc k) n acc l h = by (cases_eq (n / 16) 0) (λ p g. first_digit k (n / 16) (glyph (n % 16) ∷ acc) p g)
  where
    Later : Type 0
    Later = 0 < n / 16 → n / 16 < 16 ^ k → begins_with_zero (hex_onto k (n / 16) (glyph (n % 16) ∷ acc)) ≡ false

    by : (n / 16 ≡ 0) ⊎ (n / 16 ≡ 0 → ⊥) → Later → begins_with_zero (hex_onto (suc k) n acc) ≡ false
    by (inl z) f = ap begins_with_zero (last k n acc z) ∙ no_zero (n % 16) (omega (arith, l, z)) (omega arith)
    by (inr z) f = ap begins_with_zero (next k n acc z) ∙ f (pos (cases_lt 0 (n / 16))) (omega (arith, h, pow-suc 16 k))
      where
        pos : (0 < n / 16) ⊎ (n / 16 ≤ 0) → 0 < n / 16
        pos (inl p) = p
        pos (inr p) = absurd (z (omega (arith, p)))

first_of_all : (n : ℕ) → n < 2 ^ 128 → (not (begins_with_zero (hex_onto 64 n [])) || (length (hex_onto 64 n []) == 1)) ≡ true
first_of_all zero h = ap (λ ds. not (begins_with_zero ds) || (length ds == 1)) (last 63 0 [] refl)
first_of_all (suc n) h =
    or_left (not (begins_with_zero (hex_onto 64 (suc n) []))) (length (hex_onto 64 (suc n) []) == 1)
    (not_from_false (begins_with_zero (hex_onto 64 (suc n) [])) (first_digit 64 (suc n) [] (omega arith) (omega (arith, h))))

pub digits_shortest : (n : ℕ) → n < 2 ^ 128 → are_shortest_digits (digits 16 false n) ≡ true
digits_shortest n h =
    subst (λ ds. are_shortest_digits ds ≡ true) (start n)
    (from_shortest (hex_onto 64 n []) (record {
      some = some_digit 63 n;
      few = omega (arith, at_most 32 64 n [] (omega (arith, h)) (omega arith));
      lower = all_lower 64 n [] refl;
      first = first_of_all n h;
    }))

pub digits_value : (n : ℕ) → n < 2 ^ 128 → with 0 (digits 16 false n) ≡ n
digits_value n h = ap (with 0) (sym (start n)) ∙ value_back 64 n [] (omega (arith, h))

-- ---- numerals

some_or_none : {A : Type 0} (x : A) → None ≡ Some x → ⊥
some_or_none x e = cc

some_is : (x y : ℕ) → Some x ≡ Some y → x ≡ y
some_is x y e = cc

of_shortest : (ds : List ℕ) (x : ℕ) → are_shortest_digits ds ≡ true → with 0 ds ≡ x → (x < 2 ^ 128) × (48 ∷ 120 ∷ ds ≡ hexadecimal x)
of_shortest ds x h e =
    (subst (λ n. n < 2 ^ 128) e (below_128_bits ds h), ap (λ xs. 48 ∷ 120 ∷ xs) (sym (written_back ds h) ∙ ap (digits 16 false) e))

text_numeral : (text : List ℕ) (x : ℕ) → number_of_shortest text ≡ Some x → (x < 2 ^ 128) × (text ≡ hexadecimal x)
text_numeral [] x e = absurd (some_or_none x e)
text_numeral (a ∷ []) x e = absurd (some_or_none x e)
text_numeral (a ∷ b ∷ ds) x e = by ((a == 48) && (b == 120) && are_shortest_digits ds) refl e
  where
    by : (t : Bool) → ((a == 48) && (b == 120) && are_shortest_digits ds) ≡ t → cond t (Some (with 0 ds)) None ≡ Some x → (x < 2 ^ 128) × (a ∷ b ∷ ds ≡ hexadecimal x)
    by false h f = absurd (some_or_none x f)
    by true h f =
        let p = and_parts ((a == 48) && (b == 120)) (are_shortest_digits ds) h in
        let q = and_parts (a == 48) (b == 120) p.0 in
        let r = of_shortest ds x p.1 (some_is (with 0 ds) x f) in
        (r.0, ap (λ c. c ∷ b ∷ ds) (eqb-true a 48 q.0) ∙ (ap (λ c. 48 ∷ c ∷ ds) (eqb-true b 120 q.1) ∙ r.1))

pub numeral_is : (d : Data) (x : ℕ) → numeral_in d ≡ Some x → IsNumeral d x
numeral_is d x e = by (as_str d) refl e
  where
    by : (o : Option (List ℕ)) → as_str d ≡ o → option_and_then number_of_shortest o ≡ Some x → (x < 2 ^ 128) × (as_str d ≡ Some (hexadecimal x))
    by None h f = absurd (some_or_none x f)
    by (Some text) h f = let r = text_numeral text x f in (r.0, h ∙ ap Some r.1)

hexadecimal_number : (x : ℕ) → x < 2 ^ 128 → number_of_shortest (hexadecimal x) ≡ Some x
hexadecimal_number x h =
    ap (λ t. cond t (Some (with 0 (digits 16 false x))) None) (digits_shortest x h) ∙ ap Some (digits_value x h)

pub is_numeral : (d : Data) (x : ℕ) → IsNumeral d x → numeral_in d ≡ Some x
is_numeral d x h = ap (option_and_then number_of_shortest) h.1 ∙ hexadecimal_number x h.0

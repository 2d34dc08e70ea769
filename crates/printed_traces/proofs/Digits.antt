-- Digits are plain, and hexadecimal ones tell the number that they write.
use Rattle.std.proofs.Common.{◌≡◌, ◌∙◌, ℕ, zero, suc, ◌+◌, ◌-◌, ◌*◌, ◌/◌, ◌%◌, ◌^◌, ◌<◌, ◌≤◌, Bool, true, false, not, ◌&&◌, List, [], ◌∷◌, refl, sym, ap, arith, eq-eqb, ne_eqb, ◌⊎◌, inl, inr}
use Rattle.std.specs.Prelude.{◌==◌, nat_lt, nat_le, if◌then◌else◌}
use Rattle.std.specs.Fmt.{digits, digits_onto, digit_glyph, decimal}
use Rattle.std.proofs.lemmas.Bool.{and_from, not_from_false, cases_lt, cases_eq, cond-true, cond-false, lt-ltb, le-ltb, le-leb}
use Rattle.std.proofs.lemmas.Bool.Decides.{nat_tests}
use Rattle.std.proofs.Math.Nat.{pow-suc}
use Rattle.model_files.specs.Shape.{lower_digit_value, with_hexadecimal_digits}
use Rattle.reports.specs.Report.{hexadecimal}
use Rattle.printed_traces.specs.Printed.{is_plain_byte, is_plain_name}

-- ---- one digit

abbrev glyph : ℕ → ℕ
glyph d = digit_glyph false d

low_glyph : (d : ℕ) → d < 10 → glyph d ≡ 48 + d
low_glyph d h = cond-true (nat_lt d 10) (48 + d) (87 + d) (lt-ltb d 10 h)

high_glyph : (d : ℕ) → 10 ≤ d → glyph d ≡ 87 + d
high_glyph d h = cond-false (nat_lt d 10) (48 + d) (87 + d) (le-ltb d 10 h)

low_value : (b : ℕ) → b < 97 → lower_digit_value b ≡ b - 48
low_value b h = grind (arith, nat_tests)

high_value : (b : ℕ) → 97 ≤ b → lower_digit_value b ≡ b - 87
high_value b h = grind (arith, nat_tests)

glyph_value : (d : ℕ) → d < 16 → lower_digit_value (glyph d) ≡ d
glyph_value d h = by (cases_lt d 10)
  where
    by : (d < 10) ⊎ (10 ≤ d) → lower_digit_value (glyph d) ≡ d
    by (inl l) = ap lower_digit_value (low_glyph d l) ∙ (low_value (48 + d) (omega (arith, l)) ∙ omega arith)
    by (inr g) = ap lower_digit_value (high_glyph d g) ∙ (high_value (87 + d) (omega (arith, g)) ∙ omega arith)

plain_code : (b : ℕ) → 32 ≤ b → b ≤ 126 → (b ≡ 34 → ⊥) → (b ≡ 92 → ⊥) → is_plain_byte b ≡ true
plain_code b low high quote slash =
    and_from (nat_le 32 b && nat_le b 126) (not (b == 34) && not (b == 92))
    (and_from (nat_le 32 b) (nat_le b 126) (le-leb 32 b low) (le-leb b 126 high))
    (and_from (not (b == 34)) (not (b == 92)) (not_from_false (b == 34) (ne_eqb b 34 quote)) (not_from_false (b == 92) (ne_eqb b 92 slash)))

glyph_plain : (d : ℕ) → d < 16 → is_plain_byte (glyph d) ≡ true
glyph_plain d h = by (cases_lt d 10)
  where
    by : (d < 10) ⊎ (10 ≤ d) → is_plain_byte (glyph d) ≡ true
    by (inl l) = ap is_plain_byte (low_glyph d l) ∙ plain_code (48 + d) (omega arith) (omega (arith, l)) (λ e. omega (arith, e)) (λ e. omega (arith, e, l))
    by (inr g) =
        ap is_plain_byte (high_glyph d g) ∙ plain_code (87 + d) (omega arith) (omega (arith, h)) (λ e. omega (arith, e)) (λ e. omega (arith, e, g))

-- ---- all digits

unfoldable onto : (base k n : ℕ) → List ℕ → List ℕ
onto base k n acc = digits_onto k base false n acc

start : (base n : ℕ) → onto base 64 n [] ≡ digits base false n
unfolding onto digits
start base n = refl

none_left : (base n : ℕ) (acc : List ℕ) → onto base zero n acc ≡ acc
unfolding onto
none_left base n acc = refl

by_test : (base k n : ℕ) (acc : List ℕ) (t : Bool) → (n / base == 0) ≡ t
    → onto base (suc k) n acc ≡ (if t then glyph (n % base) ∷ acc else onto base k (n / base) (glyph (n % base) ∷ acc))
unfolding onto
by_test base k n acc t e =
    ap (λ (b : Bool). if b then glyph (n % base) ∷ acc else digits_onto k base false (n / base) (glyph (n % base) ∷ acc)) e

last : (base k n : ℕ) (acc : List ℕ) → n / base ≡ 0 → onto base (suc k) n acc ≡ glyph (n % base) ∷ acc
last base k n acc z = by_test base k n acc true (eq-eqb (n / base) 0 z)

next : (base k n : ℕ) (acc : List ℕ) → (n / base ≡ 0 → ⊥) → onto base (suc k) n acc ≡ onto base k (n / base) (glyph (n % base) ∷ acc)
next base k n acc z = by_test base k n acc false (ne_eqb (n / base) 0 z)

-- ---- they are plain

module _ (base : ℕ) (small : (n : ℕ) → n % base < 16) where
  all_plain : (k n : ℕ) (acc : List ℕ) → is_plain_name acc ≡ true → is_plain_name (onto base k n acc) ≡ true
  all_plain zero n acc a = ap is_plain_name (none_left base n acc) ∙ a
  all_plain (suc k) n acc a = by (cases_eq (n / base) 0) (all_plain k (n / base) (glyph (n % base) ∷ acc) one_more)
    where
      one_more : is_plain_name (glyph (n % base) ∷ acc) ≡ true
      one_more = and_from (is_plain_byte (glyph (n % base))) (is_plain_name acc) (glyph_plain (n % base) (small n)) a

      by : (n / base ≡ 0) ⊎ (n / base ≡ 0 → ⊥) → is_plain_name (onto base k (n / base) (glyph (n % base) ∷ acc)) ≡ true
          → is_plain_name (onto base (suc k) n acc) ≡ true
      by (inl z) r = ap is_plain_name (last base k n acc z) ∙ one_more
      by (inr z) r = ap is_plain_name (next base k n acc z) ∙ r

pub hexadecimal_plain : (n : ℕ) → is_plain_name (hexadecimal n) ≡ true
hexadecimal_plain n = ap (λ ds. is_plain_name (48 ∷ 120 ∷ ds)) (sym (start 16 n)) ∙ all_plain 16 (λ m. omega arith) 64 n [] refl

pub decimal_plain : (n : ℕ) → is_plain_name (decimal n) ≡ true
decimal_plain n = ap is_plain_name (sym (start 10 n)) ∙ all_plain 10 (λ m. omega arith) 64 n [] refl

-- ---- they tell the number

value_back : (k n : ℕ) (acc : List ℕ) → n < 16 ^ k → with_hexadecimal_digits 0 (onto 16 k n acc) ≡ with_hexadecimal_digits n acc
value_back zero n acc h = ap (with_hexadecimal_digits 0) (none_left 16 n acc) ∙ ap (λ m. with_hexadecimal_digits m acc) (omega (arith, h))
value_back (suc k) n acc h = by (cases_eq (n / 16) 0) (value_back k (n / 16) (glyph (n % 16) ∷ acc) (omega (arith, h, pow-suc 16 k)))
  where
    rest : n % 16 < 16
    rest = omega arith

    by : (n / 16 ≡ 0) ⊎ (n / 16 ≡ 0 → ⊥)
        → with_hexadecimal_digits 0 (onto 16 k (n / 16) (glyph (n % 16) ∷ acc)) ≡ with_hexadecimal_digits (n / 16) (glyph (n % 16) ∷ acc)
        → with_hexadecimal_digits 0 (onto 16 (suc k) n acc) ≡ with_hexadecimal_digits n acc
    by (inl z) r =
        ap (with_hexadecimal_digits 0) (last 16 k n acc z)
        ∙ (ap (λ v. with_hexadecimal_digits (0 * 16 + v) acc) (glyph_value (n % 16) rest) ∙ ap (λ m. with_hexadecimal_digits m acc) (omega (arith, z)))
    by (inr z) r =
        ap (with_hexadecimal_digits 0) (next 16 k n acc z)
        ∙ (r ∙ (ap (λ v. with_hexadecimal_digits (n / 16 * 16 + v) acc) (glyph_value (n % 16) rest) ∙ ap (λ m. with_hexadecimal_digits m acc) (omega arith)))

-- the number behind `0x`
abbrev number_behind : List ℕ → ℕ
number_behind (a ∷ b ∷ ds) = with_hexadecimal_digits 0 ds
number_behind _ = 0

told : (n : ℕ) → n < 2 ^ 128 → number_behind (hexadecimal n) ≡ n
told n h = ap (with_hexadecimal_digits 0) (sym (start 16 n)) ∙ value_back 64 n [] (omega (arith, h))

pub one_number : (m n : ℕ) → m < 2 ^ 128 → n < 2 ^ 128 → hexadecimal m ≡ hexadecimal n → m ≡ n
one_number m n h k e = sym (told m h) ∙ (ap number_behind e ∙ told n k)

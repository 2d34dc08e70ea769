-- The digits of a base, as a number keeps them: no bit is of two kinds.
use Rattle.std.proofs.Common.{◌≡◌, ℕ, ◌+◌, ◌*◌, ◌-◌, ◌%◌, ◌^◌, ◌<◌, ◌≤◌, min, Bool, true, false, List, [], ◌∷◌, refl, sym, ap, ◌∙◌, subst, arith, inl, inr}
use Rattle.std.specs.Prelude.{cond, ◌&&◌, ◌||◌, ◌==◌, nat_le}
use Rattle.std.specs.List.{list_all, list_any}
use Rattle.std.proofs.lemmas.Bool.{and_parts, or_parts, or_cases, eqb-true, leb-true, cond-true, cond_both}
use Rattle.std.proofs.lemmas.Bool.Decides.{nat_tests}
use Rattle.std.proofs.lemmas.Nat.{pow_pos, mod_below}
use Rattle.std.proofs.Math.Nat.{zero-mod}
use Rattle.wb_values.specs.Names.{is_digit}
use Rattle.verilog_text.specs.Lexical.{is_base, is_unknown_digit, is_digit_of}
use Rattle.verilog_text.specs.Spelling.{is_decimal_digit, digit_value, is_x, is_z, is_silent, digits_from, base_of, filled_where, bits_of_base, bits_of_digits, begins_with_z, filled_above}
use Rattle.v_print.specs.Spelled.{bit_of}
use Rattle.v_print_source.proofs.Lexed.{is_digit_or_silent}
use Rattle.v_print_source.proofs.Spread.{IsSpread, value_alone, unknown_alone, wild_alone, nothing_spread, joined_spread, widened, cut, filled}

-- ---- digits of one kind

x_worth : (b : ℕ) → is_x b ≡ true → digit_value b ≡ 0
x_worth b h = elim (or_cases (b == 120) (b == 88) h) [ inl e ↦ ap digit_value (eqb-true b 120 e) | inr e ↦ ap digit_value (eqb-true b 88 e) ]

x_not_z : (b : ℕ) → is_x b ≡ true → is_z b ≡ false
x_not_z b h = elim (or_cases (b == 120) (b == 88) h) [ inl e ↦ ap is_z (eqb-true b 120 e) | inr e ↦ ap is_z (eqb-true b 88 e) ]

z_worth : (b : ℕ) → is_z b ≡ true → digit_value b ≡ 0
z_worth b h = elim (or_cases (b == 122 || b == 90) (b == 63) h) [
  | inl k ↦ elim (or_cases (b == 122) (b == 90) k) [ inl e ↦ ap digit_value (eqb-true b 122 e) | inr e ↦ ap digit_value (eqb-true b 90 e) ]
  | inr e ↦ ap digit_value (eqb-true b 63 e)
]

digit_apart : (base b k : ℕ) → bit_of (digit_value b) k + bit_of (filled_where base is_x b) k + bit_of (filled_where base is_z b) k ≤ 1
digit_apart base b k = by (is_x b) (is_z b) refl refl
  where
    none : (p : ℕ → Bool) → p b ≡ false → filled_where base p b ≡ 0
    none p e = ap (λ (t : Bool). cond t (base - 1) 0) e

    by : (t s : Bool) → is_x b ≡ t → is_z b ≡ s → bit_of (digit_value b) k + bit_of (filled_where base is_x b) k + bit_of (filled_where base is_z b) k ≤ 1
    by true s e f = unknown_alone (digit_value b) (filled_where base is_x b) (filled_where base is_z b) k (x_worth b e) (none is_z (x_not_z b e))
    by false true e f = wild_alone (digit_value b) (filled_where base is_x b) (filled_where base is_z b) k (z_worth b f) (none is_x e)
    by false false e f = value_alone (digit_value b) (filled_where base is_x b) (filled_where base is_z b) k (none is_x e) (none is_z f)

filled_fits : (base p : ℕ) (is : ℕ → Bool) (b : ℕ) → base ≡ 2 ^ p → filled_where base is b < 2 ^ p
filled_fits base p is b e = by (is b)
  where
    less : (x y : ℕ) → x ≡ y → 0 < y → x - 1 < y
    less x y e h = omega (arith, e, h)

    by : (t : Bool) → cond t (base - 1) 0 < 2 ^ p
    by true = less base (2 ^ p) e (pow_pos p)
    by false = pow_pos p

digit_spread : (base p b : ℕ) → base ≡ 2 ^ p → digit_value b < 2 ^ p → IsSpread p (digit_value b) (filled_where base is_x b) (filled_where base is_z b)
digit_spread base p b e h = record { value_fits = h; unknown_fits = filled_fits base p is_x b e; wild_fits = filled_fits base p is_z b e; apart = digit_apart base b }

-- ---- digits one after the other

abbrev DigitsFit : (x p : ℕ) → Type 0
DigitsFit x p = (b : ℕ) → is_digit_of x b ≡ true → digit_value b < 2 ^ p

abbrev next : (base : ℕ) → (ℕ → ℕ) → ℕ → ℕ → ℕ
next base f n b = n * base + f b

-- what some digits make of three numbers
abbrev AllSpread : (base p : ℕ) → List ℕ → (bits v u w : ℕ) → Type 0
AllSpread base p ds bits v u w =
    IsSpread (bits + bits_of_digits p ds) (digits_from base digit_value v ds) (digits_from base (filled_where base is_x) u ds) (digits_from base (filled_where base is_z) w ds)

next_spread : (base p b : ℕ) → base ≡ 2 ^ p → digit_value b < 2 ^ p → (bits v u w : ℕ) → IsSpread bits v u w
    → IsSpread (bits + p) (next base digit_value v b) (next base (filled_where base is_x) u b) (next base (filled_where base is_z) w b)
next_spread base p b e l bits v u w s =
    subst (λ q. IsSpread (bits + p) (v * q + digit_value b) (u * q + filled_where base is_x b) (w * q + filled_where base is_z b)) (sym e)
    (joined_spread bits p v u w (digit_value b) (filled_where base is_x b) (filled_where base is_z b) s (digit_spread base p b e l))

add_further : (n m k : ℕ) → n + m + k ≡ n + (m + k)
add_further n m k = omega arith

add_nothing : (n m : ℕ) → n + m ≡ n + (0 + m)
add_nothing n m = omega arith

-- with a digit in front, which says something or not
digit_by : (base p b : ℕ) (ds : List ℕ) (t : Bool) → base ≡ 2 ^ p → (t ≡ false → digit_value b < 2 ^ p) → ((bits v u w : ℕ) → IsSpread bits v u w → AllSpread base p ds bits v u w) → (bits v u w : ℕ) → IsSpread bits v u w
    → IsSpread (bits + (cond t 0 p + bits_of_digits p ds)) (digits_from base digit_value (cond t v (next base digit_value v b)) ds) (digits_from base (filled_where base is_x) (cond t u (next base (filled_where base is_x) u b)) ds)
    (digits_from base (filled_where base is_z) (cond t w (next base (filled_where base is_z) w b)) ds)
digit_by base p b ds true e l more bits v u w s =
    subst (λ n. IsSpread n (digits_from base digit_value v ds) (digits_from base (filled_where base is_x) u ds) (digits_from base (filled_where base is_z) w ds))
    (add_nothing bits (bits_of_digits p ds)) (more bits v u w s)
digit_by base p b ds false e l more bits v u w s =
    subst (λ n. IsSpread n (digits_from base digit_value (next base digit_value v b) ds) (digits_from base (filled_where base is_x) (next base (filled_where base is_x) u b) ds)
    (digits_from base (filled_where base is_z) (next base (filled_where base is_z) w b) ds))
    (add_further bits p (bits_of_digits p ds))
    (more (bits + p) (next base digit_value v b) (next base (filled_where base is_x) u b) (next base (filled_where base is_z) w b) (next_spread base p b e (l refl) bits v u w s))

digits_spread : (x base p : ℕ) → base ≡ 2 ^ p → DigitsFit x p → (ds : List ℕ) → list_all (is_digit_or_silent x) ds ≡ true → (bits v u w : ℕ) → IsSpread bits v u w → AllSpread base p ds bits v u w
digits_spread x base p e fits [] h bits v u w s = subst (λ n. IsSpread n v u w) (none bits) s
  where
    none : (n : ℕ) → n ≡ n + 0
    none n = omega arith
digits_spread x base p e fits (b ∷ ds) h bits v u w s =
    let parts = and_parts (is_digit_or_silent x b) (list_all (is_digit_or_silent x) ds) h in
    digit_by base p b ds (is_silent b) e (λ f. fits b (ap (λ (t : Bool). t || is_digit_of x b) (sym f) ∙ parts.0)) (digits_spread x base p e fits ds parts.1) bits v u w s

filled_by : (t : Bool) (m n v u w : ℕ) → m ≤ n → IsSpread m v u w → IsSpread n v u (w + cond t (2 ^ n - 2 ^ m) 0)
filled_by true m n v u w h s = filled m n v u w h s
filled_by false m n v u w h s = subst (λ k. IsSpread n v u k) (no_more w) (widened m n v u w h s)
  where
    no_more : (k : ℕ) → k ≡ k + 0
    no_more k = omega arith

from_none : (k : ℕ) → 0 + k ≡ k
from_none k = omega arith

min_within : (m n : ℕ) → min m n ≤ n
min_within m n = omega arith

-- all of them, cut at a width, with what stands to the left of them
whole_spread : (x base p : ℕ) → base ≡ 2 ^ p → DigitsFit x p → (ds : List ℕ) → list_all (is_digit_or_silent x) ds ≡ true → (n : ℕ)
    → IsSpread n (digits_from base digit_value 0 ds % 2 ^ n) (digits_from base (filled_where base is_x) 0 ds % 2 ^ n) (digits_from base (filled_where base is_z) 0 ds % 2 ^ n + filled_above p n ds)
whole_spread x base p e fits ds h n =
    let bits = bits_of_digits p ds in
    let v = digits_from base digit_value 0 ds in
    let u = digits_from base (filled_where base is_x) 0 ds in
    let w = digits_from base (filled_where base is_z) 0 ds in
    let all : IsSpread bits v u w = subst (λ k. IsSpread k v u w) (from_none bits) (digits_spread x base p e fits ds h 0 0 0 0 nothing_spread) in
    filled_by (begins_with_z ds) (min bits n) n (v % 2 ^ n) (u % 2 ^ n) (w % 2 ^ n) (min_within bits n) (cut bits n v u w all)

-- ---- where no digit is of a kind

pub nothing_filled : (base : ℕ) (p : ℕ → Bool) (ds : List ℕ) → list_any p ds ≡ false → digits_from base (filled_where base p) 0 ds ≡ 0
nothing_filled base p [] h = refl
nothing_filled base p (d ∷ ds) h =
    let parts = or_parts (p d) (list_any p ds) h in
    ap (λ (n : ℕ). digits_from base (filled_where base p) n ds) (by (is_silent d) (filled_where base p d) (ap (λ (t : Bool). cond t (base - 1) 0) parts.0)) ∙ nothing_filled base p ds parts.1
  where
    by : (t : Bool) (k : ℕ) → k ≡ 0 → cond t 0 (0 * base + k) ≡ 0
    by true k e = refl
    by false k e = omega (arith, e)

no_z_in_front : (ds : List ℕ) → list_any is_z ds ≡ false → begins_with_z ds ≡ false
no_z_in_front [] h = refl
no_z_in_front (d ∷ ds) h =
    let parts = or_parts (is_z d) (list_any is_z ds) h in
    by (is_silent d) (is_z d) (begins_with_z ds) parts.0 (no_z_in_front ds parts.1)
  where
    by : (t a b : Bool) → a ≡ false → b ≡ false → cond t b a ≡ false
    by true a b e f = f
    by false a b e f = e

pub no_wild_at_all : (base p n : ℕ) (ds : List ℕ) → list_any is_z ds ≡ false → digits_from base (filled_where base is_z) 0 ds % 2 ^ n + filled_above p n ds ≡ 0
no_wild_at_all base p n ds h =
    by (digits_from base (filled_where base is_z) 0 ds % 2 ^ n) (filled_above p n ds)
    (ap (λ (k : ℕ). k % 2 ^ n) (nothing_filled base is_z ds h) ∙ zero-mod (2 ^ n))
    (ap (λ (t : Bool). cond t (2 ^ n - 2 ^ min (bits_of_digits p ds) n) 0) (no_z_in_front ds h))
  where
    by : (a b : ℕ) → a ≡ 0 → b ≡ 0 → a + b ≡ 0
    by a b e f = omega (arith, e, f)

none_of : (p q : ℕ → Bool) → ((b : ℕ) → q b ≡ true → p b ≡ false) → (ds : List ℕ) → list_all q ds ≡ true → list_any p ds ≡ false
none_of p q f [] h = refl
none_of p q f (d ∷ ds) h =
    let parts = and_parts (q d) (list_all q ds) h in
    ap (λ (t : Bool). t || list_any p ds) (f d parts.0) ∙ none_of p q f ds parts.1

-- ---- bases

unknown_worth : (b : ℕ) → is_unknown_digit b ≡ true → digit_value b ≡ 0
unknown_worth b h = elim (or_cases (b == 120 || b == 88 || b == 122 || b == 90) (b == 63) h) [
  | inr e ↦ ap digit_value (eqb-true b 63 e)
  | inl i ↦ elim (or_cases (b == 120 || b == 88 || b == 122) (b == 90) i) [
    | inr e ↦ ap digit_value (eqb-true b 90 e)
    | inl j ↦ elim (or_cases (b == 120 || b == 88) (b == 122) j) [
      | inr e ↦ ap digit_value (eqb-true b 122 e)
      | inl k ↦ x_worth b k
    ]
  ]
]

zero_fits : (n p : ℕ) → n ≡ 0 → n < 2 ^ p
zero_fits n p e = subst (λ k. k < 2 ^ p) (sym e) (pow_pos p)

bit_fits : (b : ℕ) → (is_unknown_digit b || (b == 48 || b == 49)) ≡ true → digit_value b < 2 ^ 1
bit_fits b h = elim (or_cases (is_unknown_digit b) (b == 48 || b == 49) h) [
  | inl e ↦ zero_fits (digit_value b) 1 (unknown_worth b e)
  | inr e ↦ elim (or_cases (b == 48) (b == 49) e) [
    | inl f ↦ subst (λ c. digit_value c < 2 ^ 1) (sym (eqb-true b 48 f)) (omega arith)
    | inr f ↦ subst (λ c. digit_value c < 2 ^ 1) (sym (eqb-true b 49 f)) (omega arith)
  ]
]

octal_fits : (b : ℕ) → (is_unknown_digit b || (nat_le 48 b && nat_le b 55)) ≡ true → digit_value b < 2 ^ 3
octal_fits b h = elim (or_cases (is_unknown_digit b) (nat_le 48 b && nat_le b 55) h) [
  | inl e ↦ zero_fits (digit_value b) 3 (unknown_worth b e)
  | inr e ↦
      let parts = and_parts (nat_le 48 b) (nat_le b 55) e in
      let low = leb-true 48 b parts.0 in
      let high = leb-true b 55 parts.1 in
      subst (λ n. n < 2 ^ 3) (sym (cond-true (is_decimal_digit b) _ _ (is_low b low high))) (by b low high)
]
  where
    is_low : (b : ℕ) → 48 ≤ b → b ≤ 55 → is_decimal_digit b ≡ true
    is_low b l h = grind (arith, nat_tests, l, h)

    by : (b : ℕ) → 48 ≤ b → b ≤ 55 → b - 48 < 2 ^ 3
    by b l h = omega (arith, l, h)

hexadecimal_fits : (b : ℕ) → digit_value b < 2 ^ 4
hexadecimal_fits b =
    cond_both (is_decimal_digit b) (b - 48) (cond (nat_le 97 b && nat_le b 102) (b - 87) (cond (nat_le 65 b && nat_le b 70) (b - 55) 0)) (λ n. n < 2 ^ 4)
    (λ e. first b (leb-true b 57 (and_parts (nat_le 48 b) (nat_le b 57) e).1))
    (λ _. cond_both (nat_le 97 b && nat_le b 102) (b - 87) (cond (nat_le 65 b && nat_le b 70) (b - 55) 0) (λ n. n < 2 ^ 4)
    (λ e. second b (leb-true b 102 (and_parts (nat_le 97 b) (nat_le b 102) e).1))
    (λ _. cond_both (nat_le 65 b && nat_le b 70) (b - 55) 0 (λ n. n < 2 ^ 4) (λ e. third b (leb-true b 70 (and_parts (nat_le 65 b) (nat_le b 70) e).1)) (λ _. omega arith)))
  where
    first : (b : ℕ) → b ≤ 57 → b - 48 < 2 ^ 4
    first b h = omega (arith, h)

    second : (b : ℕ) → b ≤ 102 → b - 87 < 2 ^ 4
    second b h = omega (arith, h)

    third : (b : ℕ) → b ≤ 70 → b - 55 < 2 ^ 4
    third b h = omega (arith, h)

-- the digits of a number in a base, as they are kept
abbrev pub KeptDigits : (x n : ℕ) → List ℕ → Type 0
KeptDigits x n ds =
    IsSpread n (digits_from (base_of x) digit_value 0 ds % 2 ^ n) (digits_from (base_of x) (filled_where (base_of x) is_x) 0 ds % 2 ^ n)
    (digits_from (base_of x) (filled_where (base_of x) is_z) 0 ds % 2 ^ n + filled_above (bits_of_base (base_of x)) n ds)

abbrev pub KeptBase : ℕ → Type 0
KeptBase x = (n : ℕ) (ds : List ℕ) → list_all (is_digit_or_silent x) ds ≡ true → KeptDigits x n ds

binary_kept : KeptBase 98
unfolding is_digit_of
binary_kept n ds h = whole_spread 98 2 1 refl bit_fits ds h n

binary_kept_above : KeptBase 66
unfolding is_digit_of
binary_kept_above n ds h = whole_spread 66 2 1 refl bit_fits ds h n

octal_kept : KeptBase 111
unfolding is_digit_of
octal_kept n ds h = whole_spread 111 8 3 refl octal_fits ds h n

octal_kept_above : KeptBase 79
unfolding is_digit_of
octal_kept_above n ds h = whole_spread 79 8 3 refl octal_fits ds h n

hexadecimal_kept : KeptBase 104
hexadecimal_kept n ds h = whole_spread 104 16 4 refl (λ b d. hexadecimal_fits b) ds h n

hexadecimal_kept_above : KeptBase 72
hexadecimal_kept_above n ds h = whole_spread 72 16 4 refl (λ b d. hexadecimal_fits b) ds h n

-- a decimal has no digits of the other kinds
plain_not_x : (b : ℕ) → (is_silent b || is_digit b) ≡ true → is_x b ≡ false
plain_not_x b h = grind (arith, nat_tests)

plain_not_z : (b : ℕ) → (is_silent b || is_digit b) ≡ true → is_z b ≡ false
plain_not_z b h = grind (arith, nat_tests)

decimal_spread : (n : ℕ) (ds : List ℕ) → list_any is_x ds ≡ false → list_any is_z ds ≡ false
    → IsSpread n (digits_from 10 digit_value 0 ds % 2 ^ n) (digits_from 10 (filled_where 10 is_x) 0 ds % 2 ^ n) (digits_from 10 (filled_where 10 is_z) 0 ds % 2 ^ n + filled_above 4 n ds)
decimal_spread n ds e f =
    let v = digits_from 10 digit_value 0 ds % 2 ^ n in
    let none : digits_from 10 (filled_where 10 is_x) 0 ds % 2 ^ n ≡ 0 = ap (λ (k : ℕ). k % 2 ^ n) (nothing_filled 10 is_x ds e) ∙ zero-mod (2 ^ n) in
    let gone = no_wild_at_all 10 4 n ds f in
    let alone : IsSpread n v 0 0 = record { value_fits = mod_below (digits_from 10 digit_value 0 ds) (2 ^ n) (pow_pos n); unknown_fits = pow_pos n; wild_fits = pow_pos n; apart = λ k. value_alone v 0 0 k refl refl } in
    subst (λ a. IsSpread n v a (digits_from 10 (filled_where 10 is_z) 0 ds % 2 ^ n + filled_above 4 n ds)) (sym none) (subst (λ a. IsSpread n v 0 a) (sym gone) alone)

decimal_kept : KeptBase 100
unfolding is_digit_of
decimal_kept n ds h = decimal_spread n ds (none_of is_x (is_digit_or_silent 100) plain_not_x ds h) (none_of is_z (is_digit_or_silent 100) plain_not_z ds h)

decimal_kept_above : KeptBase 68
unfolding is_digit_of
decimal_kept_above n ds h = decimal_spread n ds (none_of is_x (is_digit_or_silent 68) plain_not_x ds h) (none_of is_z (is_digit_or_silent 68) plain_not_z ds h)

at_byte : (x k : ℕ) → (x == k) ≡ true → KeptBase k → KeptBase x
at_byte x k e p = subst KeptBase (sym (eqb-true x k e)) p

pub base_kept : (x : ℕ) → is_base x ≡ true → KeptBase x
base_kept x h = elim (or_cases (x == 98 || x == 66 || x == 111 || x == 79 || x == 100 || x == 68 || x == 104) (x == 72) h) [
  | inr e ↦ at_byte x 72 e hexadecimal_kept_above
  | inl a ↦ elim (or_cases (x == 98 || x == 66 || x == 111 || x == 79 || x == 100 || x == 68) (x == 104) a) [
    | inr e ↦ at_byte x 104 e hexadecimal_kept
    | inl b ↦ elim (or_cases (x == 98 || x == 66 || x == 111 || x == 79 || x == 100) (x == 68) b) [
      | inr e ↦ at_byte x 68 e decimal_kept_above
      | inl c ↦ elim (or_cases (x == 98 || x == 66 || x == 111 || x == 79) (x == 100) c) [
        | inr e ↦ at_byte x 100 e decimal_kept
        | inl d ↦ elim (or_cases (x == 98 || x == 66 || x == 111) (x == 79) d) [
          | inr e ↦ at_byte x 79 e octal_kept_above
          | inl f ↦ elim (or_cases (x == 98 || x == 66) (x == 111) f) [
            | inr e ↦ at_byte x 111 e octal_kept
            | inl g ↦ elim (or_cases (x == 98) (x == 66) g) [ inr e ↦ at_byte x 66 e binary_kept_above | inl e ↦ at_byte x 98 e binary_kept ]
          ]
        ]
      ]
    ]
  ]
]

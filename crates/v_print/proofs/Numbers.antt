-- A printable number is what its printed tokens say.
use Rattle.std.proofs.Common.{◌≡◌, ℕ, zero, suc, ◌+◌, ◌*◌, ◌-◌, ◌/◌, ◌%◌, ◌^◌, ◌<◌, ◌≤◌, min, Bool, true, false, List, [], ◌∷◌, ◌++◌, Option, Some, None, refl, sym, ap, ◌∙◌, subst, arith, append_assoc}
use Rattle.std.specs.Prelude.{cond, not, ◌&&◌, ◌||◌, ◌==◌}
use Rattle.std.specs.List.{list_all, list_any}
use Rattle.std.specs.Fmt.{decimal as numeral}
use Rattle.std.proofs.lemmas.Bool.{false≢true, and_parts, and_from, or_from, or_parts, eqb-true, eqb-false, not-true, cond-true, cond-false}
use Rattle.std.proofs.lemmas.Bool.Decides.{nat_tests}
use Rattle.std.proofs.lemmas.Fmt.{decimal_by_steps_wide}
use Rattle.std.proofs.lemmas.Nat.{mod-pow-add, mod_low, mod_below, pow_pos}
use Rattle.std.proofs.Math.Nat.{mod-eq_of_lt, zero-div, zero-mod, mod-one, pow-le-pow_right, pow-succ'}
use Rattle.wb_values.specs.Names.{is_digit}
use Rattle.verilog_text.specs.Token.{Token, decimal, based}
use Rattle.verilog_text.specs.Spelling.{is_decimal_digit, digit_value, is_x, is_z, is_silent, digits_from, decimal_value, filled_where, bits_of_base, bits_of_digits, begins_with_z, kept_width, greatest_size, filled_above, width_of_size, has_size, plain_number, number_in_base, based_number, IsNumber, plain, unsized, of_size}
use Rattle.verilog_trees.specs.Syntax.{Number}
use Rattle.v_print.specs.Reads.{is_printed_decimal}
use Rattle.v_print.specs.Spelled.{is_plain, bit_digit, bit_of, bit_digits, cut_unknown, cut_wild, sign_text, based_text, size_before, number_before}
use Rattle.v_print.specs.Printable.{IsPrintableNumber}
use Rattle.v_print.proofs.Parts.{all_joined}

-- ---- digits one after the other

digits_joined : (base : ℕ) (f : ℕ → ℕ) (n : ℕ) (xs ys : List ℕ) → digits_from base f n (xs ++ ys) ≡ digits_from base f (digits_from base f n xs) ys
digits_joined base f n [] ys = refl
digits_joined base f n (x ∷ xs) ys = digits_joined base f (cond (is_silent x) n (n * base + f x)) xs ys

-- ---- decimals

digit_speaks : (d : ℕ) → d < 10 → is_silent (48 + d) ≡ false
digit_speaks d h = grind (arith, nat_tests)

is_decimal : (d : ℕ) → d < 10 → is_decimal_digit (48 + d) ≡ true
is_decimal d h = grind (arith, nat_tests)

digit_means : (d : ℕ) → d < 10 → digit_value (48 + d) ≡ d
digit_means d h = let less : (48 + d) - 48 ≡ d = omega arith in cond-true (is_decimal_digit (48 + d)) _ _ (is_decimal d h) ∙ less

digit_stands : (d : ℕ) → d < 10 → is_digit (48 + d) ≡ true
digit_stands d h = grind (arith, nat_tests)

-- a digit more
digit_behind : (n d : ℕ) → d < 10 → digits_from 10 digit_value n ((48 + d) ∷ []) ≡ n * 10 + d
digit_behind n d h = cond-false (is_silent (48 + d)) _ _ (digit_speaks d h) ∙ ap (λ (k : ℕ). n * 10 + k) (digit_means d h)

pub record IsNumeral (n : ℕ) (ds : List ℕ) : Type 0 where
  pub value : decimal_value ds ≡ n
  pub are_digits : list_all is_digit ds ≡ true
  pub is_written : is_printed_decimal ds ≡ true

one_digit : (n : ℕ) → n < 10 → IsNumeral n ((48 + n) ∷ [])
one_digit n h = record {
  value = digit_behind 0 n h ∙ none_before n;
  are_digits = and_from (is_digit (48 + n)) true (digit_stands n h) refl;
  is_written = and_from (is_digit (48 + n)) true (digit_stands n h) refl;
}
  where
    none_before : (k : ℕ) → 0 * 10 + k ≡ k
    none_before k = omega arith

written_behind : (ds : List ℕ) (d : ℕ) → is_printed_decimal ds ≡ true → is_digit d ≡ true → is_printed_decimal (ds ++ d ∷ []) ≡ true
written_behind [] d h g = absurd (false≢true h)
written_behind (b ∷ bs) d h g =
    let parts = and_parts (is_digit b) (list_all is_digit bs) h in
    and_from (is_digit b) (list_all is_digit (bs ++ d ∷ [])) parts.0 (all_joined is_digit bs (d ∷ []) parts.1 (and_from (is_digit d) true g refl))

more_digits : (n : ℕ) (ds : List ℕ) → 10 ≤ n → IsNumeral (n / 10) ds → IsNumeral n (ds ++ (48 + n % 10) ∷ [])
more_digits n ds h k =
    let below : n % 10 < 10 = mod_below n 10 (omega arith) in
    record {
      value = digits_joined 10 digit_value 0 ds ((48 + n % 10) ∷ []) ∙ digit_behind (decimal_value ds) (n % 10) below ∙ ap (λ (q : ℕ). q * 10 + n % 10) k.value ∙ together n;
      are_digits = all_joined is_digit ds ((48 + n % 10) ∷ []) k.are_digits (and_from (is_digit (48 + n % 10)) true (digit_stands (n % 10) below) refl);
      is_written = written_behind ds (48 + n % 10) k.is_written (digit_stands (n % 10) below);
    }
  where
    together : (m : ℕ) → m / 10 * 10 + m % 10 ≡ m
    together m = omega arith

pub numeral_is : (n : ℕ) → n < 10 ^ 64 → IsNumeral n (numeral n)
numeral_is n h = decimal_by_steps_wide IsNumeral one_digit more_digits n h

pub narrow : (v w : ℕ) → v < 2 ^ kept_width w → v < 10 ^ 64
narrow v w h = omega (arith, h, pow-le-pow_right {n = 2} (omega arith) {i = kept_width w} {j = 128} (omega arith))

-- digits of no such kind
digit_not_x : (b : ℕ) → is_digit b ≡ true → is_x b ≡ false
digit_not_x b h = grind (arith, nat_tests)

digit_not_z : (b : ℕ) → is_digit b ≡ true → is_z b ≡ false
digit_not_z b h = grind (arith, nat_tests)

none_of : (p : ℕ → Bool) → ((b : ℕ) → is_digit b ≡ true → p b ≡ false) → (ds : List ℕ) → list_all is_digit ds ≡ true → list_any p ds ≡ false
none_of p f [] h = refl
none_of p f (d ∷ ds) h =
    let parts = and_parts (is_digit d) (list_all is_digit ds) h in
    or_from (p d) (list_any p ds) (f d parts.0) (none_of p f ds parts.1)

nothing_by : (t : Bool) (k : ℕ) → k ≡ 0 → cond t 0 (0 * 10 + k) ≡ 0
nothing_by true k e = refl
nothing_by false k e = omega (arith, e)

nothing_filled : (p : ℕ → Bool) → ((b : ℕ) → is_digit b ≡ true → p b ≡ false) → (ds : List ℕ) → list_all is_digit ds ≡ true → digits_from 10 (filled_where 10 p) 0 ds ≡ 0
nothing_filled p f [] h = refl
nothing_filled p f (d ∷ ds) h =
    let parts = and_parts (is_digit d) (list_all is_digit ds) h in
    ap (λ (n : ℕ). digits_from 10 (filled_where 10 p) n ds) (nothing_by (is_silent d) (filled_where 10 p d) (ap (λ (t : Bool). cond t (10 - 1) 0) (f d parts.0)))
    ∙ nothing_filled p f ds parts.1

no_z_in_front : (ds : List ℕ) → list_all is_digit ds ≡ true → begins_with_z ds ≡ false
no_z_in_front [] h = refl
no_z_in_front (d ∷ ds) h =
    let parts = and_parts (is_digit d) (list_all is_digit ds) h in
    by (is_silent d) (digit_not_z d parts.0) (no_z_in_front ds parts.1)
  where
    by : (t : Bool) → is_z d ≡ false → begins_with_z ds ≡ false → cond t (begins_with_z ds) (is_z d) ≡ false
    by true e f = f
    by false e f = e

-- ---- digits of bits

bit_below : (n k : ℕ) → bit_of n k < 2
bit_below n k = mod_below (n / 2 ^ k) 2 (omega arith)

speaks_by : (t u v : Bool) → is_silent (cond t 120 (cond u 63 (cond v 49 48))) ≡ false
speaks_by true u v = refl
speaks_by false true v = refl
speaks_by false false true = refl
speaks_by false false false = refl

bit_speaks : (a b d : ℕ) → is_silent (bit_digit a b d) ≡ false
bit_speaks a b d = speaks_by (b == 1) (d == 1) (a == 1)

value_by : (a b d : ℕ) → a + b + d ≤ 1 → (t u v : Bool) → (b == 1) ≡ t → (d == 1) ≡ u → (a == 1) ≡ v → digit_value (cond t 120 (cond u 63 (cond v 49 48))) ≡ a
value_by a b d h true u v p q s = let e = eqb-true b 1 p in omega (arith, h, e)
value_by a b d h false true v p q s = let e = eqb-true d 1 q in omega (arith, h, e)
value_by a b d h false false true p q s = let e = eqb-true a 1 s in omega (arith, h, e)
value_by a b d h false false false p q s = let e = eqb-false a 1 s in omega (arith, h, e)

unknown_by : (a b d : ℕ) → a + b + d ≤ 1 → (t u v : Bool) → (b == 1) ≡ t → (d == 1) ≡ u → (a == 1) ≡ v → filled_where 2 is_x (cond t 120 (cond u 63 (cond v 49 48))) ≡ b
unknown_by a b d h true u v p q s = let e = eqb-true b 1 p in omega (arith, h, e)
unknown_by a b d h false true v p q s = let e = eqb-false b 1 p in omega (arith, h, e)
unknown_by a b d h false false true p q s = let e = eqb-false b 1 p in omega (arith, h, e)
unknown_by a b d h false false false p q s = let e = eqb-false b 1 p in omega (arith, h, e)

wild_by : (a b d : ℕ) → a + b + d ≤ 1 → (t u v : Bool) → (b == 1) ≡ t → (d == 1) ≡ u → (a == 1) ≡ v → filled_where 2 is_z (cond t 120 (cond u 63 (cond v 49 48))) ≡ d
wild_by a b d h true u v p q s = let e = eqb-true b 1 p in omega (arith, h, e)
wild_by a b d h false true v p q s = let e = eqb-true d 1 q in omega (arith, h, e)
wild_by a b d h false false true p q s = let e = eqb-false d 1 q in omega (arith, h, e)
wild_by a b d h false false false p q s = let e = eqb-false d 1 q in omega (arith, h, e)

-- a bit more
next_bit : (n x k : ℕ) → (n * 2 + bit_of x k) * 2 ^ k + x % 2 ^ k ≡ n * 2 ^ suc k + x % 2 ^ suc k
next_bit n x k =
    let s : suc k ≡ 1 + k = omega arith in
    let p : 2 ^ suc k ≡ 2 * 2 ^ k = pow-succ' 2 k in
    let m : x % 2 ^ suc k ≡ bit_of x k * 2 ^ k + x % 2 ^ k = ap (λ (j : ℕ). x % 2 ^ j) s ∙ mod-pow-add x 1 k in
    by n (bit_of x k) (2 ^ k) (2 ^ suc k) (x % 2 ^ k) (x % 2 ^ suc k) p m
  where
    by : (n b q r y z : ℕ) → r ≡ 2 * q → z ≡ b * q + y → (n * 2 + b) * q + y ≡ n * r + z
    by n b q r y z e f = grind arith

-- The digits of bits are read back, by what each stands for.
bits_read : (f : ℕ → ℕ) (x v u w : ℕ) → ((j : ℕ) → f (bit_digit (bit_of v j) (bit_of u j) (bit_of w j)) ≡ bit_of x j) → (k n : ℕ) → digits_from 2 f n (bit_digits k v u w) ≡ n * 2 ^ k + x % 2 ^ k
unfolding bit_digits
bits_read f x v u w means zero n = none n x
  where
    none : (m y : ℕ) → m ≡ m * 2 ^ 0 + y % 2 ^ 0
    none m y = let e : y % 1 ≡ 0 = mod-one y in omega (arith, e)
bits_read f x v u w means (suc k) n =
    let c = bit_digit (bit_of v k) (bit_of u k) (bit_of w k) in
    ap (λ (t : Bool). digits_from 2 f (cond t n (n * 2 + f c)) (bit_digits k v u w)) (bit_speaks (bit_of v k) (bit_of u k) (bit_of w k))
    ∙ ap (λ (b : ℕ). digits_from 2 f (n * 2 + b) (bit_digits k v u w)) (means k)
    ∙ bits_read f x v u w means k (n * 2 + bit_of x k)
    ∙ next_bit n x k

-- with digits in front that are cut away
cut_read : (f : ℕ → ℕ) (x v u w : ℕ) → ((j : ℕ) → f (bit_digit (bit_of v j) (bit_of u j) (bit_of w j)) ≡ bit_of x j) → (k : ℕ) → x < 2 ^ k → (cut : List ℕ)
    → digits_from 2 f 0 (cut ++ bit_digits k v u w) % 2 ^ k ≡ x
cut_read f x v u w means k fits cut =
    let below : x % 2 ^ k < 2 ^ k = mod_below x (2 ^ k) (pow_pos k) in
    ap (λ (n : ℕ). n % 2 ^ k) (digits_joined 2 f 0 cut (bit_digits k v u w) ∙ bits_read f x v u w means k (digits_from 2 f 0 cut))
    ∙ mod_low (digits_from 2 f 0 cut) k (x % 2 ^ k) below
    ∙ mod-eq_of_lt fits

-- as many digits as bits
bits_counted : (k v u w : ℕ) → bits_of_digits 1 (bit_digits k v u w) ≡ k
unfolding bit_digits
bits_counted zero v u w = refl
bits_counted (suc k) v u w =
    ap (λ (t : Bool). cond t 0 1 + bits_of_digits 1 (bit_digits k v u w)) (bit_speaks (bit_of v k) (bit_of u k) (bit_of w k))
    ∙ ap (λ (n : ℕ). 1 + n) (bits_counted k v u w) ∙ one_more k
  where
    one_more : (j : ℕ) → 1 + j ≡ suc j
    one_more j = omega arith

counted_joined : (xs ys : List ℕ) → bits_of_digits 1 (xs ++ ys) ≡ bits_of_digits 1 xs + bits_of_digits 1 ys
counted_joined [] ys = omega arith
counted_joined (x ∷ xs) ys = let e = counted_joined xs ys in omega (arith, e)

not_filled : (k : ℕ) (digits : List ℕ) → k ≤ bits_of_digits 1 digits → filled_above 1 k digits ≡ 0
not_filled k digits h = by (begins_with_z digits)
  where
    whole : min (bits_of_digits 1 digits) k ≡ k
    whole = omega (arith, h)

    by : (t : Bool) → cond t (2 ^ k - 2 ^ min (bits_of_digits 1 digits) k) 0 ≡ 0
    by true = ap (λ (j : ℕ). 2 ^ k - 2 ^ j) whole ∙ itself (2 ^ k)
      where
        itself : (q : ℕ) → q - q ≡ 0
        itself q = omega arith
    by false = refl

-- ---- that some digit is x, or z

x_by : (a b d : ℕ) → a + b + d ≤ 1 → (t u v : Bool) → (b == 1) ≡ t → (d == 1) ≡ u → (a == 1) ≡ v → is_x (cond t 120 (cond u 63 (cond v 49 48))) ≡ (b == 1)
x_by a b d h true u v p q s = sym p
x_by a b d h false true v p q s = sym p
x_by a b d h false false true p q s = sym p
x_by a b d h false false false p q s = sym p

z_by : (a b d : ℕ) → a + b + d ≤ 1 → (t u v : Bool) → (b == 1) ≡ t → (d == 1) ≡ u → (a == 1) ≡ v → is_z (cond t 120 (cond u 63 (cond v 49 48))) ≡ (d == 1)
z_by a b d h true u v p q s = let e = eqb-true b 1 p in sym (none d (omega (arith, h, e)))
  where
    none : (n : ℕ) → n ≡ 0 → (n == 1) ≡ false
    none n e = grind (arith, nat_tests)
z_by a b d h false true v p q s = sym q
z_by a b d h false false true p q s = sym q
z_by a b d h false false false p q s = sym q

-- where no digit is of the kind, there is no bit of it
no_bits : (p : ℕ → Bool) (x v u w : ℕ) → ((j : ℕ) → p (bit_digit (bit_of v j) (bit_of u j) (bit_of w j)) ≡ (bit_of x j == 1)) → (k : ℕ) → list_any p (bit_digits k v u w) ≡ false → x % 2 ^ k ≡ 0
unfolding bit_digits
no_bits p x v u w means zero h = mod-one x
no_bits p x v u w means (suc k) h =
    let parts = or_parts (p (bit_digit (bit_of v k) (bit_of u k) (bit_of w k))) (list_any p (bit_digits k v u w)) h in
    let later = no_bits p x v u w means k parts.1 in
    let not_one = eqb-false (bit_of x k) 1 (sym (means k) ∙ parts.0) in
    let s : suc k ≡ 1 + k = omega arith in
    let m : x % 2 ^ suc k ≡ bit_of x k * 2 ^ k + x % 2 ^ k = ap (λ (j : ℕ). x % 2 ^ j) s ∙ mod-pow-add x 1 k in
    m ∙ by (bit_of x k) (2 ^ k) (x % 2 ^ k) (bit_below x k) not_one later
  where
    by : (b q y : ℕ) → b < 2 → (b ≡ 1 → ⊥) → y ≡ 0 → b * q + y ≡ 0
    by b q y l n e = let z : b ≡ 0 = omega (arith, l, n) in grind (arith, z, e)

-- and where there is no bit of it, no digit is
no_digits : (p : ℕ → Bool) (x v u w : ℕ) → ((j : ℕ) → p (bit_digit (bit_of v j) (bit_of u j) (bit_of w j)) ≡ (bit_of x j == 1)) → x ≡ 0 → (k : ℕ) → list_any p (bit_digits k v u w) ≡ false
unfolding bit_digits
no_digits p x v u w means e zero = refl
no_digits p x v u w means e (suc k) =
    or_from (p (bit_digit (bit_of v k) (bit_of u k) (bit_of w k))) (list_any p (bit_digits k v u w))
    (means k ∙ ap (λ (y : ℕ). bit_of y k == 1) e ∙ ap (λ (y : ℕ). y % 2 == 1) (zero-div (2 ^ k)) ∙ ap (λ (y : ℕ). y == 1) (zero-mod 2))
    (no_digits p x v u w means e k)

any_joined : (p : ℕ → Bool) (xs ys : List ℕ) → list_any p (xs ++ ys) ≡ (list_any p xs || list_any p ys)
any_joined p [] ys = refl
any_joined p (x ∷ xs) ys = ap (λ (t : Bool). p x || t) (any_joined p xs ys) ∙ turned (p x) (list_any p xs) (list_any p ys)
  where
    turned : (a b c : Bool) → (a || (b || c)) ≡ ((a || b) || c)
    turned true b c = refl
    turned false b c = refl

flag_by : (has : Bool) (x k : ℕ) (any : Bool) → x < 2 ^ k → (has ≡ false → x ≡ 0) → (x ≡ 0 → any ≡ false) → (any ≡ false → x % 2 ^ k ≡ 0) → ((has && x == 0) || any) ≡ has
flag_by false x k any fits none gone kept = gone (none refl)
flag_by true x k any fits none gone kept = by (x == 0) any refl refl
  where
    by : (t a : Bool) → (x == 0) ≡ t → any ≡ a → (t || a) ≡ true
    by true a e f = refl
    by false true e f = refl
    by false false e f = absurd (eqb-false x 0 e (sym (mod-eq_of_lt fits) ∙ kept f))

-- ---- what digits are read as

record IsReadAs (n : Number) (base : ℕ) (digits : List ℕ) : Type 0 where
  value : digits_from base digit_value 0 digits % 2 ^ kept_width n.width ≡ n.value
  unknown : digits_from base (filled_where base is_x) 0 digits % 2 ^ kept_width n.width ≡ n.unknown
  wild : digits_from base (filled_where base is_z) 0 digits % 2 ^ kept_width n.width + filled_above (bits_of_base base) (kept_width n.width) digits ≡ n.wild
  has_unknown : list_any is_x digits ≡ n.has_unknown
  has_wild : list_any is_z digits ≡ n.has_wild

in_base : (n : Number) (size : Option ℕ) (s : Bool) (base : ℕ) (digits : List ℕ) → width_of_size size ≡ n.width → has_size size ≡ n.sized → n.signed ≡ s → IsReadAs n base digits
    → number_in_base size s base digits ≡ n
in_base n size s base digits e f g h =
    let value : digits_from base digit_value 0 digits % 2 ^ kept_width (width_of_size size) ≡ n.value =
    ap (λ (w : ℕ). digits_from base digit_value 0 digits % 2 ^ kept_width w) e ∙ h.value in
    let unknown : digits_from base (filled_where base is_x) 0 digits % 2 ^ kept_width (width_of_size size) ≡ n.unknown =
    ap (λ (w : ℕ). digits_from base (filled_where base is_x) 0 digits % 2 ^ kept_width w) e ∙ h.unknown in
    let wild : digits_from base (filled_where base is_z) 0 digits % 2 ^ kept_width (width_of_size size) + filled_above (bits_of_base base) (kept_width (width_of_size size)) digits ≡ n.wild =
    ap (λ (w : ℕ). digits_from base (filled_where base is_z) 0 digits % 2 ^ kept_width w + filled_above (bits_of_base base) (kept_width w) digits) e ∙ h.wild in
    let signed : s ≡ n.signed = sym g in
    λ i. record { width = e i; sized = f i; signed = signed i; value = value i; unknown = unknown i; wild = wild i; has_unknown = h.has_unknown i; has_wild = h.has_wild i }

-- in decimal
in_decimal : (n : Number) → IsPrintableNumber n → n.has_unknown ≡ false → n.has_wild ≡ false → IsReadAs n 10 (numeral n.value)
in_decimal n p x z =
    let k = numeral_is n.value (narrow n.value n.width p.value_fits) in
    let ds = numeral n.value in
    let q = 2 ^ kept_width n.width in
    record {
      value = ap (λ (v : ℕ). v % q) k.value ∙ mod-eq_of_lt p.value_fits;
      unknown = ap (λ (v : ℕ). v % q) (nothing_filled is_x digit_not_x ds k.are_digits) ∙ zero-mod q ∙ sym (p.no_unknown x);
      wild = ap (λ (v : ℕ). v % q + filled_above 4 (kept_width n.width) ds) (nothing_filled is_z digit_not_z ds k.are_digits)
          ∙ ap (λ (v : ℕ). v + filled_above 4 (kept_width n.width) ds) (zero-mod q)
          ∙ ap (λ (t : Bool). 0 + cond t (2 ^ kept_width n.width - 2 ^ min (bits_of_digits 4 ds) (kept_width n.width)) 0) (no_z_in_front ds k.are_digits)
          ∙ sym (p.no_wild z);
      has_unknown = none_of is_x digit_not_x ds k.are_digits ∙ sym x;
      has_wild = none_of is_z digit_not_z ds k.are_digits ∙ sym z;
    }

-- in binary
means_value : (n : Number) → IsPrintableNumber n → (j : ℕ) → digit_value (bit_digit (bit_of n.value j) (bit_of n.unknown j) (bit_of n.wild j)) ≡ bit_of n.value j
means_value n p j = value_by (bit_of n.value j) (bit_of n.unknown j) (bit_of n.wild j) (p.apart j) (bit_of n.unknown j == 1) (bit_of n.wild j == 1) (bit_of n.value j == 1) refl refl refl

means_unknown : (n : Number) → IsPrintableNumber n → (j : ℕ) → filled_where 2 is_x (bit_digit (bit_of n.value j) (bit_of n.unknown j) (bit_of n.wild j)) ≡ bit_of n.unknown j
means_unknown n p j = unknown_by (bit_of n.value j) (bit_of n.unknown j) (bit_of n.wild j) (p.apart j) (bit_of n.unknown j == 1) (bit_of n.wild j == 1) (bit_of n.value j == 1) refl refl refl

means_wild : (n : Number) → IsPrintableNumber n → (j : ℕ) → filled_where 2 is_z (bit_digit (bit_of n.value j) (bit_of n.unknown j) (bit_of n.wild j)) ≡ bit_of n.wild j
means_wild n p j = wild_by (bit_of n.value j) (bit_of n.unknown j) (bit_of n.wild j) (p.apart j) (bit_of n.unknown j == 1) (bit_of n.wild j == 1) (bit_of n.value j == 1) refl refl refl

shows_unknown : (n : Number) → IsPrintableNumber n → (j : ℕ) → is_x (bit_digit (bit_of n.value j) (bit_of n.unknown j) (bit_of n.wild j)) ≡ (bit_of n.unknown j == 1)
shows_unknown n p j = x_by (bit_of n.value j) (bit_of n.unknown j) (bit_of n.wild j) (p.apart j) (bit_of n.unknown j == 1) (bit_of n.wild j == 1) (bit_of n.value j == 1) refl refl refl

shows_wild : (n : Number) → IsPrintableNumber n → (j : ℕ) → is_z (bit_digit (bit_of n.value j) (bit_of n.unknown j) (bit_of n.wild j)) ≡ (bit_of n.wild j == 1)
shows_wild n p j = z_by (bit_of n.value j) (bit_of n.unknown j) (bit_of n.wild j) (p.apart j) (bit_of n.unknown j == 1) (bit_of n.wild j == 1) (bit_of n.value j == 1) refl refl refl

any_cut : (p : ℕ → Bool) (t : Bool) (d : ℕ) → list_any p (cond t (d ∷ []) []) ≡ (t && (p d || false))
any_cut p true d = refl
any_cut p false d = refl

-- a kind of digits among those that are cut away and those of bits
any_of : (p : ℕ → Bool) (t u : Bool) (bits : List ℕ) → list_any p (cond t (120 ∷ []) [] ++ (cond u (63 ∷ []) [] ++ bits)) ≡ (t && (p 120 || false) || (u && (p 63 || false) || list_any p bits))
any_of p t u bits =
    any_joined p (cond t (120 ∷ []) []) (cond u (63 ∷ []) [] ++ bits)
    ∙ ap (λ (a : Bool). a || list_any p (cond u (63 ∷ []) [] ++ bits)) (any_cut p t 120)
    ∙ ap (λ (a : Bool). t && (p 120 || false) || a) (any_joined p (cond u (63 ∷ []) []) bits ∙ ap (λ (a : Bool). a || list_any p bits) (any_cut p u 63))

and_true : (t : Bool) → (t && true) ≡ t
and_true true = refl
and_true false = refl

and_false : (t : Bool) → (t && false) ≡ false
and_false true = refl
and_false false = refl

binary_digits : Number → List ℕ
binary_digits n = cut_unknown n ++ (cut_wild n ++ bit_digits (kept_width n.width) n.value n.unknown n.wild)

binary_has_unknown : (n : Number) → IsPrintableNumber n → list_any is_x (cut_unknown n ++ (cut_wild n ++ bit_digits (kept_width n.width) n.value n.unknown n.wild)) ≡ n.has_unknown
binary_has_unknown n p =
    let bits = bit_digits (kept_width n.width) n.value n.unknown n.wild in
    any_of is_x (n.has_unknown && n.unknown == 0) (n.has_wild && n.wild == 0) bits
    ∙ ap (λ (a : Bool). a || (n.has_wild && n.wild == 0 && false || list_any is_x bits)) (and_true (n.has_unknown && n.unknown == 0))
    ∙ ap (λ (a : Bool). n.has_unknown && n.unknown == 0 || (a || list_any is_x bits)) (and_false (n.has_wild && n.wild == 0))
    ∙ flag_by n.has_unknown n.unknown (kept_width n.width) (list_any is_x bits) p.unknown_fits p.no_unknown
    (λ e. no_digits is_x n.unknown n.value n.unknown n.wild (shows_unknown n p) e (kept_width n.width))
    (λ e. no_bits is_x n.unknown n.value n.unknown n.wild (shows_unknown n p) (kept_width n.width) e)

binary_has_wild : (n : Number) → IsPrintableNumber n → list_any is_z (cut_unknown n ++ (cut_wild n ++ bit_digits (kept_width n.width) n.value n.unknown n.wild)) ≡ n.has_wild
binary_has_wild n p =
    let bits = bit_digits (kept_width n.width) n.value n.unknown n.wild in
    any_of is_z (n.has_unknown && n.unknown == 0) (n.has_wild && n.wild == 0) bits
    ∙ ap (λ (a : Bool). a || (n.has_wild && n.wild == 0 && true || list_any is_z bits)) (and_false (n.has_unknown && n.unknown == 0))
    ∙ ap (λ (a : Bool). a || list_any is_z bits) (and_true (n.has_wild && n.wild == 0))
    ∙ flag_by n.has_wild n.wild (kept_width n.width) (list_any is_z bits) p.wild_fits p.no_wild
    (λ e. no_digits is_z n.wild n.value n.unknown n.wild (shows_wild n p) e (kept_width n.width))
    (λ e. no_bits is_z n.wild n.value n.unknown n.wild (shows_wild n p) (kept_width n.width) e)

enough_digits : (n : Number) → kept_width n.width ≤ bits_of_digits 1 ((cut_unknown n ++ cut_wild n) ++ bit_digits (kept_width n.width) n.value n.unknown n.wild)
enough_digits n =
    let joined = counted_joined (cut_unknown n ++ cut_wild n) (bit_digits (kept_width n.width) n.value n.unknown n.wild) in
    let counted = bits_counted (kept_width n.width) n.value n.unknown n.wild in
    by (kept_width n.width) (bits_of_digits 1 (cut_unknown n ++ cut_wild n)) (bits_of_digits 1 (bit_digits (kept_width n.width) n.value n.unknown n.wild)) _ joined counted
  where
    by : (k a b c : ℕ) → c ≡ a + b → b ≡ k → k ≤ c
    by k a b c e f = omega (arith, e, f)

in_binary : (n : Number) → IsPrintableNumber n → IsReadAs n 2 (cut_unknown n ++ (cut_wild n ++ bit_digits (kept_width n.width) n.value n.unknown n.wild))
in_binary n p =
    let k = kept_width n.width in
    let bits = bit_digits k n.value n.unknown n.wild in
    let cut = cut_unknown n ++ cut_wild n in
    let same : cut ++ bits ≡ cut_unknown n ++ (cut_wild n ++ bits) = append_assoc (cut_unknown n) (cut_wild n) bits in
    record {
      value = ap (λ (ds : List ℕ). digits_from 2 digit_value 0 ds % 2 ^ k) (sym same) ∙ cut_read digit_value n.value n.value n.unknown n.wild (means_value n p) k p.value_fits cut;
      unknown = ap (λ (ds : List ℕ). digits_from 2 (filled_where 2 is_x) 0 ds % 2 ^ k) (sym same)
          ∙ cut_read (filled_where 2 is_x) n.unknown n.value n.unknown n.wild (means_unknown n p) k p.unknown_fits cut;
      wild = ap (λ (ds : List ℕ). digits_from 2 (filled_where 2 is_z) 0 ds % 2 ^ k + filled_above 1 k ds) (sym same)
          ∙ ap (λ (x : ℕ). x + filled_above 1 k (cut ++ bits)) (cut_read (filled_where 2 is_z) n.wild n.value n.unknown n.wild (means_wild n p) k p.wild_fits cut)
          ∙ ap (λ (x : ℕ). n.wild + x) (not_filled k (cut ++ bits) (enough_digits n))
          ∙ alone n.wild;
      has_unknown = binary_has_unknown n p;
      has_wild = binary_has_wild n p;
    }
  where
    alone : (x : ℕ) → x + 0 ≡ x
    alone x = omega arith

-- ---- numbers

text_by : (n : Number) → IsPrintableNumber n → (size : Option ℕ) → width_of_size size ≡ n.width → has_size size ≡ n.sized → (s h : Bool) → n.signed ≡ s → (n.has_unknown || n.has_wild) ≡ h
    → based_number size (39 ∷ (sign_text s ++ cond h (98 ∷ (cut_unknown n ++ (cut_wild n ++ bit_digits (kept_width n.width) n.value n.unknown n.wild))) (100 ∷ numeral n.value))) ≡ n
text_by n p size e f true true g b = in_base n size true 2 _ e f g (in_binary n p)
text_by n p size e f false true g b = in_base n size false 2 _ e f g (in_binary n p)
text_by n p size e f true false g b = let none = or_parts n.has_unknown n.has_wild b in in_base n size true 10 _ e f g (in_decimal n p none.0 none.1)
text_by n p size e f false false g b = let none = or_parts n.has_unknown n.has_wild b in in_base n size false 10 _ e f g (in_decimal n p none.0 none.1)

based_is : (n : Number) → IsPrintableNumber n → (size : Option ℕ) → width_of_size size ≡ n.width → has_size size ≡ n.sized → based_number size (based_text n) ≡ n
based_is n p size e f = text_by n p size e f n.signed (n.has_unknown || n.has_wild) refl refl

small_size : (w : ℕ) → w ≤ greatest_size → w < 10 ^ 64
small_size w h = omega (arith, h)

pub size_small : (n : Number) → IsPrintableNumber n → n.width < 10 ^ 64
size_small n p = small_size n.width p.width_fits

size_is : (n : Number) → IsPrintableNumber n → decimal_value (numeral n.width) ≡ n.width
size_is n p = (numeral_is n.width (size_small n p)).value

size_kept : (w : ℕ) → w ≤ greatest_size → min w greatest_size ≡ w
size_kept w h = omega (arith, h)

plain_is : (n : Number) → IsPrintableNumber n → is_plain n ≡ true → plain_number (numeral n.value) ≡ n
plain_is n p h =
    let a = and_parts (not n.sized) (n.signed && (not n.has_unknown && not n.has_wild)) h in
    let b = and_parts n.signed (not n.has_unknown && not n.has_wild) a.1 in
    let c = and_parts (not n.has_unknown) (not n.has_wild) b.1 in
    let unsized = not-true n.sized a.0 in
    let x = not-true n.has_unknown c.0 in
    let z = not-true n.has_wild c.1 in
    let fits : n.value < 2 ^ 32 = subst (λ w. n.value < 2 ^ kept_width w) (p.plain_width unsized) p.value_fits in
    let width : 32 ≡ n.width = sym (p.plain_width unsized) in
    let sized : false ≡ n.sized = sym unsized in
    let signed : true ≡ n.signed = sym b.0 in
    let value : decimal_value (numeral n.value) % 2 ^ 32 ≡ n.value =
    ap (λ (v : ℕ). v % 2 ^ 32) (numeral_is n.value (narrow n.value n.width p.value_fits)).value ∙ mod-eq_of_lt fits in
    let unknown : 0 ≡ n.unknown = sym (p.no_unknown x) in
    let wild : 0 ≡ n.wild = sym (p.no_wild z) in
    let has_unknown : false ≡ n.has_unknown = sym x in
    let has_wild : false ≡ n.has_wild = sym z in
    λ i. record { width = width i; sized = sized i; signed = signed i; value = value i; unknown = unknown i; wild = wild i; has_unknown = has_unknown i; has_wild = has_wild i }

by_size : (n : Number) → IsPrintableNumber n → (r : List Token) (s : Bool) → n.sized ≡ s → IsNumber n (cond s (decimal (numeral n.width) ∷ based (based_text n) ∷ r) (based (based_text n) ∷ r)) r
by_size n p r true e =
    subst (λ m. IsNumber m (decimal (numeral n.width) ∷ based (based_text n) ∷ r) r)
    (based_is n p (Some (decimal_value (numeral n.width))) (ap (λ (w : ℕ). min w greatest_size) (size_is n p) ∙ size_kept n.width p.width_fits) (sym e))
    (of_size (numeral n.width) (based_text n) r)
by_size n p r false e = subst (λ m. IsNumber m (based (based_text n) ∷ r) r) (based_is n p None (sym (p.plain_width e)) (sym e)) (unsized (based_text n) r)

by_plain : (n : Number) → IsPrintableNumber n → (r : List Token) (t : Bool) → is_plain n ≡ t → IsNumber n (cond t (decimal (numeral n.value) ∷ r) (size_before n (based (based_text n) ∷ r))) r
by_plain n p r true e = subst (λ m. IsNumber m (decimal (numeral n.value) ∷ r) r) (plain_is n p e) (plain (numeral n.value) r)
by_plain n p r false e = by_size n p r n.sized refl

pub number_spelled : (n : Number) → IsPrintableNumber n → (r : List Token) → IsNumber n (number_before n r) r
unfolding number_before
number_spelled n p r = by_plain n p r (is_plain n) refl

-- The numbers that tokens as texts have them spell can be printed.
use Rattle.std.proofs.Common.{◌≡◌, ℕ, ◌+◌, ◌*◌, ◌-◌, ◌%◌, ◌^◌, ◌≤◌, Bool, true, false, List, [], ◌∷◌, Option, Some, None, refl, sym, ap, ◌∙◌, subst, arith}
use Rattle.std.specs.Prelude.{cond, ◌&&◌, ◌||◌, ◌==◌, nat_le}
use Rattle.std.specs.List.{list_all}
use Rattle.std.proofs.lemmas.Bool.{true≢false, false≢true, and_parts, cond-true, cond-false}
use Rattle.std.proofs.lemmas.Bool.Decides.{nat_tests}
use Rattle.std.proofs.lemmas.Nat.{pow_pos, mod_below}
use Rattle.std.proofs.Math.Nat.{zero-mod}
use Rattle.verilog_text.specs.Token.{Token, decimal, based}
use Rattle.verilog_text.specs.Lexical.{is_decimal_byte, is_base}
use Rattle.verilog_text.specs.Text.{is_zero}
use Rattle.verilog_text.specs.Spelling.{is_decimal_digit, digit_value, is_x, is_silent, digits_from, decimal_value, base_of, bits_of_base, kept_width, greatest_size, width_of_size, has_size, plain_number, number_in_base, behind_sign as number_behind, based_number, IsNumber, plain, unsized, of_size}
use Rattle.verilog_trees.specs.Syntax.{Number}
use Rattle.v_print.specs.Printable.{IsPrintableNumber}
use Rattle.v_print_source.proofs.Lexed.{is_digit_or_silent, IsBased, IsQuoted, behind_sign, without_sign, AreLexed, behind, Leaves}
use Rattle.v_print_source.proofs.Spread.{value_alone}
use Rattle.v_print_source.proofs.Digits.{base_kept, nothing_filled, no_wild_at_all}

-- ---- numbers

-- a size that is not 0, where there is one
abbrev IsSize : Option ℕ → Type 0
IsSize None = Unit {0}
IsSize (Some w) = 1 ≤ w

some_bits : (size : Option ℕ) → IsSize size → has_size size ≡ true → 1 ≤ width_of_size size
some_bits None p h = absurd (false≢true h)
some_bits (Some w) p h = omega (arith, p)

width_small : (size : Option ℕ) → width_of_size size ≤ greatest_size
width_small None = omega arith
width_small (Some w) = omega arith

plain_width : (size : Option ℕ) → has_size size ≡ false → width_of_size size ≡ 32
plain_width None h = refl
plain_width (Some w) h = absurd (true≢false h)

in_base_printable : (size : Option ℕ) → IsSize size → (signed : Bool) (x : ℕ) (ds : List ℕ) → is_base x ≡ true → list_all (is_digit_or_silent x) ds ≡ true → IsPrintableNumber (number_in_base size signed (base_of x) ds)
in_base_printable size p signed x ds b h =
    let n = kept_width (width_of_size size) in
    let s = base_kept x b n ds h in
    record {
      some_bits = some_bits size p;
      width_fits = width_small size;
      plain_width = plain_width size;
      value_fits = s.value_fits;
      unknown_fits = s.unknown_fits;
      wild_fits = s.wild_fits;
      no_unknown = λ e. ap (λ (k : ℕ). k % 2 ^ n) (nothing_filled (base_of x) is_x ds e) ∙ zero-mod (2 ^ n);
      no_wild = λ e. no_wild_at_all (base_of x) (bits_of_base (base_of x)) n ds e;
      apart = s.apart;
    }

based_printable : (size : Option ℕ) → IsSize size → (signed : Bool) (text : List ℕ) → IsBased text → IsPrintableNumber (number_behind size signed text)
based_printable size p signed [] h = absurd h
based_printable size p signed (x ∷ ds) h = in_base_printable size p signed x ds h.0 h.1

quoted_printable : (size : Option ℕ) → IsSize size → (text : List ℕ) → IsQuoted text → IsPrintableNumber (based_number size text)
quoted_printable size p _ (behind_sign quote s text e h) =
    subst IsPrintableNumber (sym (cond-true (s == 115 || s == 83) (number_behind size true text) (number_behind size false (s ∷ text)) e)) (based_printable size p true text h)
quoted_printable size p _ (without_sign quote b text e h) =
    subst IsPrintableNumber (sym (cond-false (b == 115 || b == 83) (number_behind size true text) (number_behind size false (b ∷ text)) e)) (based_printable size p false (b ∷ text) h)

plain_printable : (text : List ℕ) → IsPrintableNumber (plain_number text)
plain_printable text = record {
  some_bits = λ h. absurd (false≢true h);
  width_fits = omega arith;
  plain_width = λ h. refl;
  value_fits = mod_below (decimal_value text) (2 ^ 32) (pow_pos 32);
  unknown_fits = pow_pos 32;
  wild_fits = pow_pos 32;
  no_unknown = λ h. refl;
  no_wild = λ h. refl;
  apart = λ k. value_alone (decimal_value text % 2 ^ 32) 0 0 k refl refl;
}

-- ---- sizes

grows : (n : ℕ) (bs : List ℕ) → 1 ≤ n → 1 ≤ digits_from 10 digit_value n bs
grows n [] h = h
grows n (b ∷ bs) h = grows (cond (is_silent b) n (n * 10 + digit_value b)) bs (by (is_silent b) (digit_value b))
  where
    by : (t : Bool) (d : ℕ) → 1 ≤ cond t n (n * 10 + d)
    by true d = h
    by false d = omega (arith, h)

speaks : (b : ℕ) → is_decimal_byte b ≡ true → (b == 48 || b == 95) ≡ false → is_silent b ≡ false
speaks b h e = grind (arith, nat_tests)

is_digit_then : (b : ℕ) → is_decimal_byte b ≡ true → (b == 48 || b == 95) ≡ false → is_decimal_digit b ≡ true
is_digit_then b h e = grind (arith, nat_tests)

above_zero : (b : ℕ) → is_decimal_byte b ≡ true → (b == 48 || b == 95) ≡ false → 1 ≤ b - 48
above_zero b h e = grind (arith, nat_tests)

positive : (bs : List ℕ) (n : ℕ) → list_all is_decimal_byte bs ≡ true → list_all (λ b. b == 48 || b == 95) bs ≡ false → 1 ≤ digits_from 10 digit_value n bs
positive [] n h e = absurd (true≢false e)
positive (b ∷ bs) n h e =
    let parts = and_parts (is_decimal_byte b) (list_all is_decimal_byte bs) h in
    by (b == 48 || b == 95) refl parts.0 (λ m. positive bs m parts.1) e
  where
    sum : (n d : ℕ) → 1 ≤ d → 1 ≤ n * 10 + d
    sum n d h = omega (arith, h)

    by : (t : Bool) → (b == 48 || b == 95) ≡ t → is_decimal_byte b ≡ true → ((m : ℕ) → list_all (λ c. c == 48 || c == 95) bs ≡ false → 1 ≤ digits_from 10 digit_value m bs)
        → (t && list_all (λ c. c == 48 || c == 95) bs) ≡ false → 1 ≤ digits_from 10 digit_value (cond (is_silent b) n (n * 10 + digit_value b)) bs
    by true f d more g = more (cond (is_silent b) n (n * 10 + digit_value b)) g
    by false f d more g =
        grows (cond (is_silent b) n (n * 10 + digit_value b)) bs
        (subst (λ m. 1 ≤ m) (sym (cond-false (is_silent b) n (n * 10 + digit_value b) (speaks b d f)))
        (sum n (digit_value b) (subst (λ m. 1 ≤ m) (sym (cond-true (is_decimal_digit b) (b - 48) (cond (nat_le 97 b && nat_le b 102) (b - 87) (cond (nat_le 65 b && nat_le b 70) (b - 55) 0)) (is_digit_then b d f))) (above_zero b d f))))

not_zero : (t : Bool) → (t && true) ≡ false → t ≡ false
not_zero true h = absurd (true≢false h)
not_zero false h = refl

-- ---- numbers as they are spelled

pub number_printable : (n : Number) (text rest : List Token) → IsNumber n text rest → AreLexed text → Leaves (IsPrintableNumber n) rest
number_printable _ _ _ (plain text rest) l = record { is = plain_printable text; lexed = behind (decimal text) rest l }
number_printable _ _ _ (unsized text rest) l = record { is = quoted_printable None tt text l.0; lexed = behind (based text) rest l }
number_printable _ _ _ (of_size size text rest) l =
    let k = behind (decimal size) (based text ∷ rest) l in
    record {
      is = quoted_printable (Some (decimal_value size)) (positive size 0 l.0 (not_zero (is_zero (decimal size)) l.1)) text k.0;
      lexed = behind (based text) rest k;
    }

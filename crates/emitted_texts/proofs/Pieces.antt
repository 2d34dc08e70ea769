-- Numbers, names and ranges that can be printed.
use Rattle.std.proofs.Common.{◌≡◌, ℕ, ◌+◌, ◌-◌, ◌<◌, ◌≤◌, ◌^◌, min, Bool, true, false, not, ◌&&◌, ◌||◌, ◌==◌, cond, List, [], ◌∷◌, ◌++◌, map, length, codes, IsTrue, refl, sym, ap, subst, arith}
use Rattle.std.specs.Prelude.{nat_le}
use Rattle.std.specs.Fmt.{decimal}
use Rattle.std.specs.List.{list_all, list_any}
use Rattle.std.specs.Str.{bytes_eq}
use Rattle.std.proofs.lemmas.Bool.{and_parts, and_from, or_parts, false≢true}
use Rattle.std.proofs.lemmas.Bool.Decides.{nat_tests}
use Rattle.std.proofs.lemmas.Nat.{pow_pos}
use Rattle.std.proofs.Math.Nat.{pow-le-pow_right}
use Rattle.wb_values.specs.Value.{Name, Sort, truth, word, memory}
use Rattle.wb_values.specs.Names.{is_letter, is_digit, is_name_byte, begins_with, begins_with_wb, is_kept_word, is_model_name}
use Rattle.wb_values.specs.ReservedWords.{is_reserved, grammar_words}
use Rattle.model_meaning.specs.Term.{is_sort, is_width}
use Rattle.verilog_text.specs.Lexical.{is_word_byte, is_excluded}
use Rattle.term_expressions.specs.Expressions.{sized, plain}
use Rattle.v_print.specs.Reads.{is_printed}
use Rattle.v_print.specs.Spelled.{bit_of}
use Rattle.v_print.specs.Printable.{IsPrintable, IsPrintableName, IsPrintableRange, Each}
use Rattle.v_print.proofs.Numbers.{numeral_is}
use Rattle.v_print_source.proofs.Spread.{bit_small, bit_zero}
use Rattle.emitted_modules.specs.Rtl.{range_of_sort, addresses_of_sort}
use Rattle.emitted_modules.specs.Nodes.{word_name}

-- ---- lists

pub each_joined : {A : Type 0} (P : A → Type 0) (xs ys : List A) → Each P xs → Each P ys → Each P (xs ++ ys)
each_joined P [] ys h k = k
each_joined P (x ∷ xs) ys h k = (h.0, each_joined P xs ys h.1 k)

pub each_mapped : {A B : Type 0} (P : B → Type 0) (f : A → B) (xs : List A) → Each (λ x. P (f x)) xs → Each P (map f xs)
each_mapped P f [] h = tt
each_mapped P f (x ∷ xs) h = (h.0, each_mapped P f xs h.1)

pub each_when : {A : Type 0} (P : A → Type 0) (b : Bool) (xs : List A) → Each P xs → Each P (cond b xs [])
each_when P true xs h = h
each_when P false xs h = tt

pub each_if : {A : Type 0} (P : A → Type 0) (b : Bool) (x : A) → P x → Each P (cond b (x ∷ []) [])
each_if P b x h = each_when P b (x ∷ []) (h, tt)

pub of_both : {A : Type 0} (P : A → Type 0) (b : Bool) (x y : A) → P x → P y → P (cond b x y)
of_both P true x y h k = h
of_both P false x y h k = k

-- ---- tests

pub at_most : (a b : ℕ) → nat_le a b ≡ true → a ≤ b
at_most a b h = grind (arith, nat_tests, h)

pub not_true : (b : Bool) → not b ≡ true → b ≡ false
not_true true e = sym e
not_true false e = refl

-- ---- numbers

one_small : (a b c : ℕ) → a < 2 → b ≡ 0 → c ≡ 0 → a + b + c ≤ 1
one_small a b c h e f = omega (arith, h, e, f)

apart_from : (x k : ℕ) → bit_of x k + bit_of 0 k + bit_of 0 k ≤ 1
apart_from x k = one_small (bit_of x k) (bit_of 0 k) (bit_of 0 k) (bit_small x k) (bit_zero k) (bit_zero k)

pub sized_printed : (w x : ℕ) → 1 ≤ w → w ≤ 128 → x < 2 ^ w → IsPrintable (sized w x)
sized_printed w x some few fits =
    let same : w ≡ min w 128 = omega (arith, few) in
    record {
      some_bits = λ e. some;
      width_fits = omega (arith, few);
      plain_width = λ e. absurd (false≢true (sym e));
      value_fits = subst (λ k. x < 2 ^ k) same fits;
      unknown_fits = pow_pos (min w 128);
      wild_fits = pow_pos (min w 128);
      no_unknown = λ e. refl;
      no_wild = λ e. refl;
      apart = apart_from x;
    }

pub plain_printed : (x : ℕ) → x < 2 ^ 32 → IsPrintable (plain x)
plain_printed x fits = record {
  some_bits = λ e. absurd (false≢true e);
  width_fits = omega arith;
  plain_width = λ e. refl;
  value_fits = fits;
  unknown_fits = pow_pos 32;
  wild_fits = pow_pos 32;
  no_unknown = λ e. refl;
  no_wild = λ e. refl;
  apart = apart_from x;
}

-- ---- names

in_word : (b : ℕ) → is_name_byte b ≡ true → is_word_byte b ≡ true
in_word b h = by_or (is_letter b || is_digit b) (b == 36) h
  where
    by_or : (x y : Bool) → x ≡ true → (x || y) ≡ true
    by_or true y e = refl
    by_or false y e = absurd (false≢true e)

digit_in_name : (b : ℕ) → is_digit b ≡ true → is_name_byte b ≡ true
digit_in_name b h = by_or (is_letter b) (is_digit b) h
  where
    by_or : (x y : Bool) → y ≡ true → (x || y) ≡ true
    by_or true y e = refl
    by_or false y e = e

all_by : (p q : ℕ → Bool) → ((b : ℕ) → p b ≡ true → q b ≡ true) → (bs : List ℕ) → list_all p bs ≡ true → list_all q bs ≡ true
all_by p q f [] h = refl
all_by p q f (b ∷ bs) h =
    let parts = and_parts (p b) (list_all p bs) h in and_from (q b) (list_all q bs) (f b parts.0) (all_by p q f bs parts.1)

no_exclusion : (w : Name) → is_reserved w ≡ false → not (is_excluded w) ≡ true
no_exclusion w h = ap (λ b. not (b && not (list_any (bytes_eq w) grammar_words))) h

-- a legal name of a model
pub model_printed : (n : Name) → is_model_name n ≡ true → IsPrintableName n
unfolding is_printed
model_printed [] h = absurd (false≢true h)
model_printed (b ∷ bs) h =
    let outer = and_parts (begins_with is_letter (b ∷ bs) && list_all is_name_byte (b ∷ bs) && nat_le (length (b ∷ bs)) 64) (not (is_kept_word (b ∷ bs))) h in
    let inner = and_parts (begins_with is_letter (b ∷ bs) && list_all is_name_byte (b ∷ bs)) (nat_le (length (b ∷ bs)) 64) outer.0 in
    let front = and_parts (begins_with is_letter (b ∷ bs)) (list_all is_name_byte (b ∷ bs)) inner.0 in
    let bytes = and_parts (is_name_byte b) (list_all is_name_byte bs) front.1 in
    let free = (or_parts (is_reserved (b ∷ bs)) _ (or_parts _ (begins_with_wb (b ∷ bs)) (not_true (is_kept_word (b ∷ bs)) outer.1)).0).0 in
    record {
      is_written = and_from (is_letter b) _ front.0 (and_from (list_all is_word_byte bs) _ (all_by is_name_byte is_word_byte in_word bs bytes.1) (no_exclusion (b ∷ bs) free));
      is_free = free;
    }

-- a name that begins with wb_
own_printed : (rest : List ℕ) → list_all is_word_byte rest ≡ true → IsPrintableName (119 ∷ 98 ∷ 95 ∷ rest)
unfolding is_printed is_reserved
own_printed rest h = record { is_written = ap (λ b. b && true) h; is_free = refl }

pub control_printed : (rest : List ℕ) → list_all is_word_byte rest ≡ true → IsPrintableName (codes "wb_" ++ rest)
control_printed rest h = own_printed rest h

digits_in_words : (k : ℕ) → k < 2 ^ 64 → list_all is_word_byte (decimal k) ≡ true
digits_in_words k h = all_by is_digit is_word_byte (λ b e. in_word b (digit_in_name b e)) (decimal k) (numeral_is k (omega (arith, h))).are_digits

pub term_name_printed : (k : ℕ) → k < 2 ^ 64 → IsPrintableName (codes "wb_t" ++ decimal k)
term_name_printed k h = own_printed (116 ∷ decimal k) (digits_in_words k h)

pub none_name_printed : (k : ℕ) → k < 2 ^ 64 → IsPrintableName (codes "wb_none_" ++ decimal k)
none_name_printed k h = own_printed (codes "none_" ++ decimal k) (digits_in_words k h)

pub one_name_printed : (k : ℕ) → k < 2 ^ 64 → IsPrintableName (codes "wb_one_" ++ decimal k)
one_name_printed k h = own_printed (codes "one_" ++ decimal k) (digits_in_words k h)

bytes_joined : (xs ys : List ℕ) → list_all is_word_byte xs ≡ true → list_all is_word_byte ys ≡ true → list_all is_word_byte (xs ++ ys) ≡ true
bytes_joined [] ys h k = k
bytes_joined (x ∷ xs) ys h k =
    let p = and_parts (is_word_byte x) (list_all is_word_byte xs) h in
    and_from (is_word_byte x) (list_all is_word_byte (xs ++ ys)) p.0 (bytes_joined xs ys p.1 k)

behind_line : (ys : List ℕ) → list_all is_word_byte ys ≡ true → list_all is_word_byte (95 ∷ ys) ≡ true
behind_line ys h = and_from (is_word_byte 95) (list_all is_word_byte ys) refl h

pub word_name_printed : (l k : ℕ) → l < 2 ^ 64 → k < 2 ^ 64 → IsPrintableName (word_name l k)
word_name_printed l k h g =
    own_printed (codes "word_" ++ (decimal l ++ 95 ∷ decimal k))
    (bytes_joined (codes "word_") (decimal l ++ 95 ∷ decimal k) refl
    (bytes_joined (decimal l) (95 ∷ decimal k) (digits_in_words l h) (behind_line (decimal k) (digits_in_words k g))))

pub via_name_printed : (j k : ℕ) (n : Name) → j < 2 ^ 64 → k < 2 ^ 64 → list_all is_word_byte n ≡ true
    → IsPrintableName (codes "wb_via_" ++ decimal j ++ 95 ∷ (decimal k ++ 95 ∷ n))
via_name_printed j k n h g bytes =
    own_printed (codes "via_" ++ (decimal j ++ 95 ∷ (decimal k ++ 95 ∷ n)))
    (bytes_joined (codes "via_") (decimal j ++ 95 ∷ (decimal k ++ 95 ∷ n)) refl
    (bytes_joined (decimal j) (95 ∷ (decimal k ++ 95 ∷ n)) (digits_in_words j h)
    (behind_line (decimal k ++ 95 ∷ n) (bytes_joined (decimal k) (95 ∷ n) (digits_in_words k g) (behind_line n bytes)))))

-- the bytes of a legal name
pub model_bytes : (n : Name) → is_model_name n ≡ true → list_all is_word_byte n ≡ true
model_bytes n h =
    let outer = and_parts (begins_with is_letter n && list_all is_name_byte n && nat_le (length n) 64) (not (is_kept_word n)) h in
    let inner = and_parts (begins_with is_letter n && list_all is_name_byte n) (nat_le (length n) 64) outer.0 in
    all_by is_name_byte is_word_byte in_word n (and_parts (begins_with is_letter n) (list_all is_name_byte n) inner.0).1

-- ---- ranges

bits_range : (w : ℕ) → is_width w ≡ true → (IsPrintable (plain (w - 1))) × IsPrintable (plain 0)
bits_range w h =
    let p = and_parts (nat_le 1 w) (nat_le w 128) h in (plain_printed (w - 1) (omega (arith, at_most w 128 p.1)), plain_printed 0 (omega arith))

pub range_printed : (t : Sort) → IsTrue (is_sort t) → IsPrintableRange (range_of_sort t)
range_printed truth h = tt
range_printed (word w) h = bits_range w h
range_printed (memory a d) h = bits_range d (and_parts (nat_le 1 a && nat_le a 16) (is_width d) h).1

pub addresses_printed : (t : Sort) → IsTrue (is_sort t) → IsPrintableRange (addresses_of_sort t)
addresses_printed truth h = tt
addresses_printed (word w) h = tt
addresses_printed (memory a d) h =
    let p = and_parts (nat_le 1 a) (nat_le a 16) (and_parts (nat_le 1 a && nat_le a 16) (is_width d) h).0 in
    let low : 2 ^ a ≤ 2 ^ 16 = pow-le-pow_right {n = 2} (omega arith) {i = a} {j = 16} (at_most a 16 p.1) in
    (plain_printed 0 (omega arith), plain_printed (2 ^ a - 1) (omega (arith, low)))

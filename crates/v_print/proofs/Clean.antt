-- The printed tokens of printable trees are such as are printed, and no size among them is 0.
use Rattle.std.proofs.Common.{◌≡◌, ℕ, zero, suc, ◌+◌, ◌*◌, ◌^◌, ◌<◌, ◌≤◌, Bool, true, false, List, [], ◌∷◌, ◌++◌, length, refl, sym, ap, ◌∙◌, arith}
use Rattle.std.specs.Prelude.{cond, ◌&&◌, ◌||◌, ◌==◌, nat_lt, codes}
use Rattle.std.specs.List.{list_all}
use Rattle.std.specs.Fmt.{decimal as numeral}
use Rattle.std.proofs.lemmas.Bool.{and_parts, and_from, and_left, and_right, or_from, or_left, false_from_ne_true}
use Rattle.std.proofs.lemmas.List.{length-append}
use Rattle.std.proofs.lemmas.Bool.Decides.{nat_tests}
use Rattle.wb_values.specs.Value.{Name}
use Rattle.verilog_text.specs.Token.{Mark, left_parenthesis, right_parenthesis, left_bracket, right_bracket, left_brace, right_brace, comma, colon, question, plus_colon, minus_colon, Token, word, system, decimal, based, mark}
use Rattle.verilog_text.specs.Text.{is_zero}
use Rattle.verilog_text.specs.Spelling.{digit_value, is_silent, digits_from, kept_width}
use Rattle.verilog_trees.specs.Syntax as tree
use Rattle.verilog_trees.specs.Syntax.{Number, Expression, Expressions, no_expressions, expression, Select, Selects, whole, one, two}
use Rattle.v_print.specs.Reads.{is_bit_digit, is_printed_decimal, is_printed_binary, is_printed, are_printed}
use Rattle.v_print.specs.Whole.{begins_based, has_zero_size}
use Rattle.v_print.specs.Spelled.{is_plain, bit_digit, bit_of, bit_digits, cut_unknown, cut_wild, sign_text, based_text, size_before, number_before, level_of, opened, closed, parted, bracketed, bare, bare_parts, bare_select, bare_selects}
use Rattle.v_print.specs.Printable.{IsPrintableNumber, IsPrintable, ArePrintable, IsPrintableSelect, ArePrintableSelects}
use Rattle.v_print.proofs.Parts.{all_joined}
use Rattle.v_print.proofs.Numbers.{numeral_is, narrow, size_small}

pub record IsClean (ts : List Token) : Type 0 where
  pub printed : are_printed ts ≡ true
  pub sized : has_zero_size ts ≡ false

-- no based number in front
abbrev pub IsEnd : List Token → Type 0
IsEnd ts = begins_based ts ≡ false

pub clean_mark : (m : Mark) (q : List Token) → IsClean q → IsClean (mark m ∷ q)
unfolding is_printed
clean_mark m q h = record { printed = h.printed; sized = h.sized }

pub clean_word : (n : Name) (q : List Token) → is_printed (word n) ≡ true → IsClean q → IsClean (word n ∷ q)
clean_word n q p h = record { printed = and_from (is_printed (word n)) (are_printed q) p h.printed; sized = h.sized }

clean_system : (n : Name) (q : List Token) → is_printed (system n) ≡ true → IsClean q → IsClean (system n ∷ q)
clean_system n q p h = record { printed = and_from (is_printed (system n)) (are_printed q) p h.printed; sized = h.sized }

clean_based : (text : List ℕ) (q : List Token) → is_printed (based text) ≡ true → IsClean q → IsClean (based text ∷ q)
clean_based text q p h = record { printed = and_from (is_printed (based text)) (are_printed q) p h.printed; sized = h.sized }

clean_decimal : (text : List ℕ) (q : List Token) → is_printed (decimal text) ≡ true → (is_zero (decimal text) && begins_based q) ≡ false → IsClean q → IsClean (decimal text ∷ q)
clean_decimal text q p z h = record {
  printed = and_from (is_printed (decimal text)) (are_printed q) p h.printed;
  sized = or_from (is_zero (decimal text) && begins_based q) (has_zero_size q) z h.sized;
}

-- ---- numbers

-- zeros are worth nothing
silent_by : (b : ℕ) → (b == 48 || b == 95) ≡ true → (t : Bool) → is_silent b ≡ t → cond t 0 (0 * 10 + digit_value b) ≡ 0
silent_by b h true e = refl
silent_by b h false e = let z : b ≡ 48 = is_zero_digit b h e in ap (λ (c : ℕ). 0 * 10 + digit_value c) z
  where
    is_zero_digit : (b : ℕ) → (b == 48 || b == 95) ≡ true → is_silent b ≡ false → b ≡ 48
    is_zero_digit b h e = grind (arith, nat_tests)

zeros_worth : (ds : List ℕ) → list_all (λ b. b == 48 || b == 95) ds ≡ true → digits_from 10 digit_value 0 ds ≡ 0
zeros_worth [] h = refl
zeros_worth (b ∷ bs) h =
    let parts = and_parts (b == 48 || b == 95) (list_all (λ c. c == 48 || c == 95) bs) h in
    ap (λ (n : ℕ). digits_from 10 digit_value n bs) (silent_by b parts.0 (is_silent b) refl) ∙ zeros_worth bs parts.1

not_zero : (n : ℕ) → 1 ≤ n → n < 10 ^ 64 → is_zero (decimal (numeral n)) ≡ false
not_zero n h small =
    let k = numeral_is n small in
    false_from_ne_true (is_zero (decimal (numeral n))) (λ z. let none : n ≡ 0 = sym k.value ∙ zeros_worth (numeral n) z in absurd (omega (arith, h, none)))

bit_is_digit : (t u v : Bool) → is_bit_digit (cond t 120 (cond u 63 (cond v 49 48))) ≡ true
bit_is_digit true u v = refl
bit_is_digit false true v = refl
bit_is_digit false false true = refl
bit_is_digit false false false = refl

bits_are_digits : (k v u w : ℕ) → list_all is_bit_digit (bit_digits k v u w) ≡ true
unfolding bit_digits
bits_are_digits zero v u w = refl
bits_are_digits (suc k) v u w =
    and_from (is_bit_digit (bit_digit (bit_of v k) (bit_of u k) (bit_of w k))) (list_all is_bit_digit (bit_digits k v u w))
    (bit_is_digit (bit_of u k == 1) (bit_of w k == 1) (bit_of v k == 1)) (bits_are_digits k v u w)

cut_is_digits : (t : Bool) (d : ℕ) → is_bit_digit d ≡ true → list_all is_bit_digit (cond t (d ∷ []) []) ≡ true
cut_is_digits true d h = and_from (is_bit_digit d) true h refl
cut_is_digits false d h = refl

-- a digit at least, since there is a bit at least
written_binary : (ds : List ℕ) → list_all is_bit_digit ds ≡ true → 1 ≤ length ds → is_printed_binary ds ≡ true
written_binary [] h l = absurd (none l)
  where
    none : 1 ≤ 0 → ⊥
    none l = omega (arith, l)
written_binary (d ∷ ds) h l = h

bits_length : (k v u w : ℕ) → length (bit_digits k v u w) ≡ k
unfolding bit_digits
bits_length zero v u w = refl
bits_length (suc k) v u w = ap (λ (n : ℕ). suc n) (bits_length k v u w)

some_bit : (n : Number) → IsPrintableNumber n → 1 ≤ kept_width n.width
some_bit n p = by n.sized refl
  where
    by : (s : Bool) → n.sized ≡ s → 1 ≤ kept_width n.width
    by true e = let h = p.some_bits e in omega (arith, h)
    by false e = let h = p.plain_width e in omega (arith, h)

binary_written : (n : Number) → IsPrintableNumber n → is_printed_binary (cut_unknown n ++ (cut_wild n ++ bit_digits (kept_width n.width) n.value n.unknown n.wild)) ≡ true
binary_written n p =
    let bits = bit_digits (kept_width n.width) n.value n.unknown n.wild in
    written_binary (cut_unknown n ++ (cut_wild n ++ bits))
    (all_joined is_bit_digit (cut_unknown n) (cut_wild n ++ bits) (cut_is_digits (n.has_unknown && n.unknown == 0) 120 refl)
    (all_joined is_bit_digit (cut_wild n) bits (cut_is_digits (n.has_wild && n.wild == 0) 63 refl) (bits_are_digits (kept_width n.width) n.value n.unknown n.wild)))
    (enough (length (cut_unknown n)) (length (cut_wild n)) (length bits) (length (cut_wild n ++ bits)) (length (cut_unknown n ++ (cut_wild n ++ bits)))
    (length-append (cut_unknown n) (cut_wild n ++ bits)) (length-append (cut_wild n) bits) (bits_length (kept_width n.width) n.value n.unknown n.wild) (some_bit n p))
  where
    enough : (a b c d e : ℕ) → e ≡ a + d → d ≡ b + c → c ≡ kept_width n.width → 1 ≤ kept_width n.width → 1 ≤ e
    enough a b c d e p q r s = omega (arith, p, q, r, s)

text_written : (n : Number) → IsPrintableNumber n → (s h : Bool)
    → is_printed (based (39 ∷ (sign_text s ++ cond h (98 ∷ (cut_unknown n ++ (cut_wild n ++ bit_digits (kept_width n.width) n.value n.unknown n.wild))) (100 ∷ numeral n.value)))) ≡ true
unfolding is_printed
text_written n p true true = or_left (is_printed_binary (cut_unknown n ++ (cut_wild n ++ bit_digits (kept_width n.width) n.value n.unknown n.wild))) _ (binary_written n p)
text_written n p true false = or_left (is_printed_decimal (numeral n.value) || false) _ (or_left (is_printed_decimal (numeral n.value)) false (numeral_is n.value (narrow n.value n.width p.value_fits)).is_written)
text_written n p false true = binary_written n p
text_written n p false false = or_left (is_printed_decimal (numeral n.value)) false (numeral_is n.value (narrow n.value n.width p.value_fits)).is_written

based_clean : (n : Number) → IsPrintableNumber n → (r : List Token) → IsClean r → IsClean (based (based_text n) ∷ r)
based_clean n p r h = clean_based (based_text n) r (text_written n p n.signed (n.has_unknown || n.has_wild)) h

numeral_printed : (n : ℕ) → n < 10 ^ 64 → is_printed (decimal (numeral n)) ≡ true
unfolding is_printed
numeral_printed n h = (numeral_is n h).is_written

size_clean : (n : Number) → IsPrintableNumber n → (r : List Token) (s : Bool) → n.sized ≡ s → IsClean r → IsClean (cond s (decimal (numeral n.width) ∷ based (based_text n) ∷ r) (based (based_text n) ∷ r))
size_clean n p r true e h =
    clean_decimal (numeral n.width) (based (based_text n) ∷ r) (numeral_printed n.width (size_small n p))
    (and_left (is_zero (decimal (numeral n.width))) true (not_zero n.width (p.some_bits e) (size_small n p))) (based_clean n p r h)
size_clean n p r false e h = based_clean n p r h

number_clean : (n : Number) → IsPrintableNumber n → (r : List Token) → IsClean r → IsEnd r → IsClean (number_before n r)
unfolding number_before
number_clean n p r h end = by (is_plain n)
  where
    by : (t : Bool) → IsClean (cond t (decimal (numeral n.value) ∷ r) (size_before n (based (based_text n) ∷ r)))
    by true = clean_decimal (numeral n.value) r (numeral_printed n.value (narrow n.value n.width p.value_fits)) (and_right (is_zero (decimal (numeral n.value))) (begins_based r) end) h
    by false = size_clean n p r n.sized refl h

-- ---- brackets and commas

pub opened_clean : (b : Bool) (q : List Token) → IsClean q → IsClean (opened b q)
opened_clean true q h = clean_mark left_parenthesis q h
opened_clean false q h = h

closed_clean : (b : Bool) (q : List Token) → IsClean q → IsClean (closed b q)
closed_clean true q h = clean_mark right_parenthesis q h
closed_clean false q h = h

closed_end : (b : Bool) (q : List Token) → IsEnd q → IsEnd (closed b q)
closed_end true q h = refl
closed_end false q h = h

pub parted_clean : (b : Bool) (q : List Token) → IsClean q → IsClean (parted b q)
parted_clean true q h = clean_mark comma q h
parted_clean false q h = h

-- tokens that are clean in front of what is clean and no based number
abbrev pub Cleans : (List Token → List Token) → Type 0
Cleans f = (r : List Token) → IsClean r → IsEnd r → IsClean (f r)

bracketed_clean : (b : Bool) (f : List Token → List Token) → Cleans f → Cleans (bracketed b f)
bracketed_clean b f h r c e = opened_clean b (f (closed b r)) (h (closed b r) (closed_clean b r c) (closed_end b r e))

joint_clean : (b d : Bool) (m : Mark) (f g : List Token → List Token) → Cleans f → Cleans g → Cleans (λ r. bracketed b f (mark m ∷ bracketed d g r))
joint_clean b d m f g hf hg r c e = bracketed_clean b f hf (mark m ∷ bracketed d g r) (clean_mark m (bracketed d g r) (bracketed_clean d g hg r c e)) refl

signed_word : is_printed (system (codes "$signed")) ≡ true
unfolding is_printed
signed_word = refl

unsigned_word : is_printed (system (codes "$unsigned")) ≡ true
unfolding is_printed
unsigned_word = refl

-- ---- expressions

mutual
  pub bare_clean : (e : Expression) → IsPrintable e → (r : List Token) → IsClean r → IsEnd r → IsClean (bare e r)
  bare_clean (tree.number n) p r c e = number_clean n p r c e
  bare_clean (tree.name n s) p r c e = clean_word n (bare_selects s r) p.0.is_written (selects_clean s p.1 r c)
  bare_clean (tree.concatenation es) p r c e =
      clean_mark left_brace (bare_parts false es (mark right_brace ∷ r)) (parts_clean false es p.1 (mark right_brace ∷ r) (clean_mark right_brace r c) refl)
  bare_clean (tree.replication k es) p r c e =
      let closing = mark right_brace ∷ mark right_brace ∷ r in
      let parts = bare_parts false es closing in
      clean_mark left_brace (bare k (mark left_brace ∷ parts))
      (bare_clean k p.0 (mark left_brace ∷ parts) (clean_mark left_brace parts (parts_clean false es p.2 closing (clean_mark right_brace (mark right_brace ∷ r) (clean_mark right_brace r c)) refl)) refl)
  bare_clean (tree.as_signed x) p r c e =
      clean_system (codes "$signed") (mark left_parenthesis ∷ bare x (mark right_parenthesis ∷ r)) signed_word
      (clean_mark left_parenthesis (bare x (mark right_parenthesis ∷ r)) (bare_clean x p (mark right_parenthesis ∷ r) (clean_mark right_parenthesis r c) refl))
  bare_clean (tree.as_unsigned x) p r c e =
      clean_system (codes "$unsigned") (mark left_parenthesis ∷ bare x (mark right_parenthesis ∷ r)) unsigned_word
      (clean_mark left_parenthesis (bare x (mark right_parenthesis ∷ r)) (bare_clean x p (mark right_parenthesis ∷ r) (clean_mark right_parenthesis r c) refl))
  bare_clean (tree.unary o x) p r c e = clean_mark _ _ (bracketed_clean (nat_lt (level_of x) 12) (bare x) (bare_clean x p) r c e)
  bare_clean (tree.reduction o x) p r c e = clean_mark _ _ (bracketed_clean (nat_lt (level_of x) 12) (bare x) (bare_clean x p) r c e)
  bare_clean (tree.binary o x y) p r c e = joint_clean _ _ _ (bare x) (bare y) (bare_clean x p.0) (bare_clean y p.1) r c e
  bare_clean (tree.shift o x y) p r c e = joint_clean _ _ _ (bare x) (bare y) (bare_clean x p.0) (bare_clean y p.1) r c e
  bare_clean (tree.power x y) p r c e = joint_clean _ _ _ (bare x) (bare y) (bare_clean x p.0) (bare_clean y p.1) r c e
  bare_clean (tree.comparison o x y) p r c e = joint_clean _ _ _ (bare x) (bare y) (bare_clean x p.0) (bare_clean y p.1) r c e
  bare_clean (tree.logical o x y) p r c e = joint_clean _ _ _ (bare x) (bare y) (bare_clean x p.0) (bare_clean y p.1) r c e
  bare_clean (tree.conditional k x y) p r c e =
      let other = mark colon ∷ bare y r in
      let value = mark question ∷ bare x other in
      bracketed_clean (nat_lt (level_of k) 1) (bare k) (bare_clean k p.0) value
      (clean_mark question (bare x other) (bare_clean x p.1 other (clean_mark colon (bare y r) (bare_clean y p.2 r c e)) refl)) refl

  pub parts_clean : (b : Bool) (es : Expressions) → ArePrintable es → (r : List Token) → IsClean r → IsEnd r → IsClean (bare_parts b es r)
  parts_clean b no_expressions p r c e = c
  parts_clean b (expression x no_expressions) p r c e = parted_clean b (bare x r) (bare_clean x p.0 r c e)
  parts_clean b (expression x (expression y es)) p r c e =
      let more = bare_parts true (expression y es) r in
      parted_clean b (bare x more) (bare_clean x p.0 more (parts_clean true (expression y es) p.1 r c e) refl)

  pub select_clean : (s : Select) → IsPrintableSelect s → (r : List Token) → IsClean r → IsClean (bare_select s r)
  select_clean (tree.index x) p r c =
      clean_mark left_bracket (bare x (mark right_bracket ∷ r)) (bare_clean x p (mark right_bracket ∷ r) (clean_mark right_bracket r c) refl)
  select_clean (tree.part x y) p r c =
      let more = bare y (mark right_bracket ∷ r) in
      clean_mark left_bracket (bare x (mark colon ∷ more)) (bare_clean x p.0 (mark colon ∷ more) (clean_mark colon more (bare_clean y p.1 (mark right_bracket ∷ r) (clean_mark right_bracket r c) refl)) refl)
  select_clean (tree.part_up x y) p r c =
      let more = bare y (mark right_bracket ∷ r) in
      clean_mark left_bracket (bare x (mark plus_colon ∷ more)) (bare_clean x p.0 (mark plus_colon ∷ more) (clean_mark plus_colon more (bare_clean y p.1 (mark right_bracket ∷ r) (clean_mark right_bracket r c) refl)) refl)
  select_clean (tree.part_down x y) p r c =
      let more = bare y (mark right_bracket ∷ r) in
      clean_mark left_bracket (bare x (mark minus_colon ∷ more)) (bare_clean x p.0 (mark minus_colon ∷ more) (clean_mark minus_colon more (bare_clean y p.1 (mark right_bracket ∷ r) (clean_mark right_bracket r c) refl)) refl)

  pub selects_clean : (s : Selects) → ArePrintableSelects s → (r : List Token) → IsClean r → IsClean (bare_selects s r)
  selects_clean whole p r c = c
  selects_clean (one s) p r c = select_clean s p r c
  selects_clean (two s t) p r c = select_clean s p.0 (bare_select t r) (select_clean t p.1 r c)

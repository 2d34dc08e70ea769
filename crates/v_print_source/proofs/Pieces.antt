-- What stands at the front of a text is a token as texts have them, or none.
use Rattle.std.proofs.Common.{◌≡◌, ℕ, zero, suc, ◌+◌, Bool, true, false, List, [], ◌∷◌, take, drop, Option, Some, None, refl, sym, ap, subst, arith}
use Rattle.std.specs.Prelude.{cond, not, ◌&&◌, ◌||◌, ◌==◌, codes, option_map}
use Rattle.std.specs.List.{list_all, list_any}
use Rattle.std.proofs.lemmas.Bool.{and_parts, and_from}
use Rattle.std.proofs.lemmas.Bool.Decides.{nat_tests}
use Rattle.wb_values.specs.Value.{Name, same_name}
use Rattle.wb_values.specs.Names.{is_letter, is_digit, begins_with}
use Rattle.verilog_text.specs.Token.{Mark, marks, word, system}
use Rattle.verilog_text.specs.Lexical.{Piece, nothing, token, excluded, misdirected, define, undefine, if_defined, else_if, use_of, Front, is_word_byte, is_decimal_byte, run_length, is_blank_before, blank_length, further, if_closed, longest_of, mark_front, mark_at, is_excluded, word_piece, word_front, number_front, real_length, number_at, is_base, is_digit_of, runs_on, are_digits_of, digits_length, base_length, behind_quote, based_of, based_at, system_piece, system_at, string_length, is_graphic, escaped_at, closing_length, line_length, slash_at, is_star_alone, bracket_at, passed_length, definition_length, name_behind, with_name, definition_of, definition_from, definition_at, conditional_directive_at, is_line_word, directive_from, directive_of, directive_at, conditional_behind, read_at, left_out_at}
use Rattle.verilog_text.specs.Spelling.{is_silent}
use Rattle.v_print.specs.Reads.{is_printed}
use Rattle.v_print_source.proofs.Lexed.{is_digit_or_silent, is_sign, IsBased, IsQuoted, behind_sign, without_sign, IsLexed}

-- a piece that is a token is one as texts have them
abbrev pub IsFine : Piece → Type 0
IsFine (token t) = IsLexed t
IsFine _ = Unit {0}

abbrev pub IsFineFront : Front → Type 0
IsFineFront (Some f) = IsFine f.0
IsFineFront None = Unit {0}

-- whichever way a test goes
pub either_way : {A : Type 0} (P : A → Type 0) (t : Bool) (x y : A) → (t ≡ true → P x) → (t ≡ false → P y) → P (cond t x y)
either_way P true x y h g = h refl
either_way P false x y h g = g refl

-- ---- runs of bytes

run_by : (p q : ℕ → Bool) (b : ℕ) (bs : List ℕ) (t : Bool) → p b ≡ t → (p b ≡ true → q b ≡ true) → list_all q (take (run_length p bs) bs) ≡ true
    → list_all q (take (cond t (suc (run_length p bs)) 0) (b ∷ bs)) ≡ true
run_by p q b bs true e stronger h = and_from (q b) (list_all q (take (run_length p bs) bs)) (stronger e) h
run_by p q b bs false e stronger h = refl

run_all : (p q : ℕ → Bool) → ((b : ℕ) → p b ≡ true → q b ≡ true) → (text : List ℕ) → list_all q (take (run_length p text) text) ≡ true
unfolding run_length
run_all p q stronger [] = refl
run_all p q stronger (b ∷ bs) = run_by p q b bs (p b) refl (stronger b) (run_all p q stronger bs)

blank_silent : (is_macro : Bool) (b : ℕ) (bs : List ℕ) → is_blank_before is_macro b bs ≡ true → is_silent b ≡ true
blank_silent is_macro b bs h = grind (arith, nat_tests)

silent_either : (base b : ℕ) → is_silent b ≡ true → is_digit_or_silent base b ≡ true
silent_either base b h = ap (λ (t : Bool). t || is_digit_of base b) h

blank_by : (base : ℕ) (m : Bool) (b : ℕ) (bs : List ℕ) (t : Bool) → is_blank_before m b bs ≡ t → list_all (is_digit_or_silent base) (take (blank_length m bs) bs) ≡ true
    → list_all (is_digit_or_silent base) (take (cond t (suc (blank_length m bs)) 0) (b ∷ bs)) ≡ true
blank_by base m b bs true e h =
    and_from (is_digit_or_silent base b) (list_all (is_digit_or_silent base) (take (blank_length m bs) bs)) (silent_either base b (blank_silent m b bs e)) h
blank_by base m b bs false e h = refl

blanks_silent : (base : ℕ) (m : Bool) (text : List ℕ) → list_all (is_digit_or_silent base) (take (blank_length m text) text) ≡ true
unfolding blank_length
blanks_silent base m [] = refl
blanks_silent base m (b ∷ bs) = blank_by base m b bs (is_blank_before m b bs) refl (blanks_silent base m bs)

-- one front and then another
two_parts : (p : ℕ → Bool) (m n : ℕ) (text : List ℕ) → list_all p (take m text) ≡ true → list_all p (take n (drop m text)) ≡ true → list_all p (take (m + n) text) ≡ true
two_parts p zero n text h g = let e : 0 + n ≡ n = omega arith in subst (λ k. list_all p (take k text) ≡ true) (sym e) g
two_parts p (suc m) n [] h g = let e : suc m + n ≡ suc (m + n) = omega arith in subst (λ k. list_all p (take k []) ≡ true) (sym e) refl
two_parts p (suc m) n (b ∷ bs) h g =
    let e : suc m + n ≡ suc (m + n) = omega arith in
    let parts = and_parts (p b) (list_all p (take m bs)) h in
    subst (λ k. list_all p (take k (b ∷ bs)) ≡ true) (sym e) (and_from (p b) (list_all p (take (m + n) bs)) parts.0 (two_parts p m n bs parts.1 g))

weaker : (p q : ℕ → Bool) → ((b : ℕ) → p b ≡ true → q b ≡ true) → (bs : List ℕ) → list_all p bs ≡ true → list_all q bs ≡ true
weaker p q f [] h = refl
weaker p q f (b ∷ bs) h =
    let parts = and_parts (p b) (list_all p bs) h in
    and_from (q b) (list_all q bs) (f b parts.0) (weaker p q f bs parts.1)

-- ---- numbers

digit_or_underscore : (base b : ℕ) → (is_digit_of base b || b == 95) ≡ true → is_digit_or_silent base b ≡ true
digit_or_underscore base b h = by (is_digit_of base b) (b == 95) (is_silent b) h (λ e. underscore_silent b e)
  where
    underscore_silent : (b : ℕ) → (b == 95) ≡ true → is_silent b ≡ true
    underscore_silent b h = grind (arith, nat_tests)

    by : (t s u : Bool) → (t || s) ≡ true → (s ≡ true → u ≡ true) → (u || t) ≡ true
    by true s true h f = refl
    by true s false h f = refl
    by false s u h f = ap (λ (x : Bool). x || false) (f h)

digits_silent : (base : ℕ) (text : List ℕ) → are_digits_of base text ≡ true → list_all (is_digit_or_silent base) text ≡ true
unfolding are_digits_of
digits_silent base text h =
    weaker (λ b. is_digit_of base b || b == 95) (is_digit_or_silent base) (digit_or_underscore base) text
    (and_parts (list_any (is_digit_of base) text) (list_all (λ b. is_digit_of base b || b == 95) text) h).1

-- where there is a length, the front of that length is so
abbrev IsFront : (List ℕ → Type 0) → List ℕ → Option ℕ → Type 0
IsFront P text (Some n) = P (take n text)
IsFront P text None = Unit {0}

abbrev AreKept : ℕ → List ℕ → Type 0
AreKept base ds = list_all (is_digit_or_silent base) ds ≡ true

digits_kept : (m : Bool) (base : ℕ) (text : List ℕ) → IsFront (AreKept base) text (digits_length m base text)
unfolding digits_length
digits_kept m base text =
    let n = blank_length m text in
    let more = run_length (runs_on base) (drop n text) in
    either_way (IsFront (AreKept base) text) (are_digits_of base (take more (drop n text))) (Some (n + more)) None
    (λ h. two_parts (is_digit_or_silent base) n more text (blanks_silent base m text) (digits_silent base (take more (drop n text)) h)) (λ _. tt)

behind_base : (b : ℕ) (bs : List ℕ) (o : Option ℕ) → is_base b ≡ true → IsFront (AreKept b) bs o → IsFront IsBased (b ∷ bs) (option_map suc o)
behind_base b bs None h g = tt
behind_base b bs (Some n) h g = (h, g)

base_kept : (m : Bool) (text : List ℕ) → IsFront IsBased text (base_length m text)
unfolding base_length
base_kept m [] = tt
base_kept m (b ∷ bs) =
    either_way (IsFront IsBased (b ∷ bs)) (is_base b) (option_map suc (digits_length m b bs)) None (λ h. behind_base b bs (digits_length m b bs) h (digits_kept m b bs)) (λ _. tt)

abbrev IsQuotedBy : ℕ → List ℕ → Type 0
IsQuotedBy quote text = IsQuoted (quote ∷ text)

signed_quote : (quote s : ℕ) (bs : List ℕ) (o : Option ℕ) → is_sign s ≡ true → IsFront IsBased bs o → IsFront (IsQuotedBy quote) (s ∷ bs) (option_map suc o)
signed_quote quote s bs None h g = tt
signed_quote quote s bs (Some n) h g = behind_sign quote s (take n bs) h g

-- the front of a text that has a byte
plain_taken : (quote b : ℕ) (bs : List ℕ) (n : ℕ) → is_sign b ≡ false → IsBased (take n (b ∷ bs)) → IsQuoted (quote ∷ take n (b ∷ bs))
plain_taken quote b bs zero h g = absurd g
plain_taken quote b bs (suc n) h g = without_sign quote b (take n bs) h g

plain_quote : (quote b : ℕ) (bs : List ℕ) (o : Option ℕ) → is_sign b ≡ false → IsFront IsBased (b ∷ bs) o → IsFront (IsQuotedBy quote) (b ∷ bs) o
plain_quote quote b bs None h g = tt
plain_quote quote b bs (Some n) h g = plain_taken quote b bs n h g

quote_kept : (m : Bool) (quote : ℕ) (text : List ℕ) → IsFront (IsQuotedBy quote) text (behind_quote m text)
unfolding behind_quote
quote_kept m quote [] = tt
quote_kept m quote (b ∷ bs) =
    either_way (IsFront (IsQuotedBy quote) (b ∷ bs)) (is_sign b) (option_map suc (base_length m bs)) (base_length m (b ∷ bs))
    (λ h. signed_quote quote b bs (base_length m bs) h (base_kept m bs)) (λ h. plain_quote quote b bs (base_length m (b ∷ bs)) h (base_kept m (b ∷ bs)))

based_by : (b : ℕ) (bs : List ℕ) (o : Option ℕ) → IsFront (IsQuotedBy b) bs o → IsFineFront (based_of b bs o)
based_by b bs None h = tt
based_by b bs (Some n) h = h

based_fine : (m : Bool) (b : ℕ) (bs : List ℕ) → IsFineFront (based_at m b bs)
unfolding based_at
based_fine m b bs = based_by b bs (behind_quote m bs) (quote_kept m b bs)

decimal_digit : (b : ℕ) → is_digit b ≡ true → is_decimal_byte b ≡ true
decimal_digit b h = ap (λ (t : Bool). t || b == 95) h

number_by : (b : ℕ) (bs : List ℕ) (o : Option ℕ) → is_digit b ≡ true → IsFineFront (number_front b bs (run_length is_decimal_byte bs) o)
number_by b bs (Some k) h = tt
number_by b bs None h =
    and_from (is_decimal_byte b) (list_all is_decimal_byte (take (run_length is_decimal_byte bs) bs)) (decimal_digit b h) (run_all is_decimal_byte is_decimal_byte (λ c g. g) bs)

number_fine : (b : ℕ) (bs : List ℕ) → is_digit b ≡ true → IsFineFront (number_at b bs)
unfolding number_at
number_fine b bs h = number_by b bs (real_length (drop (run_length is_decimal_byte bs) bs)) h

-- ---- words

word_fine : (b : ℕ) (bs : List ℕ) → is_letter b ≡ true → IsFineFront (word_front b bs)
unfolding word_front word_piece is_printed
word_fine b bs h =
    let n = b ∷ take (run_length is_word_byte bs) bs in
    either_way IsFine (is_excluded n) excluded (token (word n)) (λ _. tt)
    (λ e. and_from (is_letter b) (list_all is_word_byte (take (run_length is_word_byte bs) bs) && not (is_excluded n)) h
    (and_from (list_all is_word_byte (take (run_length is_word_byte bs) bs)) (not (is_excluded n)) (run_all is_word_byte is_word_byte (λ c g. g) bs) (ap not e)))

system_fine : (b : ℕ) (bs : List ℕ) → IsFineFront (system_at b bs)
unfolding system_at system_piece
system_fine b bs =
    let n = b ∷ take (run_length is_word_byte bs) bs in
    either_way IsFineFront (begins_with is_word_byte bs) (Some (system_piece n, run_length is_word_byte bs)) None
    (λ _. either_way IsFine (same_name n (codes "$signed") || same_name n (codes "$unsigned")) (token (system n)) excluded (λ _. tt) (λ _. tt)) (λ _. tt)

-- ---- what is no token of these

closed_fine : (p : Piece) (o : Option ℕ) → IsFine p → IsFineFront (if_closed p o)
closed_fine p None h = tt
closed_fine p (Some n) h = h

escaped_fine : (bs : List ℕ) → IsFineFront (escaped_at bs)
unfolding escaped_at
escaped_fine bs = either_way IsFineFront (begins_with is_graphic bs) (Some (excluded, run_length is_graphic bs)) None (λ _. tt) (λ _. tt)

further_fine : (n : ℕ) (f : Front) → IsFineFront f → IsFineFront (further n f)
further_fine n None h = tt
further_fine n (Some f) h = h

named_fine : (g : Name → Piece) → ((n : Name) → IsFine (g n)) → (o : Option (Name × ℕ)) → IsFineFront (with_name g o)
named_fine g h None = tt
named_fine g h (Some n) = h n.0

definition_fine : (n : Name) (text : List ℕ) (o : Option ℕ) → IsFineFront (definition_of n text o)
definition_fine n text None = tt
definition_fine n text (Some k) = either_way IsFine (begins_with (λ b. b == 40) text) misdirected (define n (take k text)) (λ _. tt) (λ _. tt)

definition_from_fine : (text : List ℕ) (o : Option (Name × ℕ)) → IsFineFront (definition_from text o)
definition_from_fine text None = tt
definition_from_fine text (Some n) =
    further_fine n.1 (definition_of n.0 (drop n.1 text) (definition_length 0 (drop n.1 text))) (definition_fine n.0 (drop n.1 text) (definition_length 0 (drop n.1 text)))

conditional_fine : (w : Name) (text : List ℕ) (other : Front) → IsFineFront other → IsFineFront (conditional_directive_at w text other)
unfolding conditional_directive_at
conditional_fine w text other h =
    either_way IsFineFront (same_name w (codes "ifdef")) _ _ (λ _. named_fine (if_defined true) (λ n. tt) (name_behind text)) (λ _.
    either_way IsFineFront (same_name w (codes "ifndef")) _ _ (λ _. named_fine (if_defined false) (λ n. tt) (name_behind text)) (λ _.
    either_way IsFineFront (same_name w (codes "elsif")) _ _ (λ _. named_fine else_if (λ n. tt) (name_behind text)) (λ _.
    either_way IsFineFront (same_name w (codes "else")) _ _ (λ _. tt) (λ _.
    either_way IsFineFront (same_name w (codes "endif")) _ _ (λ _. tt) (λ _. h)))))

directive_from_fine : (w : Name) (text : List ℕ) → IsFineFront (directive_from w text)
unfolding directive_from definition_at
directive_from_fine w text =
    either_way IsFineFront (same_name w (codes "define")) _ _ (λ _. definition_from_fine text (name_behind text)) (λ _.
    either_way IsFineFront (same_name w (codes "undef")) _ _ (λ _. named_fine undefine (λ n. tt) (name_behind text)) (λ _.
    either_way IsFineFront (is_line_word w) (Some (nothing, line_length text)) (Some (use_of w, 0)) (λ _. tt) (λ _. tt)))

directive_fine : (text : List ℕ) → IsFineFront (directive_at text)
unfolding directive_at
directive_fine text =
    let w = take (run_length is_word_byte text) text in
    let rest = drop (run_length is_word_byte text) text in
    either_way IsFineFront (begins_with is_letter text) (further (run_length is_word_byte text) (directive_of w rest)) None
    (λ _. further_fine (run_length is_word_byte text) (directive_of w rest) (conditional_fine w rest (directive_from w rest) (directive_from_fine w rest))) (λ _. tt)

slash_fine : (bs : List ℕ) → IsFineFront (slash_at bs)
unfolding slash_at
slash_fine [] = tt
slash_fine (b ∷ bs) =
    either_way IsFineFront (b == 47) _ _ (λ _. tt) (λ _.
    either_way IsFineFront (b == 42) _ _ (λ _. closed_fine nothing (option_map suc (closing_length 42 47 false bs)) tt) (λ _. tt))

bracket_fine : (m : Bool) (bs : List ℕ) → IsFineFront (bracket_at m bs)
unfolding bracket_at
bracket_fine m [] = tt
bracket_fine m (b ∷ bs) =
    either_way IsFineFront (b == 42 && not (is_star_alone m bs)) _ _ (λ _. closed_fine nothing (option_map suc (closing_length 42 41 false bs)) tt) (λ _. tt)

mark_by : (o : Option Mark) → IsFineFront (mark_front o)
mark_by None = tt
mark_by (Some m) = tt

mark_fine : (b : ℕ) (bs : List ℕ) → IsFineFront (mark_at b bs)
unfolding mark_at
mark_fine b bs = mark_by (longest_of marks (b ∷ bs))

-- ---- all fronts

pub read_fine : (m : Bool) (b : ℕ) (bs : List ℕ) → IsFineFront (read_at m b bs)
unfolding read_at
read_fine m b bs =
    either_way IsFineFront (is_blank_before m b bs) _ _ (λ _. tt) (λ _.
    either_way IsFineFront (is_letter b) _ _ (λ h. word_fine b bs h) (λ _.
    either_way IsFineFront (is_digit b) _ _ (λ h. number_fine b bs h) (λ _.
    either_way IsFineFront (b == 39) _ _ (λ _. based_fine m b bs) (λ _.
    either_way IsFineFront (b == 34) _ _ (λ _. closed_fine excluded (string_length false bs) tt) (λ _.
    either_way IsFineFront (b == 36) _ _ (λ _. system_fine b bs) (λ _.
    either_way IsFineFront (b == 92) _ _ (λ _. escaped_fine bs) (λ _.
    either_way IsFineFront (b == 96) _ _ (λ _. directive_fine bs) (λ _.
    either_way IsFineFront (b == 47) _ _ (λ _. slash_fine bs) (λ _.
    either_way IsFineFront (b == 40) _ _ (λ _. bracket_fine m bs) (λ _. mark_fine b bs))))))))))

pub left_out_fine : (b : ℕ) (bs : List ℕ) → IsFineFront (left_out_at b bs)
unfolding left_out_at conditional_behind
left_out_fine b bs =
    let w = take (run_length is_word_byte bs) bs in
    let rest = drop (run_length is_word_byte bs) bs in
    either_way IsFineFront (b == 96) _ _
    (λ _. further_fine (run_length is_word_byte bs) (conditional_directive_at w rest (Some (nothing, 0))) (conditional_fine w rest (Some (nothing, 0)) tt)) (λ _.
    either_way IsFineFront (b == 47 && begins_with (λ c. c == 47) bs) _ _ (λ _. tt) (λ _. closed_fine nothing (passed_length b bs) tt))

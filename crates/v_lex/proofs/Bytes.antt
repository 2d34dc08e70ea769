-- Tokens are ASCII.
use Rattle.std.proofs.Common.{◌≡◌, ℕ, zero, suc, ◌+◌, ◌-◌, Bool, true, false, cond, ◌&&◌, ◌||◌, ◌==◌, List, [], ◌∷◌, length, take, drop, Option, Some, None, refl, sym, ap, ◌∙◌, subst, arith}
use Rattle.std.proofs.lemmas.Bool.Decides.{nat_tests}
use Rattle.std.specs.Prelude.{option_map, slice_get}
use Rattle.std.specs.List.{list_all}
use Rattle.std.specs.Char.{is_ascii}
use Rattle.std.specs.Str.{IsAscii, IsUtf8}
use Rattle.std.proofs.lemmas.Str.{IsUtf8-from_ascii}
use Rattle.wb_values.specs.Names.{is_letter, is_digit, begins_with}
use Rattle.v_lex.specs.View.{rest_after, taken}
use Rattle.v_lex.proofs.Texts.{token_text, some_rest}
use Rattle.verilog_text.specs.Lexical.{is_word_byte, is_decimal_byte, is_blank_before, run_length, blank_length, is_base, runs_on, digits_length, base_length, behind_quote}

letter_below : (b : ℕ) → is_letter b ≡ true → is_ascii b ≡ true
letter_below b h = grind (arith, nat_tests)

digit_below : (b : ℕ) → is_digit b ≡ true → is_ascii b ≡ true
digit_below b h = grind (arith, nat_tests)

word_below : (b : ℕ) → is_word_byte b ≡ true → is_ascii b ≡ true
word_below b h = grind (arith, nat_tests)

decimal_below : (b : ℕ) → is_decimal_byte b ≡ true → is_ascii b ≡ true
decimal_below b h = grind (arith, nat_tests)

base_below : (b : ℕ) → is_base b ≡ true → is_ascii b ≡ true
base_below b h = grind (arith, nat_tests)

sign_below : (b : ℕ) → (b == 115 || b == 83) ≡ true → is_ascii b ≡ true
sign_below b h = grind (arith, nat_tests)

runs_below : (base b : ℕ) → runs_on base b ≡ true → is_ascii b ≡ true
runs_below base b h = grind (arith, nat_tests)

blank_below : (is_macro : Bool) (b : ℕ) (bs : List ℕ) → is_blank_before is_macro b bs ≡ true → is_ascii b ≡ true
blank_below is_macro b bs h = grind (arith, nat_tests)

both : (a b : Bool) → a ≡ true → b ≡ true → (a && b) ≡ true
both _ _ h g = rw (h, g) refl

-- a byte that goes on with a run, or ends it
run_by : (p : ℕ → Bool) (b : ℕ) (bs : List ℕ) (t : Bool) → p b ≡ t → (p b ≡ true → is_ascii b ≡ true) → list_all is_ascii (take (run_length p bs) bs) ≡ true
    → list_all is_ascii (take (cond t (suc (run_length p bs)) 0) (b ∷ bs)) ≡ true
run_by p b bs true e below h = both (is_ascii b) _ (below e) h
run_by p b bs false e below h = refl

pub run_ascii : (p : ℕ → Bool) → ((b : ℕ) → p b ≡ true → is_ascii b ≡ true) → (text : List ℕ) → list_all is_ascii (take (run_length p text) text) ≡ true
unfolding run_length
run_ascii p below [] = refl
run_ascii p below (b ∷ bs) = run_by p b bs (p b) refl (below b) (run_ascii p below bs)

blank_by : (m : Bool) (b : ℕ) (bs : List ℕ) (t : Bool) → is_blank_before m b bs ≡ t → list_all is_ascii (take (blank_length m bs) bs) ≡ true
    → list_all is_ascii (take (cond t (suc (blank_length m bs)) 0) (b ∷ bs)) ≡ true
blank_by m b bs true e h = both (is_ascii b) _ (blank_below m b bs e) h
blank_by m b bs false e h = refl

blank_ascii : (is_macro : Bool) (text : List ℕ) → list_all is_ascii (take (blank_length is_macro text) text) ≡ true
unfolding blank_length
blank_ascii m [] = refl
blank_ascii m (b ∷ bs) = blank_by m b bs (is_blank_before m b bs) refl (blank_ascii m bs)

-- a front that is ASCII, and then another
two_parts : (m n : ℕ) (text : List ℕ) → list_all is_ascii (take m text) ≡ true → list_all is_ascii (take n (drop m text)) ≡ true → list_all is_ascii (take (m + n) text) ≡ true
two_parts zero n text h g = let e : 0 + n ≡ n = omega arith in rw e g
two_parts (suc m) n [] h g = let e : suc m + n ≡ suc (m + n) = omega arith in rw e refl
two_parts (suc m) n (b ∷ bs) h g = let e : suc m + n ≡ suc (m + n) = omega arith in rw e (both (is_ascii b) _ (first (is_ascii b) _ h) (two_parts m n bs (second (is_ascii b) _ h) g))
  where
    first : (a b : Bool) → (a && b) ≡ true → a ≡ true
    first true _ h = refl
    first false _ h = h

    second : (a b : Bool) → (a && b) ≡ true → b ≡ true
    second true _ h = h
    second false _ h = absurd cc

-- where there is a length, the front of that length is ASCII
IsFrontAscii : Option ℕ → List ℕ → Type 0
IsFrontAscii (Some n) text = list_all is_ascii (take n text) ≡ true
IsFrontAscii None text = Unit {0}

digits_by : (base : ℕ) (text : List ℕ) (n : ℕ) (t : Bool) → list_all is_ascii (take n text) ≡ true
    → IsFrontAscii (cond t (Some (n + run_length (runs_on base) (drop n text))) None) text
unfolding IsFrontAscii
digits_by base text n true h = two_parts n _ text h (run_ascii (runs_on base) (runs_below base) (drop n text))
digits_by base text n false h = tt

digits_ascii : (m : Bool) (base : ℕ) (text : List ℕ) → IsFrontAscii (digits_length m base text) text
unfolding digits_length
digits_ascii m base text = digits_by base text (blank_length m text) _ (blank_ascii m text)

one_more : (b : ℕ) (bs : List ℕ) (o : Option ℕ) → is_ascii b ≡ true → IsFrontAscii o bs → IsFrontAscii (option_map suc o) (b ∷ bs)
unfolding IsFrontAscii
one_more b bs (Some n) h g = both (is_ascii b) _ h g
one_more b bs None h g = tt

base_by : (m : Bool) (b : ℕ) (bs : List ℕ) (t : Bool) → is_base b ≡ t → IsFrontAscii (cond t (option_map suc (digits_length m b bs)) None) (b ∷ bs)
unfolding IsFrontAscii
base_by m b bs true e = one_more b bs (digits_length m b bs) (base_below b e) (digits_ascii m b bs)
base_by m b bs false e = tt

base_ascii : (m : Bool) (text : List ℕ) → IsFrontAscii (base_length m text) text
unfolding base_length IsFrontAscii
base_ascii m [] = tt
base_ascii m (b ∷ bs) = base_by m b bs (is_base b) refl

quote_by : (m : Bool) (b : ℕ) (bs : List ℕ) (t : Bool) → (b == 115 || b == 83) ≡ t → IsFrontAscii (cond t (option_map suc (base_length m bs)) (base_length m (b ∷ bs))) (b ∷ bs)
quote_by m b bs true e = one_more b bs (base_length m bs) (sign_below b e) (base_ascii m bs)
quote_by m b bs false e = base_ascii m (b ∷ bs)

quote_ascii : (m : Bool) (text : List ℕ) → IsFrontAscii (behind_quote m text) text
unfolding behind_quote IsFrontAscii
quote_ascii m [] = tt
quote_ascii m (b ∷ bs) = quote_by m b bs (b == 115 || b == 83) refl

-- behind a quote
pub based_ascii : (m : Bool) (text : List ℕ) (n : ℕ) → behind_quote m text ≡ Some n → list_all is_ascii (39 ∷ take n text) ≡ true
unfolding IsFrontAscii
based_ascii m text n e = let h : IsFrontAscii (Some n) text = subst (λ (o : Option ℕ). IsFrontAscii o text) e (quote_ascii m text) in h

pub word_ascii : (b : ℕ) (text : List ℕ) → is_letter b ≡ true → list_all is_ascii (b ∷ take (run_length is_word_byte text) text) ≡ true
word_ascii b text h = both (is_ascii b) _ (letter_below b h) (run_ascii is_word_byte word_below text)

pub decimal_ascii : (b : ℕ) (text : List ℕ) → is_digit b ≡ true → list_all is_ascii (b ∷ take (run_length is_decimal_byte text) text) ≡ true
decimal_ascii b text h = both (is_ascii b) _ (digit_below b h) (run_ascii is_decimal_byte decimal_below text)

each_below : (bs : List ℕ) → list_all is_ascii bs ≡ true → IsAscii bs
each_below [] h i = omega arith
each_below (b ∷ bs) h zero = grind (arith, nat_tests)
each_below (b ∷ bs) h (suc i) = each_below bs (second (is_ascii b) _ h) i
  where
    second : (a b : Bool) → (a && b) ≡ true → b ≡ true
    second true _ h = h
    second false _ h = absurd cc

pub ascii_encoded : (bs : List ℕ) → list_all is_ascii bs ≡ true → IsUtf8 bs
ascii_encoded bs h = IsUtf8-from_ascii bs (each_below bs h)

-- ---- what the code takes

taken_ascii : (text more rest taken : List ℕ) (b n : ℕ) → text ≡ b ∷ more → rest ≡ drop n more → taken ≡ take (length text - length rest) text
    → list_all is_ascii (b ∷ take n more) ≡ true → list_all is_ascii taken ≡ true
taken_ascii text more rest taken b n e f t h =
    ap (λ (w : List ℕ). list_all is_ascii w) (t ∙ token_text text more rest b n e f) ∙ h

front_byte : (p : ℕ → Bool) (text more : List ℕ) (b : ℕ) → text ≡ b ∷ more → begins_with p text ≡ true → p b ≡ true
front_byte p text more b e h = sym (ap (λ (t : List ℕ). begins_with p t) e) ∙ h

pub word_there : (text more rest taken : List ℕ) (b : ℕ) → text ≡ b ∷ more → rest ≡ drop (run_length is_word_byte more) more
    → taken ≡ take (length text - length rest) text → begins_with is_letter text ≡ true → list_all is_ascii taken ≡ true
word_there text more rest taken b e f t h =
    taken_ascii text more rest taken b (run_length is_word_byte more) e f t (word_ascii b more (front_byte is_letter text more b e h))

pub decimal_there : (text more rest taken : List ℕ) (b : ℕ) → text ≡ b ∷ more → rest ≡ drop (run_length is_decimal_byte more) more
    → taken ≡ take (length text - length rest) text → begins_with is_digit text ≡ true → list_all is_ascii taken ≡ true
decimal_there text more rest taken b e f t h =
    taken_ascii text more rest taken b (run_length is_decimal_byte more) e f t (decimal_ascii b more (front_byte is_digit text more b e h))

pub based_there : (is_macro : Bool) (text more rest taken : List ℕ) (b : ℕ) → text ≡ b ∷ more → Some rest ≡ rest_after more (behind_quote is_macro more)
    → taken ≡ take (length text - length rest) text → begins_with (λ c. c == 39) text ≡ true → list_all is_ascii taken ≡ true
based_there m text more rest taken b e f t h =
    let n = some_rest more rest (behind_quote m more) f in
    let quote : b ≡ 39 = quoted b (front_byte (λ c. c == 39) text more b e h) in
    taken_ascii text more rest taken b n.0 e n.2 t (rw quote (based_ascii m more n.0 n.1))
  where
    quoted : (b : ℕ) → (b == 39) ≡ true → b ≡ 39
    quoted b h = grind (arith, nat_tests)

-- ---- marks

ascii_two : (x y : Bool) → (x && y) ≡ true → (x && (y && true)) ≡ true
ascii_two true true h = refl
ascii_two true false h = absurd cc
ascii_two false y h = absurd cc

ascii_three : (x y z : Bool) → (x && (y && z)) ≡ true → (x && (y && (z && true))) ≡ true
ascii_three true true true h = refl
ascii_three true true false h = absurd cc
ascii_three true false z h = absurd cc
ascii_three false y z h = absurd cc

pub two_there : (text more rest : List ℕ) (b c : ℕ) → text ≡ b ∷ more → slice_get more 0 ≡ Some c → rest ≡ drop 1 more → (is_ascii b && is_ascii c) ≡ true
    → list_all is_ascii (taken text rest) ≡ true
two_there text [] rest b c e g f h = absurd cc
two_there text (x ∷ xs) rest b c e g f h =
    let same : x ≡ c = some_is x c g in
    ap (list_all is_ascii) (token_text text (x ∷ xs) rest b 1 e f) ∙ ap (λ (y : ℕ). is_ascii b && (is_ascii y && true)) same ∙ ascii_two (is_ascii b) (is_ascii c) h
  where
    some_is : (x c : ℕ) → Some x ≡ Some c → x ≡ c
    some_is x c e = cc

pub three_there : (text more rest : List ℕ) (b c d : ℕ) → text ≡ b ∷ more → slice_get more 0 ≡ Some c → slice_get more 1 ≡ Some d → rest ≡ drop 2 more
    → (is_ascii b && (is_ascii c && is_ascii d)) ≡ true → list_all is_ascii (taken text rest) ≡ true
three_there text [] rest b c d e g k f h = absurd cc
three_there text (x ∷ []) rest b c d e g k f h = absurd cc
three_there text (x ∷ y ∷ xs) rest b c d e g k f h =
    let same : x ≡ c = some_is x c g in
    let same_too : y ≡ d = some_is y d k in
    ap (list_all is_ascii) (token_text text (x ∷ y ∷ xs) rest b 2 e f)
    ∙ (λ i. is_ascii b && (is_ascii (same i) && (is_ascii (same_too i) && true)))
    ∙ ascii_three (is_ascii b) (is_ascii c) (is_ascii d) h
  where
    some_is : (x c : ℕ) → Some x ≡ Some c → x ≡ c
    some_is x c e = cc

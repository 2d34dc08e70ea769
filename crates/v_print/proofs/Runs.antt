-- Words and numbers that are printed are read as themselves, in front of what may follow them.
use Rattle.std.proofs.Common.{◌≡◌, ℕ, suc, ◌+◌, Bool, true, false, List, [], ◌∷◌, ◌++◌, length, take, drop, Option, Some, None, refl, sym, ap, ◌∙◌, subst, arith, inl, inr}
use Rattle.std.specs.Prelude.{cond, not, ◌&&◌, ◌||◌, ◌==◌, codes, option_map}
use Rattle.std.specs.List.{list_all, list_any}
use Rattle.std.specs.Char.{is_ascii}
use Rattle.std.proofs.lemmas.Bool.{false≢true, and_parts, and_from, or_cases, or_left, eqb-true, not-true, cond-true, cond-false}
use Rattle.std.proofs.lemmas.Bool.Decides.{nat_tests}
use Rattle.std.proofs.lemmas.List.{take_at, drop_at}
use Rattle.std.proofs.lemmas.Slice.Eq.{bytes_eq-Decides}
use Rattle.wb_values.specs.Value.{Name, same_name}
use Rattle.wb_values.specs.Names.{is_letter, is_digit, begins_with}
use Rattle.verilog_text.specs.Token.{word, system, decimal, based}
use Rattle.verilog_text.specs.Lexical.{Piece, token, excluded, run_length, is_blank_before, blank_length, is_word_byte, is_decimal_byte, is_excluded, word_piece, word_front, fraction_length, exponent_length, real_from, real_length, signed_length, number_front, number_at, is_digit_of, runs_on, are_digits_of, if_digits, digits_length, base_length, behind_quote, based_of, based_at, system_piece, system_at, read_at}
use Rattle.v_print.specs.declared.last.Last.TheVariants.{Run, Digits}
use Rattle.v_print.specs.Reads.{may_follow, may_go_on, is_printed_decimal, is_bit_digit, is_printed_binary, is_printed_base, is_printed}
use Rattle.v_print.proofs.Parts.{IsToken}

-- ---- bytes

letter_not_blank : (b : ℕ) (bs : List ℕ) → is_letter b ≡ true → is_blank_before false b bs ≡ false
letter_not_blank b bs h = grind (arith, nat_tests)

digit_not_blank : (b : ℕ) (bs : List ℕ) → is_digit b ≡ true → is_blank_before false b bs ≡ false
digit_not_blank b bs h = grind (arith, nat_tests)

digit_not_letter : (b : ℕ) → is_digit b ≡ true → is_letter b ≡ false
digit_not_letter b h = grind (arith, nat_tests)

letter_below : (b : ℕ) → is_letter b ≡ true → is_ascii b ≡ true
letter_below b h = grind (arith, nat_tests)

digit_below : (b : ℕ) → is_digit b ≡ true → is_ascii b ≡ true
digit_below b h = grind (arith, nat_tests)

word_below : (b : ℕ) → is_word_byte b ≡ true → is_ascii b ≡ true
word_below b h = grind (arith, nat_tests)

bit_below : (b : ℕ) → is_bit_digit b ≡ true → is_ascii b ≡ true
bit_below b h = grind (arith, nat_tests)

digit_goes_on : (b : ℕ) → is_digit b ≡ true → is_decimal_byte b ≡ true
digit_goes_on b h = grind (arith, nat_tests)

digit_runs : (b : ℕ) → is_digit b ≡ true → runs_on 100 b ≡ true
digit_runs b h = grind (arith, nat_tests)

bit_runs : (b : ℕ) → is_bit_digit b ≡ true → runs_on 98 b ≡ true
bit_runs b h = grind (arith, nat_tests)

bit_not_blank : (b : ℕ) (bs : List ℕ) → is_bit_digit b ≡ true → is_blank_before false b bs ≡ false
bit_not_blank b bs h = grind (arith, nat_tests)

all_weaker : (p q : ℕ → Bool) → ((b : ℕ) → p b ≡ true → q b ≡ true) → (bs : List ℕ) → list_all p bs ≡ true → list_all q bs ≡ true
all_weaker p q f [] h = refl
all_weaker p q f (b ∷ bs) h =
    let parts = and_parts (p b) (list_all p bs) h in
    and_from (q b) (list_all q bs) (f b parts.0) (all_weaker p q f bs parts.1)

-- ---- what may follow a word or a number

not_word : (rest : List ℕ) → may_go_on Run rest ≡ true → begins_with is_word_byte rest ≡ false
not_word [] h = refl
not_word (b ∷ bs) h = by_byte b h
  where
    by_byte : (b : ℕ) → may_follow Run b ≡ true → is_word_byte b ≡ false
    by_byte b h = grind (arith, nat_tests)

not_decimal : (rest : List ℕ) → may_go_on Digits rest ≡ true → begins_with is_decimal_byte rest ≡ false
not_decimal [] h = refl
not_decimal (b ∷ bs) h = by_byte b h
  where
    by_byte : (b : ℕ) → may_follow Digits b ≡ true → is_decimal_byte b ≡ false
    by_byte b h = grind (arith, nat_tests)

not_running : (base : ℕ) (rest : List ℕ) → may_go_on Run rest ≡ true → begins_with (runs_on base) rest ≡ false
not_running base [] h = refl
not_running base (b ∷ bs) h = by_byte base b h
  where
    by_byte : (base b : ℕ) → may_follow Run b ≡ true → runs_on base b ≡ false
    by_byte base b h = grind (arith, nat_tests)

no_point : (b : ℕ) → may_follow Digits b ≡ true → (b == 46) ≡ false
no_point b h = grind (arith, nat_tests)

no_exponent : (b : ℕ) → may_follow Digits b ≡ true → (b == 101 || b == 69) ≡ false
no_exponent b h = grind (arith, nat_tests)

not_real : (rest : List ℕ) → may_go_on Digits rest ≡ true → real_length rest ≡ None
unfolding real_length fraction_length exponent_length
not_real [] h = refl
not_real (b ∷ bs) h =
    ap (λ (t : Bool). real_from (b ∷ bs) (cond (t && begins_with is_digit bs) (Some (suc (run_length is_decimal_byte bs))) None)) (no_point b h)
    ∙ ap (λ (t : Bool). cond t (option_map suc (signed_length bs)) None) (no_exponent b h)

-- a run up to what does not go on with it
run_stops : (p : ℕ → Bool) (xs rest : List ℕ) → list_all p xs ≡ true → begins_with p rest ≡ false → run_length p (xs ++ rest) ≡ length xs
unfolding run_length
run_stops p [] [] h stop = refl
run_stops p [] (c ∷ cs) h stop = ap (λ (t : Bool). cond t (suc (run_length p cs)) 0) stop
run_stops p (x ∷ xs) rest h stop =
    let parts = and_parts (p x) (list_all p xs) h in
    ap (λ (t : Bool). cond t (suc (run_length p (xs ++ rest))) 0) parts.0 ∙ ap (λ (n : ℕ). suc n) (run_stops p xs rest parts.1 stop)

-- ---- words

at_letter : (b : ℕ) (bs : List ℕ) → is_letter b ≡ true → read_at false b bs ≡ word_front b bs
unfolding read_at
at_letter b bs h = cond-false (is_blank_before false b bs) _ _ (letter_not_blank b bs h) ∙ cond-true (is_letter b) _ _ h

word_read : (b : ℕ) (bs rest : List ℕ) → is_letter b ≡ true → list_all is_word_byte bs ≡ true → is_excluded (b ∷ bs) ≡ false → may_go_on Run rest ≡ true
    → read_at false b (bs ++ rest) ≡ Some (token (word (b ∷ bs)), length bs)
unfolding word_front word_piece
word_read b bs rest letter bytes known go =
    at_letter b (bs ++ rest) letter
    ∙ ap (λ (n : ℕ). Some (word_piece (b ∷ take n (bs ++ rest)), n)) (run_stops is_word_byte bs rest bytes (not_word rest go))
    ∙ ap (λ (w : List ℕ). Some (word_piece (b ∷ w), length bs)) (take_at bs rest (length bs) refl)
    ∙ ap (λ (t : Bool). Some (cond t excluded (token (word (b ∷ bs))), length bs)) known

pub word_token : (n : Name) → is_printed (word n) ≡ true → IsToken Run (word n)
unfolding is_printed
word_token [] h = absurd (false≢true h)
word_token (b ∷ bs) h =
    let first = and_parts (is_letter b) (list_all is_word_byte bs && not (is_excluded (b ∷ bs))) h in
    let others = and_parts (list_all is_word_byte bs) (not (is_excluded (b ∷ bs))) first.1 in
    record {
      first = b;
      others = bs;
      is_text = refl;
      is_plain = and_from (is_ascii b) (list_all is_ascii bs) (letter_below b first.0) (all_weaker is_word_byte is_ascii word_below bs others.0);
      is_read = λ rest go. word_read b bs rest first.0 others.0 (not-true (is_excluded (b ∷ bs)) others.1) go;
    }

-- ---- plain decimals

at_digit : (b : ℕ) (bs : List ℕ) → is_digit b ≡ true → read_at false b bs ≡ number_at b bs
unfolding read_at
at_digit b bs h =
    cond-false (is_blank_before false b bs) _ _ (digit_not_blank b bs h) ∙ cond-false (is_letter b) _ _ (digit_not_letter b h) ∙ cond-true (is_digit b) _ _ h

decimal_read : (b : ℕ) (bs rest : List ℕ) → is_digit b ≡ true → list_all is_digit bs ≡ true → may_go_on Digits rest ≡ true
    → read_at false b (bs ++ rest) ≡ Some (token (decimal (b ∷ bs)), length bs)
unfolding number_at
decimal_read b bs rest digit digits go =
    at_digit b (bs ++ rest) digit
    ∙ ap (λ (n : ℕ). number_front b (bs ++ rest) n (real_length (drop n (bs ++ rest))))
    (run_stops is_decimal_byte bs rest (all_weaker is_digit is_decimal_byte digit_goes_on bs digits) (not_decimal rest go))
    ∙ ap (λ (q : List ℕ). number_front b (bs ++ rest) (length bs) (real_length q)) (drop_at bs rest (length bs) refl)
    ∙ ap (λ (o : Option ℕ). number_front b (bs ++ rest) (length bs) o) (not_real rest go)
    ∙ ap (λ (q : List ℕ). Some (token (decimal (b ∷ q)), length bs)) (take_at bs rest (length bs) refl)

pub decimal_token : (text : List ℕ) → is_printed (decimal text) ≡ true → IsToken Digits (decimal text)
unfolding is_printed
decimal_token [] h = absurd (false≢true h)
decimal_token (b ∷ bs) h =
    let parts = and_parts (is_digit b) (list_all is_digit bs) h in
    record {
      first = b;
      others = bs;
      is_text = refl;
      is_plain = and_from (is_ascii b) (list_all is_ascii bs) (digit_below b parts.0) (all_weaker is_digit is_ascii digit_below bs parts.1);
      is_read = λ rest go. decimal_read b bs rest parts.0 parts.1 go;
    }

-- ---- based numbers

none_before : (n : ℕ) → 0 + n ≡ n
none_before n = omega arith

-- digits right behind their base
digits_read : (base d : ℕ) (ds rest : List ℕ) → ((bs : List ℕ) → is_blank_before false d bs ≡ false) → list_all (runs_on base) (d ∷ ds) ≡ true → are_digits_of base (d ∷ ds) ≡ true
    → begins_with (runs_on base) rest ≡ false → digits_length false base (d ∷ ds ++ rest) ≡ Some (length (d ∷ ds))
unfolding digits_length blank_length
digits_read base d ds rest visible runs right stop =
    let all = d ∷ ds ++ rest in
    ap (λ (t : Bool). if_digits base all (cond t (suc (blank_length false (ds ++ rest))) 0)) (visible (ds ++ rest))
    ∙ ap (λ (n : ℕ). cond (are_digits_of base (take n all)) (Some (0 + n)) None) (run_stops (runs_on base) (d ∷ ds) rest runs stop)
    ∙ ap (λ (q : List ℕ). cond (are_digits_of base q) (Some (0 + length (d ∷ ds))) None) (take_at (d ∷ ds) rest (length (d ∷ ds)) refl)
    ∙ ap (λ (t : Bool). cond t (Some (0 + length (d ∷ ds))) None) right
    ∙ ap (λ (n : ℕ). Some n) (none_before (length (d ∷ ds)))

decimal_digit : (b : ℕ) → is_digit b ≡ true → is_digit_of 100 b ≡ true
unfolding is_digit_of
decimal_digit b h = h

binary_digit : (b : ℕ) → is_bit_digit b ≡ true → is_digit_of 98 b ≡ true
unfolding is_digit_of
binary_digit b h = grind (arith, nat_tests)

all_digits : (base : ℕ) (p : ℕ → Bool) → ((b : ℕ) → p b ≡ true → is_digit_of base b ≡ true) → (d : ℕ) (ds : List ℕ) → p d ≡ true → list_all p ds ≡ true → are_digits_of base (d ∷ ds) ≡ true
unfolding are_digits_of
all_digits base p are d ds first others =
    and_from (is_digit_of base d || list_any (is_digit_of base) ds) (list_all (λ b. is_digit_of base b || b == 95) (d ∷ ds))
    (or_left (is_digit_of base d) (list_any (is_digit_of base) ds) (are d first))
    (all_weaker p (λ b. is_digit_of base b || b == 95) (λ b h. or_left (is_digit_of base b) (b == 95) (are b h)) (d ∷ ds) (and_from (p d) (list_all p ds) first others))

in_decimal : (text rest : List ℕ) → is_printed_decimal text ≡ true → may_go_on Run rest ≡ true → digits_length false 100 (text ++ rest) ≡ Some (length text)
in_decimal [] rest h go = absurd (false≢true h)
in_decimal (d ∷ ds) rest h go =
    let parts = and_parts (is_digit d) (list_all is_digit ds) h in
    digits_read 100 d ds rest (λ bs. digit_not_blank d bs parts.0) (all_weaker is_digit (runs_on 100) digit_runs (d ∷ ds) h)
    (all_digits 100 is_digit decimal_digit d ds parts.0 parts.1) (not_running 100 rest go)

in_binary : (text rest : List ℕ) → is_printed_binary text ≡ true → may_go_on Run rest ≡ true → digits_length false 98 (text ++ rest) ≡ Some (length text)
in_binary [] rest h go = absurd (false≢true h)
in_binary (d ∷ ds) rest h go =
    let parts = and_parts (is_bit_digit d) (list_all is_bit_digit ds) h in
    digits_read 98 d ds rest (λ bs. bit_not_blank d bs parts.0) (all_weaker is_bit_digit (runs_on 98) bit_runs (d ∷ ds) h)
    (all_digits 98 is_bit_digit binary_digit d ds parts.0 parts.1) (not_running 98 rest go)

-- from the base on
BaseReads : List ℕ → Type 0
BaseReads text = (rest : List ℕ) → may_go_on Run rest ≡ true → base_length false (text ++ rest) ≡ Some (length text)

base_read : (b : ℕ) (digits : List ℕ) → is_printed_base (b ∷ digits) ≡ true → (rest : List ℕ) → may_go_on Run rest ≡ true → base_length false (b ∷ digits ++ rest) ≡ Some (suc (length digits))
unfolding base_length
base_read b digits h rest go =
    elim (or_cases (b == 100 && is_printed_decimal digits) (b == 98 && is_printed_binary digits) h) [
      | inl d ↦
          let parts = and_parts (b == 100) (is_printed_decimal digits) d in
          subst (λ c. base_length false (c ∷ digits ++ rest) ≡ Some (suc (length digits))) (sym (eqb-true b 100 parts.0)) (ap (λ (o : Option ℕ). option_map suc o) (in_decimal digits rest parts.1 go))
      | inr d ↦
          let parts = and_parts (b == 98) (is_printed_binary digits) d in
          subst (λ c. base_length false (c ∷ digits ++ rest) ≡ Some (suc (length digits))) (sym (eqb-true b 98 parts.0)) (ap (λ (o : Option ℕ). option_map suc o) (in_binary digits rest parts.1 go))
    ]

no_sign : (b : ℕ) (digits : List ℕ) → is_printed_base (b ∷ digits) ≡ true → (b == 115 || b == 83) ≡ false
no_sign b digits h =
    elim (or_cases (b == 100 && is_printed_decimal digits) (b == 98 && is_printed_binary digits) h) [
      | inl d ↦ subst (λ c. (c == 115 || c == 83) ≡ false) (sym (eqb-true b 100 (and_parts (b == 100) (is_printed_decimal digits) d).0)) refl
      | inr d ↦ subst (λ c. (c == 115 || c == 83) ≡ false) (sym (eqb-true b 98 (and_parts (b == 98) (is_printed_binary digits) d).0)) refl
    ]

signed_read : (text rest : List ℕ) → is_printed_base text ≡ true → may_go_on Run rest ≡ true → base_length false (text ++ rest) ≡ Some (length text)
signed_read [] rest h go = absurd (false≢true h)
signed_read (b ∷ digits) rest h go = base_read b digits h rest go

quote_read : (s : ℕ) (text rest : List ℕ) → (s == 115 && is_printed_base text || is_printed_base (s ∷ text)) ≡ true → may_go_on Run rest ≡ true
    → behind_quote false (s ∷ text ++ rest) ≡ Some (suc (length text))
unfolding behind_quote
quote_read s text rest h go =
    elim (or_cases (s == 115 && is_printed_base text) (is_printed_base (s ∷ text)) h) [
      | inl d ↦
          let parts = and_parts (s == 115) (is_printed_base text) d in
          subst (λ c. behind_quote false (c ∷ text ++ rest) ≡ Some (suc (length text))) (sym (eqb-true s 115 parts.0)) (ap (λ (o : Option ℕ). option_map suc o) (signed_read text rest parts.1 go))
      | inr d ↦
          cond-false (s == 115 || s == 83) _ _ (no_sign s text d) ∙ base_read s text d rest go
    ]

based_read : (s : ℕ) (text rest : List ℕ) → (s == 115 && is_printed_base text || is_printed_base (s ∷ text)) ≡ true → may_go_on Run rest ≡ true
    → read_at false 39 (s ∷ text ++ rest) ≡ Some (token (based (39 ∷ s ∷ text)), suc (length text))
unfolding read_at based_at
based_read s text rest h go =
    ap (λ (o : Option ℕ). based_of 39 (s ∷ text ++ rest) o) (quote_read s text rest h go)
    ∙ ap (λ (q : List ℕ). Some (token (based (39 ∷ q)), suc (length text))) (take_at (s ∷ text) rest (suc (length text)) refl)

base_plain : (b : ℕ) (digits : List ℕ) → is_printed_base (b ∷ digits) ≡ true → list_all is_ascii (b ∷ digits) ≡ true
base_plain b digits h =
    elim (or_cases (b == 100 && is_printed_decimal digits) (b == 98 && is_printed_binary digits) h) [
      | inl d ↦
          let parts = and_parts (b == 100) (is_printed_decimal digits) d in
          subst (λ c. list_all is_ascii (c ∷ digits) ≡ true) (sym (eqb-true b 100 parts.0)) (decimal_plain digits parts.1)
      | inr d ↦
          let parts = and_parts (b == 98) (is_printed_binary digits) d in
          subst (λ c. list_all is_ascii (c ∷ digits) ≡ true) (sym (eqb-true b 98 parts.0)) (binary_plain digits parts.1)
    ]
  where
    decimal_plain : (ds : List ℕ) → is_printed_decimal ds ≡ true → list_all is_ascii ds ≡ true
    decimal_plain [] h = refl
    decimal_plain (d ∷ ds) h = all_weaker is_digit is_ascii digit_below (d ∷ ds) h

    binary_plain : (ds : List ℕ) → is_printed_binary ds ≡ true → list_all is_ascii ds ≡ true
    binary_plain [] h = refl
    binary_plain (d ∷ ds) h = all_weaker is_bit_digit is_ascii bit_below (d ∷ ds) h

quote_plain : (s : ℕ) (text : List ℕ) → (s == 115 && is_printed_base text || is_printed_base (s ∷ text)) ≡ true → list_all is_ascii (s ∷ text) ≡ true
quote_plain s text h =
    elim (or_cases (s == 115 && is_printed_base text) (is_printed_base (s ∷ text)) h) [
      | inl d ↦
          let parts = and_parts (s == 115) (is_printed_base text) d in
          subst (λ c. list_all is_ascii (c ∷ text) ≡ true) (sym (eqb-true s 115 parts.0)) (text_plain text parts.1)
      | inr d ↦ base_plain s text d
    ]
  where
    text_plain : (q : List ℕ) → is_printed_base q ≡ true → list_all is_ascii q ≡ true
    text_plain [] h = refl
    text_plain (b ∷ ds) h = base_plain b ds h

pub based_token : (text : List ℕ) → is_printed (based text) ≡ true → IsToken Run (based text)
unfolding is_printed
based_token [] h = absurd (false≢true h)
based_token (q ∷ []) h = absurd (false≢true h)
based_token (q ∷ s ∷ text) h =
    let parts = and_parts (q == 39) (s == 115 && is_printed_base text || is_printed_base (s ∷ text)) h in
    subst (λ c. IsToken Run (based (c ∷ s ∷ text))) (sym (eqb-true q 39 parts.0))
    (record {
      first = 39;
      others = s ∷ text;
      is_text = refl;
      is_plain = quote_plain s text parts.1;
      is_read = λ rest go. based_read s text rest parts.1 go;
    })

-- ---- $signed and $unsigned

system_read : (w rest : List ℕ) → begins_with is_word_byte w ≡ true → list_all is_word_byte w ≡ true → system_piece (36 ∷ w) ≡ token (system (36 ∷ w)) → may_go_on Run rest ≡ true
    → read_at false 36 (w ++ rest) ≡ Some (token (system (36 ∷ w)), length w)
unfolding read_at system_at
system_read [] rest begins bytes known go = absurd (false≢true begins)
system_read (b ∷ bs) rest begins bytes known go =
    let w = b ∷ bs in
    cond-true (is_word_byte b) _ _ begins
    ∙ ap (λ (n : ℕ). Some (system_piece (36 ∷ take n (w ++ rest)), n)) (run_stops is_word_byte w rest bytes (not_word rest go))
    ∙ ap (λ (q : List ℕ). Some (system_piece (36 ∷ q), length w)) (take_at w rest (length w) refl)
    ∙ ap (λ (p : Piece). Some (p, length w)) known

pub system_token : (n : Name) → is_printed (system n) ≡ true → IsToken Run (system n)
unfolding is_printed system_piece
system_token n h =
    elim (or_cases (same_name n (codes "$signed")) (same_name n (codes "$unsigned")) h) [
      | inl e ↦ subst (λ m. IsToken Run (system m)) (sym ((bytes_eq-Decides n (codes "$signed")).0 e))
          (record { first = 36; others = codes "signed"; is_text = refl; is_plain = refl; is_read = λ rest go. system_read (codes "signed") rest refl refl refl go })
      | inr e ↦ subst (λ m. IsToken Run (system m)) (sym ((bytes_eq-Decides n (codes "$unsigned")).0 e))
          (record { first = 36; others = codes "unsigned"; is_text = refl; is_plain = refl; is_read = λ rest go. system_read (codes "unsigned") rest refl refl refl go })
    ]

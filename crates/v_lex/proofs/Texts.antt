-- Parts of a text by what stands behind them.
use Rattle.std.proofs.Common.{◌≡◌, ℕ, suc, ◌+◌, ◌-◌, min, List, [], ◌∷◌, length, take, drop, Option, Some, None, refl, sym, ap, ◌∙◌, arith}
use Rattle.std.specs.Prelude.{option_map, option_and_then, cond, Bool, true, false, zero}
use Rattle.std.proofs.lemmas.List.{length-drop, take_min, drop-drop}
use Rattle.wb_values.specs.Names.{begins_with, is_letter}
use Rattle.verilog_text.specs.Token.{decimal}
use Rattle.verilog_text.specs.Lexical.{Piece, is_line_blank, name_behind, is_word_byte, system_piece, system_at, ends_definition, defined_length, definition_length, token, run_length, is_decimal_byte, real_length, number_front, number_at}
use Rattle.v_lex.specs.View.{rest_after, after, at_front, name_after}

cut_twice : (m n : ℕ) → m - (m - n) ≡ min n m
cut_twice m n = omega arith

taken_before : (n : ℕ) (bs : List ℕ) → take (length bs - length (drop n bs)) bs ≡ take n bs
taken_before n bs = ap (λ (k : ℕ). take (length bs - k) bs) (length-drop n bs) ∙ ap (λ (k : ℕ). take k bs) (cut_twice (length bs) n) ∙ take_min n bs

-- the text up to a rest of it
pub taken : (text rest : List ℕ) (n : ℕ) → rest ≡ drop n text → take (length text - length rest) text ≡ take n text
taken text rest n e = ap (λ (r : List ℕ). take (length text - length r) text) e ∙ taken_before n text

-- the same behind the first byte
pub token_text : (text more rest : List ℕ) (b n : ℕ) → text ≡ b ∷ more → rest ≡ drop n more → take (length text - length rest) text ≡ b ∷ take n more
token_text text more rest b n e f =
    ap (λ (t : List ℕ). take (length t - length rest) t) e ∙ taken (b ∷ more) rest (suc n) f

-- one byte more in front
pub rest_suc : (x : ℕ) (xs : List ℕ) (o : Option ℕ) → rest_after (x ∷ xs) (option_map suc o) ≡ rest_after xs o
rest_suc x xs None = refl
rest_suc x xs (Some n) = refl

pub no_rest : (text : List ℕ) (o : Option ℕ) → None ≡ rest_after text o → o ≡ None
no_rest text None e = refl
no_rest text (Some n) e = absurd cc

pub some_rest : (text rest : List ℕ) (o : Option ℕ) → Some rest ≡ rest_after text o → (n : ℕ) × (o ≡ Some n) × (rest ≡ drop n text)
some_rest text rest None e = absurd cc
some_rest text rest (Some n) e = (n, refl, cc)

-- ---- numbers

pub plain_number : (text more rest : List ℕ) (b : ℕ) → text ≡ b ∷ more → rest ≡ drop (run_length is_decimal_byte more) more → real_length rest ≡ None
    → Some (token (decimal (take (length text - length rest) text)), rest) ≡ at_front number_at text
unfolding number_at
plain_number text more rest b e f n =
    let k = run_length is_decimal_byte more in
    let spelled : take (length text - length rest) text ≡ b ∷ take k more = token_text text more rest b k e f in
    (λ i. Some (token (decimal (spelled i)), f i))
    ∙ sym (ap (λ (o : Option ℕ). after more (number_front b more k o)) (ap real_length (sym f) ∙ n))
    ∙ ap (at_front number_at) (sym e)

-- ---- names with $

pub system_there : (text more rest w : List ℕ) (b : ℕ) (p : Piece) → text ≡ b ∷ more → rest ≡ drop (run_length is_word_byte more) more
    → begins_with is_word_byte more ≡ true → w ≡ take (length text - length rest) text → p ≡ system_piece w → Some (p, rest) ≡ at_front system_at text
unfolding system_at
system_there text more rest w b p e f begins is_w is_p =
    let k = run_length is_word_byte more in
    let spelled : w ≡ b ∷ take k more = is_w ∙ token_text text more rest b k e f in
    let is_piece : p ≡ system_piece (b ∷ take k more) = is_p ∙ ap system_piece spelled in
    (λ i. Some (is_piece i, f i))
    ∙ sym (ap (λ (t : Bool). after more (cond t (Some (system_piece (b ∷ take k more), k)) None)) begins)
    ∙ ap (at_front system_at) (sym e)

-- ---- definitions

-- bytes that are passed over
pub behind_skipped : (n : ℕ) (bs : List ℕ) → rest_after bs (definition_length n bs) ≡ rest_after (drop n bs) (definition_length 0 (drop n bs))
unfolding definition_length
behind_skipped zero bs = refl
behind_skipped (suc n) [] = refl
behind_skipped (suc n) (b ∷ bs) = rest_suc b bs (definition_length n bs) ∙ behind_skipped n bs

-- what is left behind a byte and what it takes along
abbrev left_behind : ℕ → List ℕ → (ends : Bool) → (passed : Option ℕ) → Option (List ℕ)
left_behind b more ends passed = rest_after (b ∷ more) (cond ends (Some 0) (option_and_then (λ k. option_map suc (definition_length k more)) passed))

left_there : (b : ℕ) (text more : List ℕ) (start : Option (List ℕ)) → text ≡ b ∷ more → start ≡ rest_after text (definition_length 0 text)
    → start ≡ left_behind b more (ends_definition b more) (defined_length b more)
unfolding definition_length
left_there b text more start e there = there ∙ ap (λ (t : List ℕ). rest_after t (definition_length 0 t)) e

-- one turn over a definition's text
pub passed_on : (b : ℕ) (text more passed : List ℕ) (start : Option (List ℕ)) → text ≡ b ∷ more → start ≡ rest_after text (definition_length 0 text)
    → ends_definition b more ≡ false → Some passed ≡ rest_after more (defined_length b more) → start ≡ rest_after passed (definition_length 0 passed)
passed_on b text more passed start e there goes took =
    let n = some_rest more passed (defined_length b more) took in
    left_there b text more start e there
    ∙ ap (λ (t : Bool). left_behind b more t (defined_length b more)) goes
    ∙ ap (λ (o : Option ℕ). left_behind b more false o) n.1
    ∙ rest_suc b more (definition_length n.0 more)
    ∙ behind_skipped n.0 more
    ∙ ap (λ (r : List ℕ). rest_after r (definition_length 0 r)) (sym n.2)

-- nothing is passed
pub not_passed : (b : ℕ) (text more : List ℕ) (start : Option (List ℕ)) → text ≡ b ∷ more → start ≡ rest_after text (definition_length 0 text)
    → ends_definition b more ≡ false → None ≡ rest_after more (defined_length b more) → None ≡ start
not_passed b text more start e there goes took =
    sym (left_there b text more start e there
    ∙ ap (λ (t : Bool). left_behind b more t (defined_length b more)) goes
    ∙ ap (λ (o : Option ℕ). left_behind b more false o) (no_rest more (defined_length b more) took))

-- the text ends
pub definition_ends : (b : ℕ) (text more : List ℕ) (start : Option (List ℕ)) → text ≡ b ∷ more → start ≡ rest_after text (definition_length 0 text)
    → ends_definition b more ≡ true → Some text ≡ start
definition_ends b text more start e there ends =
    ap (λ (t : List ℕ). Some t) e ∙ sym (left_there b text more start e there ∙ ap (λ (t : Bool). left_behind b more t (defined_length b more)) ends)

pub definition_empty : (text : List ℕ) (start : Option (List ℕ)) → length text ≡ 0 → start ≡ rest_after text (definition_length 0 text) → Some text ≡ start
unfolding definition_length
definition_empty [] start e there = sym there
definition_empty (b ∷ text) start e there = absurd (not_none e)
  where
    not_none : suc (length text) ≡ 0 → ⊥
    not_none h = omega (arith, h)

-- ---- names behind directives

pub named_there : (text rest name more : List ℕ) → rest ≡ drop (run_length is_line_blank text) text → begins_with is_letter rest ≡ true
    → name ≡ take (run_length is_word_byte rest) rest → more ≡ drop (run_length is_word_byte rest) rest
    → Some (name, more) ≡ name_after text (name_behind text)
unfolding name_behind
named_there text rest name more is_rest begins is_name is_more =
    let k = run_length is_line_blank text in
    let r = drop k text in
    let name_is : name ≡ take (run_length is_word_byte r) r = is_name ∙ ap (λ (q : List ℕ). take (run_length is_word_byte q) q) is_rest in
    let more_is : more ≡ drop (k + run_length is_word_byte r) text = is_more ∙ ap (λ (q : List ℕ). drop (run_length is_word_byte q) q) is_rest ∙ drop-drop (run_length is_word_byte r) k text in
    let begins_so : begins_with is_letter r ≡ true = sym (ap (begins_with is_letter) is_rest) ∙ begins in
    (λ i. Some (name_is i, more_is i))
    ∙ sym (ap (λ (t : Bool). name_after text (cond t (Some (take (run_length is_word_byte r) r, k + run_length is_word_byte r)) None)) begins_so)

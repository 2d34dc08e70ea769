-- Texts of maps of emitted designs are read as their expressions: names, and that no child program runs.
use Rattle.std.proofs.Common.{◌≡◌, ◌∙◌, ℕ, zero, suc, ◌+◌, Bool, true, false, cond, not, ◌&&◌, ◌||◌, List, [], ◌∷◌, ◌++◌, length, Ok, refl, sym, ap, subst, arith, append-nil}
use Rattle.std.specs.Prelude.{codes, nat_lt, nat_le}
use Rattle.std.specs.List.{list_all}
use Rattle.std.proofs.lemmas.Bool.{and_parts, and_from, and_left, not-true}
use Rattle.std.proofs.lemmas.Bool.Decides.{nat_tests}
use Rattle.wb_values.specs.Value.{Name, same_name}
use Rattle.wb_values.specs.Names.{is_letter, is_name_byte, begins_with, begins_with_wb, is_kept_word, is_model_name}
use Rattle.wb_values.specs.ReservedWords.{is_reserved}
use Rattle.verilog_trees.specs.Syntax.{Expression, whole}
use Rattle.verilog_text.specs.Token.{Token, word, decimal, mark, double_equals}
use Rattle.verilog_text.specs.Lexical.{is_word_byte, is_excluded, read_at}
use Rattle.verilog_text.specs.Text.{with_parts, most_tokens, is_too_deep, tokens_in}
use Rattle.verilog_text.specs.Spelling.{IsIdentifier, IsExpression, tighter, a_name, a_number, joined, plain, no_select}
use Rattle.verilog_text.specs.Grammar.{IsWhole, with_dotted_names}
use Rattle.verilog_meaning.specs.Settled.{whole_name}
use Rattle.map_rules.specs.Expressions.{ReadsAs}
use Rattle.v_print.specs.Reads.{is_printed, after_text, HasTokens}
use Rattle.v_print.specs.declared.last.Last.TheVariants.{Run, Digits, Operator}
use Rattle.v_print.proofs.Parts.{token_first, blank_first}
use Rattle.v_print.proofs.Runs.{word_token, decimal_token}
use Rattle.v_print.proofs.Fitting.{mark_token}
use Rattle.v_print.proofs.Texts.{text_read}
use Rattle.v_print.proofs.Open.{IsShallow, word_stays, mark_stays, other_stays}
use Rattle.emitted_designs.specs.Names.{busy_name}
use Rattle.emitted_designs.specs.Map.{zero_number, rest_expression}

nothing_has : HasTokens [] []
unfolding after_text with_parts
nothing_has = record { is_plain = refl; is_calm = λ before h. h; tokens = λ before h. sym (append-nil _); are_few = omega arith }

-- ---- names

-- the expression of a name that is one word
named : (n : Name) → IsIdentifier n → IsWhole (whole_name n) (word n ∷ []) []
named n h = ladder 13 0 13 refl (a_name n whole [] [] h (no_select []))
  where
    ladder : (steps k top : ℕ) → k + steps ≡ top → IsExpression top (whole_name n) (word n ∷ []) [] → IsExpression k (whole_name n) (word n ∷ []) []
    ladder zero k top e x = subst (λ l. IsExpression l (whole_name n) (word n ∷ []) []) (sym e ∙ none k) x
      where
        none : (k : ℕ) → k + 0 ≡ k
        none k = omega arith
    ladder (suc s) k top e x = tighter k (whole_name n) (word n ∷ []) [] (ladder s (suc k) top (omega (arith, e)) x)

undotted : (n : Name) → is_reserved n ≡ false → with_dotted_names (word n ∷ []) ≡ word n ∷ []
undotted n h = ap (λ b. cond b (word n ∷ []) (word n ∷ [])) h

none_open : IsShallow [] []
unfolding is_too_deep
none_open = refl

few : nat_lt most_tokens 1 ≡ false
unfolding most_tokens
few = refl

word_reads : (n : Name) → is_printed (word n) ≡ true → is_reserved n ≡ false → ReadsAs n (whole_name n)
word_reads n printed free =
    let has : HasTokens (n ++ []) (word n ∷ []) = token_first Run (word n) (word_token n printed) [] [] refl nothing_has in
    let shallow : IsShallow [] (word n ∷ []) = word_stays n [] [] free (omega arith) none_open in
    record {
      tokens = word n ∷ [];
      are_tokens = subst (λ bs. tokens_in (bs ∷ []) ≡ Ok (word n ∷ [])) (append-nil n) (text_read (n ++ []) (word n ∷ []) has few refl shallow);
      is_spelled = subst (λ ts. IsWhole (whole_name n) ts []) (sym (undotted n free)) (named n free);
    }

word_byte : (b : ℕ) → is_name_byte b ≡ true → is_word_byte b ≡ true
word_byte b h = grind (arith, nat_tests)

word_bytes : (bs : List ℕ) → list_all is_name_byte bs ≡ true → list_all is_word_byte bs ≡ true
word_bytes [] h = refl
word_bytes (b ∷ bs) h =
    let p = and_parts (is_name_byte b) (list_all is_name_byte bs) h in
    and_from (is_word_byte b) (list_all is_word_byte bs) (word_byte b p.0) (word_bytes bs p.1)

or_false : (a b : Bool) → (a || b) ≡ false → a ≡ false
or_false true b h = h
or_false false b h = refl

free_name : (n : Name) → is_model_name n ≡ true → is_reserved n ≡ false
free_name n h =
    let p = and_parts (begins_with is_letter n && list_all is_name_byte n && nat_le (length n) 64) (not (is_kept_word n)) h in
    or_false (is_reserved n) (same_name n (codes "fetch"))
    (or_false (is_reserved n || same_name n (codes "fetch")) (begins_with_wb n) (not-true (is_kept_word n) p.1))

printed_name : (n : Name) → is_model_name n ≡ true → is_printed (word n) ≡ true
unfolding is_printed
printed_name [] h = h
printed_name (b ∷ bs) h =
    let p = and_parts (begins_with is_letter (b ∷ bs) && list_all is_name_byte (b ∷ bs) && nat_le (length (b ∷ bs)) 64) (not (is_kept_word (b ∷ bs))) h in
    let q = and_parts (begins_with is_letter (b ∷ bs) && list_all is_name_byte (b ∷ bs)) (nat_le (length (b ∷ bs)) 64) p.0 in
    let r = and_parts (is_letter b) (list_all is_name_byte (b ∷ bs)) q.0 in
    let s = and_parts (is_name_byte b) (list_all is_name_byte bs) r.1 in
    let excluded : is_excluded (b ∷ bs) ≡ false = and_left _ _ (free_name (b ∷ bs) h) in
    and_from (is_letter b) (list_all is_word_byte bs && not (is_excluded (b ∷ bs))) r.0
    (and_from (list_all is_word_byte bs) (not (is_excluded (b ∷ bs))) (word_bytes bs s.1) (ap not excluded))

pub name_reads : (n : Name) → is_model_name n ≡ true → ReadsAs n (whole_name n)
name_reads n h = word_reads n (printed_name n h) (free_name n h)

-- a control signal's name
pub start_reads : ReadsAs (codes "wb_start") (whole_name (codes "wb_start"))
unfolding is_printed is_reserved
start_reads = word_reads (codes "wb_start") refl refl

pub commit_reads : ReadsAs (codes "wb_commit") (whole_name (codes "wb_commit"))
unfolding is_printed is_reserved
commit_reads = word_reads (codes "wb_commit") refl refl

-- ---- that no child program runs

-- an expression of one level is one of each looser level
ladder_down : (e : Expression) (text rest : List Token) (steps k top : ℕ) → k + steps ≡ top → IsExpression top e text rest → IsExpression k e text rest
ladder_down e text rest zero k top is x = subst (λ l. IsExpression l e text rest) (sym is ∙ none k) x
  where
    none : (k : ℕ) → k + 0 ≡ k
    none k = omega arith
ladder_down e text rest (suc s) k top is x = tighter k e text rest (ladder_down e text rest s (suc k) top (omega (arith, is)) x)

abbrev zero_digit : Token
zero_digit = decimal (codes "0")

abbrev rest_tokens : List Token
rest_tokens = word busy_name ∷ mark double_equals ∷ zero_digit ∷ []

blank : (rest : List ℕ) (r : List Token) → HasTokens rest r → HasTokens (32 ∷ rest) r
unfolding read_at
blank rest r has = blank_first 32 rest r refl (λ bs. refl) has

busy_printed : is_printed (word busy_name) ≡ true
unfolding is_printed is_reserved
busy_printed = refl

busy_free : is_reserved busy_name ≡ false
unfolding is_reserved
busy_free = refl

zero_printed : is_printed zero_digit ≡ true
unfolding is_printed
zero_printed = refl

rest_has : HasTokens (codes "wb_busy == 0") rest_tokens
rest_has =
    let last : HasTokens (codes "0") (zero_digit ∷ []) = token_first Digits zero_digit (decimal_token (codes "0") zero_printed) [] [] refl nothing_has in
    let behind = blank (codes "0") (zero_digit ∷ []) last in
    let sign : HasTokens (codes "== 0") (mark double_equals ∷ zero_digit ∷ []) =
    token_first Operator (mark double_equals) (mark_token double_equals) (codes " 0") (zero_digit ∷ []) refl behind in
    token_first Run (word busy_name) (word_token busy_name busy_printed) (codes " == 0") (mark double_equals ∷ zero_digit ∷ []) refl
    (blank (codes "== 0") (mark double_equals ∷ zero_digit ∷ []) sign)

few_three : nat_lt most_tokens 3 ≡ false
unfolding most_tokens
few_three = refl

rest_shallow : IsShallow [] rest_tokens
rest_shallow =
    word_stays busy_name [] (mark double_equals ∷ zero_digit ∷ []) busy_free (omega arith)
    (mark_stays double_equals [] (zero_digit ∷ []) refl (omega arith) (other_stays zero_digit [] [] refl (omega arith) none_open))

rest_undotted : with_dotted_names rest_tokens ≡ rest_tokens
rest_undotted = ap (λ b. cond b (word busy_name ∷ mark double_equals ∷ zero_digit ∷ []) (word busy_name ∷ mark double_equals ∷ zero_digit ∷ [])) busy_free

rest_spelled : IsWhole rest_expression rest_tokens []
rest_spelled =
    let right = ladder_down zero_number (zero_digit ∷ []) [] 6 7 13 refl (a_number _ (zero_digit ∷ []) [] (plain (codes "0") [])) in
    let more = mark double_equals ∷ zero_digit ∷ [] in
    let left = ladder_down (whole_name busy_name) rest_tokens more 7 6 13 refl (a_name busy_name whole more more busy_free (no_select more)) in
    ladder_down rest_expression rest_tokens [] 6 0 6 refl (joined double_equals _ (whole_name busy_name) zero_number rest_tokens (zero_digit ∷ []) [] refl left right)

pub rest_reads : ReadsAs (codes "wb_busy == 0") rest_expression
rest_reads = record {
  tokens = rest_tokens;
  are_tokens = text_read (codes "wb_busy == 0") rest_tokens rest_has few_three refl rest_shallow;
  is_spelled = subst (λ ts. IsWhole rest_expression ts []) (sym rest_undotted) rest_spelled;
}

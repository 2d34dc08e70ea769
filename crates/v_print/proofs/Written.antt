-- What is written token by token.
use Rattle.std.proofs.Common.{◌≡◌, ℕ, true, false, List, [], ◌∷◌, ◌++◌, Some, refl, sym, ap, ◌∙◌, subst, arith, append_assoc}
use Rattle.std.proofs.lemmas.Bool.Decides.{nat_tests}
use Rattle.std.specs.Char.{is_ascii}
use Rattle.std.specs.String.{string_bytes}
use Rattle.std.proofs.lemmas.Bool.{and_parts}
use Rattle.wb_values.specs.Value.{Name}
use Rattle.verilog_text.specs.Token.{Mark, Token, text_of, word, system, decimal, based, mark}
use Rattle.verilog_text.specs.Lexical.{nothing, blank_length, read_at}
use Rattle.v_print.specs.declared.last.Last.{Last}
use Rattle.v_print.specs.declared.last.Last.TheVariants.{Blank, Run, Digits, Opened, Stop, Prefix, Operator}
use Rattle.v_print.specs.declared.writer.Writer.{Writer}
use Rattle.v_print.specs.Reads.{may_follow, may_go_on, last_of_mark, is_printed, are_printed, ReadsAs}
use Rattle.v_print.specs.Writes.{Front, Writes}
use Rattle.v_print.proofs.Parts.{IsToken, token_first, blank_first}
use Rattle.v_print.proofs.Runs.{word_token, system_token, decimal_token, based_token}
use Rattle.v_print.proofs.Fitting.{mark_token}

pub nothing_written : (w : Writer) → Writes w w (λ r. r)
nothing_written w = record { goes_on = λ f h. h }

-- one after the other
pub then : {a b c : Writer} {g h : Front} → Writes a b g → Writes b c h → Writes a c (λ r. g (h r))
then {g = g} x y = record { goes_on = λ f w. y.goes_on (λ r. f (g r)) (x.goes_on f w) }

-- the same under another name
pub as_front : {a b : Writer} {g h : Front} → ((r : List Token) → g r ≡ h r) → Writes a b g → Writes a b h
as_front {a = a} {b = b} e w = subst (Writes a b) (λ i r. e r i) w

-- a blank may follow anything
blank_follows : (last : Last) (b : ℕ) → may_follow Operator b ≡ true → may_follow last b ≡ true
blank_follows Blank b h = refl
blank_follows Run b h = in_run b h
  where
    in_run : (b : ℕ) → may_follow Operator b ≡ true → may_follow Run b ≡ true
    in_run b h = grind (arith, nat_tests)
blank_follows Digits b h = in_digits b h
  where
    in_digits : (b : ℕ) → may_follow Operator b ≡ true → may_follow Digits b ≡ true
    in_digits b h = grind (arith, nat_tests)
blank_follows Opened b h = in_opened b h
  where
    in_opened : (b : ℕ) → may_follow Operator b ≡ true → may_follow Opened b ≡ true
    in_opened b h = grind (arith, nat_tests)
blank_follows Stop b h = refl
blank_follows Prefix b h = in_prefix b h
  where
    in_prefix : (b : ℕ) → may_follow Operator b ≡ true → may_follow Prefix b ≡ true
    in_prefix b h = grind (arith, nat_tests)
blank_follows Operator b h = h

-- a byte that is read as a blank
record IsGap (b : ℕ) : Type 0 where
  is_plain : is_ascii b ≡ true
  follows : may_follow Operator b ≡ true
  is_read : (bs : List ℕ) → read_at false b bs ≡ Some (nothing, blank_length false bs)

space : IsGap 32
unfolding read_at
space = record { is_plain = refl; follows = refl; is_read = λ bs. refl }

line_feed : IsGap 10
unfolding read_at
line_feed = record { is_plain = refl; follows = refl; is_read = λ bs. refl }

gap_written : (b : ℕ) → IsGap b → (old new : Writer) → string_bytes new.text ≡ string_bytes old.text ++ b ∷ [] → Writes old new (λ r. r)
gap_written b gap old new e = record {
  goes_on = λ f w rest r has. subst (λ bs. ReadsAs bs (f r)) (sym (ap (λ (t : List ℕ). t ++ rest) e ∙ append_assoc (string_bytes old.text) (b ∷ []) rest))
      (w (b ∷ rest) r (λ p. (blank_follows old.last b gap.follows, blank_first b rest r gap.is_plain gap.is_read (has p).1)));
}

pub blank_written : (old new : Writer) → string_bytes new.text ≡ string_bytes old.text ++ 32 ∷ [] → Writes old new (λ r. r)
blank_written old new e = gap_written 32 space old new e

pub line_written : (old new : Writer) → string_bytes new.text ≡ string_bytes old.text ++ 10 ∷ [] → Writes old new (λ r. r)
line_written old new e = gap_written 10 line_feed old new e

-- the text of a token in front of more goes on where the text does
goes_first : (last kind : Last) (t : Token) (k : IsToken kind t) (rest : List ℕ) → may_go_on last (text_of t) ≡ true → may_go_on last (text_of t ++ rest) ≡ true
goes_first last kind t k rest go =
    ap (λ (bs : List ℕ). may_go_on last (bs ++ rest)) k.is_text ∙ sym (ap (may_go_on last) k.is_text) ∙ go

token_written : (kind : Last) (t : Token) → (is_printed t ≡ true → IsToken kind t) → (old new : Writer) → may_go_on old.last (text_of t) ≡ true
    → string_bytes new.text ≡ string_bytes old.text ++ text_of t → new.last ≡ kind → Writes old new (λ r. t ∷ r)
token_written kind t reads old new go e same = record {
  goes_on = λ f w rest r has. subst (λ bs. ReadsAs bs (f (t ∷ r))) (sym (ap (λ (q : List ℕ). q ++ rest) e ∙ append_assoc (string_bytes old.text) (text_of t) rest))
      (w (text_of t ++ rest) (t ∷ r) (λ p.
      let parts = and_parts (is_printed t) (are_printed r) p in
      let k = reads parts.0 in
      let more = has parts.1 in
      (goes_first old.last kind t k rest go, token_first kind t k rest r (ap (λ (l : Last). may_go_on l rest) (sym same) ∙ more.0) more.1)));
}

pub word_written : (n : Name) (old new : Writer) → may_go_on old.last n ≡ true → string_bytes new.text ≡ string_bytes old.text ++ n → new.last ≡ Run → Writes old new (λ r. word n ∷ r)
word_written n = token_written Run (word n) (word_token n)

pub system_written : (n : Name) (old new : Writer) → may_go_on old.last n ≡ true → string_bytes new.text ≡ string_bytes old.text ++ n → new.last ≡ Run → Writes old new (λ r. system n ∷ r)
system_written n = token_written Run (system n) (system_token n)

pub decimal_written : (n : List ℕ) (old new : Writer) → may_go_on old.last n ≡ true → string_bytes new.text ≡ string_bytes old.text ++ n → new.last ≡ Digits → Writes old new (λ r. decimal n ∷ r)
decimal_written n = token_written Digits (decimal n) (decimal_token n)

pub based_written : (n : List ℕ) (old new : Writer) → may_go_on old.last n ≡ true → string_bytes new.text ≡ string_bytes old.text ++ n → new.last ≡ Run → Writes old new (λ r. based n ∷ r)
based_written n = token_written Run (based n) (based_token n)

pub mark_written : (m : Mark) (text : List ℕ) (old new : Writer) → text ≡ text_of (mark m) → may_go_on old.last text ≡ true → string_bytes new.text ≡ string_bytes old.text ++ text
    → new.last ≡ last_of_mark m → Writes old new (λ r. mark m ∷ r)
mark_written m text old new e go is_text =
    token_written (last_of_mark m) (mark m) (λ p. mark_token m) old new (sym (ap (may_go_on old.last) e) ∙ go) (is_text ∙ ap (λ (q : List ℕ). string_bytes old.text ++ q) e)

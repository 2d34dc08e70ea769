-- The words of tokens that spell an expression are the names in it, in their order.
use Rattle.std.proofs.Common.{◌≡◌, ℕ, zero, suc, ◌+◌, ◌<◌, ◌≤◌, List, [], ◌∷◌, ◌++◌, length, drop, get_or, map, Bor, Option, Some, None, refl, sym, ap, ◌∙◌, subst, append_assoc, arith}
use Rattle.std.proofs.lemmas.List.{append-nil, drop_more}
use Rattle.wb_values.specs.Value.{Name}
use Rattle.verilog_trees.specs.Syntax.{Expression, Expressions, Select, Selects}
use Rattle.verilog_text.specs.Token.{Mark, right_parenthesis, right_bracket, left_brace, right_brace, comma, colon, question, plus_colon, minus_colon, plus, minus, star, double_star, slash, percent, exclamation, tilde, ampersand, tilde_ampersand, bar, tilde_bar, caret, tilde_caret, caret_tilde, double_ampersand, double_bar, less, less_equals, greater, greater_equals, double_less, double_greater, triple_less, triple_greater, double_equals, exclamation_equals, triple_equals, exclamation_double_equals, Token, word, system, decimal, based, mark}
use Rattle.verilog_text.specs.Spelling.{Operator, operator_of, prefix_of, IsNumber, plain, unsized, of_size, IsExpression, tighter, chosen, joined, prefixed, a_number, a_name, bracketed, concatenated, replicated, made_signed, made_unsigned, AreExpressions, last_one, and_more, IsSelect, by_index, by_part, by_part_up, by_part_down, AreSelects, no_select, one_select, two_selects}
use Rattle.verilog_designs.specs.Names.{names_in, names_in_all, names_in_select, names_in_selects}
use Rattle.v_dotted.specs.Dotted.{owned_of, owned_tokens_of}
use Rattle.v_dotted.specs.declared.dotted.OwnedToken.{OwnedToken}
use Rattle.map_expressions.specs.Reading.{words_of}

-- ---- operators

abbrev JoinsNames : Option Operator → Type 0
JoinsNames None = Unit {0}
JoinsNames (Some o) = (a b : Expression) → names_in (o.joins a b) ≡ names_in a ++ names_in b

joins_names : (m : Mark) → JoinsNames (operator_of m)
joins_names double_bar = λ a b. refl
joins_names double_ampersand = λ a b. refl
joins_names bar = λ a b. refl
joins_names caret = λ a b. refl
joins_names caret_tilde = λ a b. refl
joins_names tilde_caret = λ a b. refl
joins_names ampersand = λ a b. refl
joins_names double_equals = λ a b. refl
joins_names triple_equals = λ a b. refl
joins_names exclamation_equals = λ a b. refl
joins_names exclamation_double_equals = λ a b. refl
joins_names less = λ a b. refl
joins_names less_equals = λ a b. refl
joins_names greater = λ a b. refl
joins_names greater_equals = λ a b. refl
joins_names double_less = λ a b. refl
joins_names triple_less = λ a b. refl
joins_names double_greater = λ a b. refl
joins_names triple_greater = λ a b. refl
joins_names plus = λ a b. refl
joins_names minus = λ a b. refl
joins_names star = λ a b. refl
joins_names slash = λ a b. refl
joins_names percent = λ a b. refl
joins_names double_star = λ a b. refl
joins_names _ = tt

both_names : (m : Mark) (o : Operator) → operator_of m ≡ Some o → (a b : Expression) → names_in (o.joins a b) ≡ names_in a ++ names_in b
both_names m o known = subst JoinsNames known (joins_names m)

abbrev KeepsNames : Option (Expression → Expression) → Type 0
KeepsNames None = Unit {0}
KeepsNames (Some f) = (a : Expression) → names_in (f a) ≡ names_in a

keeps_names : (m : Mark) → KeepsNames (prefix_of m)
keeps_names plus = λ a. refl
keeps_names minus = λ a. refl
keeps_names tilde = λ a. refl
keeps_names exclamation = λ a. refl
keeps_names ampersand = λ a. refl
keeps_names tilde_ampersand = λ a. refl
keeps_names bar = λ a. refl
keeps_names tilde_bar = λ a. refl
keeps_names caret = λ a. refl
keeps_names tilde_caret = λ a. refl
keeps_names caret_tilde = λ a. refl
keeps_names _ = tt

one_names : (m : Mark) (f : Expression → Expression) → prefix_of m ≡ Some f → (a : Expression) → names_in (f a) ≡ names_in a
one_names m f known = subst KeepsNames known (keeps_names m)

-- ---- expressions

two : (a b : List Name) (text more rest : List Name) → text ≡ a ++ more → more ≡ b ++ rest → text ≡ (a ++ b) ++ rest
two a b text more rest e f = e ∙ (ap (λ r. a ++ r) f ∙ sym (append_assoc a b rest))

number_words : (n : _) (text rest : List Token) → IsNumber n text rest → words_of text ≡ words_of rest
number_words _ _ _ (plain text rest) = refl
number_words _ _ _ (unsized text rest) = refl
number_words _ _ _ (of_size size text rest) = refl

mutual
  pub words_read : (k : ℕ) (e : Expression) (text rest : List Token) → IsExpression k e text rest → words_of text ≡ names_in e ++ words_of rest
  words_read _ _ _ _ (tighter k e text rest d) = words_read (suc k) e text rest d
  words_read _ _ _ _ (chosen c x y text value other rest dc dx dy) =
      two (names_in c ++ names_in x) (names_in y) (words_of text) (words_of other) (words_of rest)
      (two (names_in c) (names_in x) (words_of text) (words_of value) (words_of other)
      (words_read 1 c text (mark question ∷ value) dc) (words_read 0 x value (mark colon ∷ other) dx)) (words_read 0 y other rest dy)
  words_read _ _ _ _ (joined m o a b text more rest known da db) =
      two (names_in a) (names_in b) (words_of text) (words_of more) (words_of rest)
      (words_read o.level a text (mark m ∷ more) da) (words_read (suc o.level) b more rest db)
      ∙ ap (λ ns. ns ++ words_of rest) (sym (both_names m o known a b))
  words_read _ _ _ _ (prefixed m f a text rest known d) = words_read 12 a text rest d ∙ ap (λ ns. ns ++ words_of rest) (sym (one_names m f known a))
  words_read _ _ _ _ (a_number n text rest d) = number_words n text rest d
  words_read _ _ _ _ (a_name n s text rest named d) = ap (λ ns. n ∷ ns) (selects_words s text rest d)
  words_read _ _ _ _ (bracketed e text rest d) = words_read 0 e text (mark right_parenthesis ∷ rest) d
  words_read _ _ _ _ (concatenated es text rest d) = parts_words es text (mark right_brace ∷ rest) d
  words_read _ _ _ _ (replicated n es text parts rest dn d) =
      two (names_in n) (names_in_all es) (words_of text) (words_of parts) (words_of rest)
      (words_read 0 n text (mark left_brace ∷ parts) dn) (parts_words es parts (mark right_brace ∷ mark right_brace ∷ rest) d)
  words_read _ _ _ _ (made_signed e text rest d) = words_read 0 e text (mark right_parenthesis ∷ rest) d
  words_read _ _ _ _ (made_unsigned e text rest d) = words_read 0 e text (mark right_parenthesis ∷ rest) d

  parts_words : (es : Expressions) (text rest : List Token) → AreExpressions es text rest → words_of text ≡ names_in_all es ++ words_of rest
  parts_words _ _ _ (last_one e text rest d) =
      two (names_in e) [] (words_of text) (words_of rest) (words_of rest) (words_read 0 e text rest d) refl
  parts_words _ _ _ (and_more e es text more rest d ds) =
      two (names_in e) (names_in_all es) (words_of text) (words_of more) (words_of rest)
      (words_read 0 e text (mark comma ∷ more) d) (parts_words es more rest ds)

  select_words : (s : Select) (text rest : List Token) → IsSelect s text rest → words_of text ≡ names_in_select s ++ words_of rest
  select_words _ _ _ (by_index e text rest d) = words_read 0 e text (mark right_bracket ∷ rest) d
  select_words _ _ _ (by_part l r text more rest dl dr) =
      two (names_in l) (names_in r) (words_of text) (words_of more) (words_of rest)
      (words_read 0 l text (mark colon ∷ more) dl) (words_read 0 r more (mark right_bracket ∷ rest) dr)
  select_words _ _ _ (by_part_up l r text more rest dl dr) =
      two (names_in l) (names_in r) (words_of text) (words_of more) (words_of rest)
      (words_read 0 l text (mark plus_colon ∷ more) dl) (words_read 0 r more (mark right_bracket ∷ rest) dr)
  select_words _ _ _ (by_part_down l r text more rest dl dr) =
      two (names_in l) (names_in r) (words_of text) (words_of more) (words_of rest)
      (words_read 0 l text (mark minus_colon ∷ more) dl) (words_read 0 r more (mark right_bracket ∷ rest) dr)

  selects_words : (s : Selects) (text rest : List Token) → AreSelects s text rest → words_of text ≡ names_in_selects s ++ words_of rest
  selects_words _ _ _ (no_select rest) = refl
  selects_words _ _ _ (one_select s text rest d) = select_words s text rest d
  selects_words _ _ _ (two_selects s t text more rest d e) =
      two (names_in_select s) (names_in_select t) (words_of text) (words_of more) (words_of rest) (select_words s text more d) (select_words t more rest e)

-- the words of one token and of those after it
pub words_split : (t : Token) (ts : List Token) → words_of (t ∷ ts) ≡ words_of (t ∷ []) ++ words_of ts
words_split (word n) ts = refl
words_split (system n) ts = refl
words_split (decimal n) ts = refl
words_split (based n) ts = refl
words_split (mark m) ts = refl

-- the words of a whole text
pub whole_words : (e : Expression) (text : List Token) → IsExpression 0 e text [] → words_of text ≡ names_in e
whole_words e text d = words_read 0 e text [] d ∙ append-nil (names_in e)

-- ---- words that are gathered

drop_past : {A : Type 0} (xs : List A) (n : ℕ) → length xs ≤ n → drop n xs ≡ []
drop_past [] zero h = refl
drop_past [] (suc n) h = refl
drop_past (x ∷ xs) zero h = absurd (omega (arith, h))
drop_past (x ∷ xs) (suc n) h = drop_past xs n (omega (arith, h))

-- a turn
pub word_turn : (ns ms : List (Bor (List ℕ))) (ts : List OwnedToken) (i : ℕ) (t d : OwnedToken) (all : List Name) → i < length ts → t ≡ get_or ts i d
    → map (λ n. n.now) ms ≡ map (λ n. n.now) ns ++ words_of (owned_of t ∷ [])
    → (map (λ n. n.now) ns ++ words_of (owned_tokens_of (drop i ts))) ≡ all → (map (λ n. n.now) ms ++ words_of (owned_tokens_of (drop (i + 1) ts))) ≡ all
word_turn ns ms ts i t d all h is more e =
    let rest : List Name = words_of (owned_tokens_of (drop (i + 1) ts)) in
    let left : words_of (owned_tokens_of (drop i ts)) ≡ words_of (owned_of t ∷ []) ++ rest
    = ap (λ us. words_of (owned_tokens_of us)) (drop_more ts i d h ∙ ap (λ u. u ∷ drop (i + 1) ts) (sym is)) ∙ words_split (owned_of t) (owned_tokens_of (drop (i + 1) ts)) in
    ap (λ us. us ++ rest) more ∙ (append_assoc (map (λ n. n.now) ns) (words_of (owned_of t ∷ [])) rest ∙ (ap (λ us. map (λ n. n.now) ns ++ us) (sym left) ∙ e))

-- the end
pub word_end : (ns : List (Bor (List ℕ))) (ts : List OwnedToken) (n : ℕ) (all : List Name) → length ts ≤ n
    → (map (λ k. k.now) ns ++ words_of (owned_tokens_of (drop n ts))) ≡ all → map (λ k. k.now) ns ≡ all
word_end ns ts n all h e =
    sym (append-nil (map (λ k. k.now) ns)) ∙ (ap (λ us. map (λ k. k.now) ns ++ words_of (owned_tokens_of us)) (sym (drop_past ts n h)) ∙ e)

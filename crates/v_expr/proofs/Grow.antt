-- An expression has at least one token, so each turn of a loop takes something; more turns than tokens change nothing.
use Rattle.std.proofs.Common.{◌≡◌, ℕ, zero, suc, ◌<◌, ◌≤◌, List, ◌∷◌, length, Option, Some, None, refl, ap, ◌∙◌, arith}
use Rattle.verilog_text.specs.Token.{right_parenthesis, right_bracket, left_brace, right_brace, comma, colon, question, Token, mark}
use Rattle.verilog_trees.specs.Syntax as tree
use Rattle.verilog_trees.specs.Syntax.{Number, Expression, Expressions, Select, Selects}
use Rattle.verilog_text.specs.Spelling.{IsNumber, plain, unsized, of_size, IsExpression, tighter, chosen, joined, prefixed, a_number, a_name, bracketed, concatenated, replicated, made_signed, made_unsigned, AreExpressions, last_one, and_more, IsSelect, by_index, by_part, by_part_up, by_part_down, AreSelects, no_select, one_select, two_selects}
use Rattle.v_expr.specs.Repeat.{◌>>=◌, choose, Read}
use Rattle.v_expr.specs.Reading.{after_mark, Reader, next_at, joins_at, links_at, linked_at, tier_at, choices_at, conditional_at}
use Rattle.v_expr.proofs.Repeat.{Shrinks}
use Rattle.v_expr.proofs.Places.{mark_spelled}
use Rattle.v_expr.proofs.Spelled.{bound, Spells, SpellsAt, joins_spelled, tier_spelled}

number_longer : (n : Number) (text rest : List Token) → IsNumber n text rest → length rest < length text
number_longer _ _ _ (plain text rest) = omega arith
number_longer _ _ _ (unsized text rest) = omega arith
number_longer _ _ _ (of_size size text rest) = omega arith

mutual
  pub longer : (k : ℕ) (e : Expression) (text rest : List Token) → IsExpression k e text rest → length rest < length text
  longer _ _ _ _ (tighter k e text rest d) = longer (suc k) e text rest d
  longer _ _ _ _ (chosen c x y text value other rest dc dx dy) =
      omega (arith, longer 1 c text (mark question ∷ value) dc, longer 0 x value (mark colon ∷ other) dx, longer 0 y other rest dy)
  longer _ _ _ _ (joined m o a b text more rest known da db) = omega (arith, longer o.level a text (mark m ∷ more) da, longer (suc o.level) b more rest db)
  longer _ _ _ _ (prefixed m f a text rest known d) = omega (arith, longer 12 a text rest d)
  longer _ _ _ _ (a_number n text rest d) = number_longer n text rest d
  longer _ _ _ _ (a_name n s text rest named d) = omega (arith, selects_longer s text rest d)
  longer _ _ _ _ (bracketed e text rest d) = omega (arith, longer 0 e text (mark right_parenthesis ∷ rest) d)
  longer _ _ _ _ (concatenated es text rest d) = omega (arith, parts_longer es text (mark right_brace ∷ rest) d)
  longer _ _ _ _ (replicated n es text parts rest dn d) =
      omega (arith, longer 0 n text (mark left_brace ∷ parts) dn, parts_longer es parts (mark right_brace ∷ mark right_brace ∷ rest) d)
  longer _ _ _ _ (made_signed e text rest d) = omega (arith, longer 0 e text (mark right_parenthesis ∷ rest) d)
  longer _ _ _ _ (made_unsigned e text rest d) = omega (arith, longer 0 e text (mark right_parenthesis ∷ rest) d)

  parts_longer : (es : Expressions) (text rest : List Token) → AreExpressions es text rest → length rest < length text
  parts_longer _ _ _ (last_one e text rest d) = longer 0 e text rest d
  parts_longer _ _ _ (and_more e es text more rest d ds) = omega (arith, longer 0 e text (mark comma ∷ more) d, parts_longer es more rest ds)

  select_longer : (s : Select) (text rest : List Token) → IsSelect s text rest → length rest < length text
  select_longer _ _ _ (by_index e text rest d) = omega (arith, longer 0 e text (mark right_bracket ∷ rest) d)
  select_longer _ _ _ (by_part l r text more rest dl dr) = omega (arith, longer 0 l text _ dl, longer 0 r more (mark right_bracket ∷ rest) dr)
  select_longer _ _ _ (by_part_up l r text more rest dl dr) = omega (arith, longer 0 l text _ dl, longer 0 r more (mark right_bracket ∷ rest) dr)
  select_longer _ _ _ (by_part_down l r text more rest dl dr) = omega (arith, longer 0 l text _ dl, longer 0 r more (mark right_bracket ∷ rest) dr)

  selects_longer : (s : Selects) (text rest : List Token) → AreSelects s text rest → length rest ≤ length text
  selects_longer _ _ _ (no_select rest) = omega arith
  selects_longer _ _ _ (one_select s text rest d) = omega (arith, select_longer s text rest d)
  selects_longer _ _ _ (two_selects s t text more rest d e) = omega (arith, select_longer s text more d, select_longer t more rest e)

-- each reading takes something
pub shrinks : (k : ℕ) (reader : Reader) → SpellsAt k reader → Shrinks reader
shrinks k reader spells ts x rest e = longer k x ts rest (spells ts (x, rest) e)

pub next_shrinks : (reader : Reader) → Spells reader → Shrinks (next_at reader)
unfolding next_at
next_shrinks reader spells ts x rest e =
    let w = bound e in
    let shorter : length rest < length w.0 = shrinks 0 reader spells w.0 x rest w.2 in
    let parts : length ts ≡ suc (length w.0) = ap (λ (us : List Token). length us) (mark_spelled comma w.1) in
    omega (arith, shorter, parts)

joins_shrinks : (k : ℕ) (ts : List Token) (f : (Expression → Expression → Expression) × List Token) → joins_at k ts ≡ Some f → length ts ≡ suc (length f.1)
joins_shrinks k ts f e = ap (λ (us : List Token). length us) (joins_spelled k ts f e).parts

-- ---- links

links_operand : (k : ℕ) (operand_at : Reader) → Shrinks operand_at → (n m : ℕ) (a : Expression) (ts : List Token) (f : (Expression → Expression → Expression) × List Token)
    → length ts < suc n → length ts < suc m → length ts ≡ suc (length f.1)
    → ((b : Expression) (us : List Token) → length us < n → length us < m → links_at k operand_at n b us ≡ links_at k operand_at m b us)
    → (r : Read Token Expression) → operand_at f.1 ≡ r
    → (r >>= λ b. links_at k operand_at n (f.0 a b.0) b.1) ≡ (r >>= λ b. links_at k operand_at m (f.0 a b.0) b.1)
links_operand k operand_at small n m a ts f lt below parts hyp None is = refl
links_operand k operand_at small n m a ts f lt below parts hyp (Some b) is =
    let shorter : length b.1 < length f.1 = small f.1 b.0 b.1 is in
    hyp (f.0 a b.0) b.1 (omega (arith, shorter, lt, parts)) (omega (arith, shorter, below, parts))

links_joint : (k : ℕ) (operand_at : Reader) → Shrinks operand_at → (n m : ℕ) (a : Expression) (ts : List Token) → length ts < suc n → length ts < suc m
    → ((b : Expression) (us : List Token) → length us < n → length us < m → links_at k operand_at n b us ≡ links_at k operand_at m b us)
    → (o : Read Token (Expression → Expression → Expression)) → joins_at k ts ≡ o
    → choose o (λ f. operand_at f.1 >>= λ b. links_at k operand_at n (f.0 a b.0) b.1) (Some (a, ts)) ≡ choose o (λ f. operand_at f.1 >>= λ b. links_at k operand_at m (f.0 a b.0) b.1) (Some (a, ts))
links_joint k operand_at small n m a ts lt below hyp None is = refl
links_joint k operand_at small n m a ts lt below hyp (Some f) is = links_operand k operand_at small n m a ts f lt below (joins_shrinks k ts f is) hyp (operand_at f.1) refl

pub links-turns : (k : ℕ) (operand_at : Reader) → Shrinks operand_at → (n m : ℕ) (a : Expression) (ts : List Token) → length ts < n → length ts < m
    → links_at k operand_at n a ts ≡ links_at k operand_at m a ts
unfolding links_at
links-turns k operand_at small zero m a ts lt below = absurd (omega arith)
links-turns k operand_at small (suc n) zero a ts lt below = absurd (omega arith)
links-turns k operand_at small (suc n) (suc m) a ts lt below =
    links_joint k operand_at small n m a ts lt below (λ b us p q. links-turns k operand_at small n m b us p q) (joins_at k ts) refl

-- one link more
pub linked-on : (k : ℕ) (operand_at : Reader) → Shrinks operand_at → (a : Expression) (ts : List Token) (f : (Expression → Expression → Expression) × List Token) (b : Expression) (rest : List Token)
    → joins_at k ts ≡ Some f → operand_at f.1 ≡ Some (b, rest) → linked_at k operand_at a ts ≡ linked_at k operand_at (f.0 a b) rest
unfolding linked_at links_at
linked-on k operand_at small a ts f b rest at_operator at_operand =
    let shorter : length rest < length f.1 = small f.1 b rest at_operand in
    let parts : length ts ≡ suc (length f.1) = joins_shrinks k ts f at_operator in
    let now : linked_at k operand_at a ts ≡ links_at k operand_at (length ts) (f.0 a b) rest = rw (at_operator, at_operand) refl in
    now ∙ links-turns k operand_at small (length ts) (suc (length rest)) (f.0 a b) rest (omega (arith, shorter, parts)) (omega arith)

-- no further link
pub linked-over : (k : ℕ) (operand_at : Reader) (a : Expression) (ts : List Token) → joins_at k ts ≡ None → linked_at k operand_at a ts ≡ Some (a, ts)
unfolding linked_at links_at
linked-over k operand_at a ts at_operator = rw at_operator refl

-- no operand behind an operator
pub linked-lost : (k : ℕ) (operand_at : Reader) (a : Expression) (ts : List Token) (f : (Expression → Expression → Expression) × List Token)
    → joins_at k ts ≡ Some f → operand_at f.1 ≡ None → linked_at k operand_at a ts ≡ None
unfolding linked_at links_at
linked-lost k operand_at a ts f at_operator at_operand = rw (at_operator, at_operand) refl

-- ---- conditions with values

-- a condition and a value in front of what is read
abbrev pub before_choice : Expression → Expression → Read Token Expression → Read Token Expression
before_choice c x r = r >>= λ y. Some (tree.conditional c x y.0, y.1)

choices_other : (whole_at : Reader) (n m : ℕ) (c x : Expression) (ts : List Token) (bounded : ℕ) → length ts < bounded → bounded ≤ n → bounded ≤ m
    → ((us : List Token) → length us < n → length us < m → choices_at whole_at n us ≡ choices_at whole_at m us)
    → (o : Option (List Token)) → after_mark colon ts ≡ o
    → (o >>= λ other. before_choice c x (choices_at whole_at n other)) ≡ (o >>= λ other. before_choice c x (choices_at whole_at m other))
choices_other whole_at n m c x ts bounded lt p q hyp None is = refl
choices_other whole_at n m c x ts bounded lt p q hyp (Some other) is =
    let parts : length ts ≡ suc (length other) = ap (λ (us : List Token). length us) (mark_spelled colon is) in
    ap (before_choice c x) (hyp other (omega (arith, parts, lt, p)) (omega (arith, parts, lt, q)))

choices_value : (whole_at : Reader) → Spells whole_at → (n m : ℕ) (c : Expression) (value : List Token) (bounded : ℕ) → length value < bounded → bounded ≤ n → bounded ≤ m
    → ((us : List Token) → length us < n → length us < m → choices_at whole_at n us ≡ choices_at whole_at m us)
    → (r : Read Token Expression) → whole_at value ≡ r
    → (r >>= λ x. after_mark colon x.1 >>= λ other. before_choice c x.0 (choices_at whole_at n other)) ≡ (r >>= λ x. after_mark colon x.1 >>= λ other. before_choice c x.0 (choices_at whole_at m other))
choices_value whole_at spells n m c value bounded lt p q hyp None is = refl
choices_value whole_at spells n m c value bounded lt p q hyp (Some x) is =
    let shorter : length x.1 < length value = shrinks 0 whole_at spells value x.0 x.1 is in
    choices_other whole_at n m c x.0 x.1 bounded (omega (arith, shorter, lt)) p q hyp (after_mark colon x.1) refl

choices_question : (whole_at : Reader) → Spells whole_at → (n m : ℕ) (c : Expression) (ts : List Token) (bounded : ℕ) → length ts < bounded → bounded ≤ n → bounded ≤ m
    → ((us : List Token) → length us < n → length us < m → choices_at whole_at n us ≡ choices_at whole_at m us)
    → (o : Option (List Token)) → after_mark question ts ≡ o
    → choose o (λ value. whole_at value >>= λ x. after_mark colon x.1 >>= λ other. before_choice c x.0 (choices_at whole_at n other)) (Some (c, ts))
    ≡ choose o (λ value. whole_at value >>= λ x. after_mark colon x.1 >>= λ other. before_choice c x.0 (choices_at whole_at m other)) (Some (c, ts))
choices_question whole_at spells n m c ts bounded lt p q hyp None is = refl
choices_question whole_at spells n m c ts bounded lt p q hyp (Some value) is =
    let parts : length ts ≡ suc (length value) = ap (λ (us : List Token). length us) (mark_spelled question is) in
    choices_value whole_at spells n m c value bounded (omega (arith, parts, lt)) p q hyp (whole_at value) refl

choices_condition : (whole_at : Reader) → Spells whole_at → (n m : ℕ) (ts : List Token) → length ts < suc n → length ts < suc m
    → ((us : List Token) → length us < n → length us < m → choices_at whole_at n us ≡ choices_at whole_at m us)
    → (r : Read Token Expression) → tier_at 11 whole_at ts ≡ r
    → (r >>= λ c. choose (after_mark question c.1) (λ value. whole_at value >>= λ x. after_mark colon x.1 >>= λ other. before_choice c.0 x.0 (choices_at whole_at n other)) (Some (c.0, c.1)))
    ≡ (r >>= λ c. choose (after_mark question c.1) (λ value. whole_at value >>= λ x. after_mark colon x.1 >>= λ other. before_choice c.0 x.0 (choices_at whole_at m other)) (Some (c.0, c.1)))
choices_condition whole_at spells n m ts lt below hyp None is = refl
choices_condition whole_at spells n m ts lt below hyp (Some c) is =
    let shorter : length c.1 < length ts = shrinks 1 (tier_at 11 whole_at) (tier_spelled whole_at spells 11 (omega arith)) ts c.0 c.1 is in
    choices_question whole_at spells n m c.0 c.1 (length ts) shorter (omega (arith, lt)) (omega (arith, below)) hyp (after_mark question c.1) refl

pub choices-turns : (whole_at : Reader) → Spells whole_at → (n m : ℕ) (ts : List Token) → length ts < n → length ts < m → choices_at whole_at n ts ≡ choices_at whole_at m ts
unfolding choices_at
choices-turns whole_at spells zero m ts lt below = absurd (omega arith)
choices-turns whole_at spells (suc n) zero ts lt below = absurd (omega arith)
choices-turns whole_at spells (suc n) (suc m) ts lt below =
    choices_condition whole_at spells n m ts lt below (λ us p q. choices-turns whole_at spells n m us p q) (tier_at 11 whole_at ts) refl

-- one choice more
pub conditional-on : (whole_at : Reader) → Spells whole_at → (ts : List Token) (c : Expression) (behind value : List Token) (x : Expression) (after other : List Token)
    → tier_at 11 whole_at ts ≡ Some (c, behind) → after_mark question behind ≡ Some value → whole_at value ≡ Some (x, after) → after_mark colon after ≡ Some other
    → conditional_at whole_at ts ≡ before_choice c x (conditional_at whole_at other)
unfolding conditional_at choices_at
conditional-on whole_at spells ts c behind value x after other at_condition at_question at_value at_colon =
    let a : length behind < length ts = shrinks 1 (tier_at 11 whole_at) (tier_spelled whole_at spells 11 (omega arith)) ts c behind at_condition in
    let b : length behind ≡ suc (length value) = ap (λ (us : List Token). length us) (mark_spelled question at_question) in
    let d : length after < length value = shrinks 0 whole_at spells value x after at_value in
    let e : length after ≡ suc (length other) = ap (λ (us : List Token). length us) (mark_spelled colon at_colon) in
    let now : conditional_at whole_at ts ≡ before_choice c x (choices_at whole_at (length ts) other) = rw (at_condition, at_question, at_value, at_colon) refl in
    now ∙ ap (before_choice c x) (choices-turns whole_at spells (length ts) (suc (length other)) other (omega (arith, a, b, d, e)) (omega arith))

-- the last value
pub conditional-over : (whole_at : Reader) (ts : List Token) (c : Expression) (rest : List Token) → tier_at 11 whole_at ts ≡ Some (c, rest) → after_mark question rest ≡ None
    → conditional_at whole_at ts ≡ Some (c, rest)
unfolding conditional_at choices_at
conditional-over whole_at ts c rest at_condition at_question = rw (at_condition, at_question) refl

-- no condition
pub conditional-lost : (whole_at : Reader) (ts : List Token) → tier_at 11 whole_at ts ≡ None → conditional_at whole_at ts ≡ None
unfolding conditional_at choices_at
conditional-lost whole_at ts at_condition = rw at_condition refl

-- no value behind ?
pub conditional-no_value : (whole_at : Reader) (ts : List Token) (c : Expression) (behind value : List Token) → tier_at 11 whole_at ts ≡ Some (c, behind)
    → after_mark question behind ≡ Some value → whole_at value ≡ None → conditional_at whole_at ts ≡ None
unfolding conditional_at choices_at
conditional-no_value whole_at ts c behind value at_condition at_question at_value = rw (at_condition, at_question, at_value) refl

-- no : behind the value
pub conditional-no_colon : (whole_at : Reader) (ts : List Token) (c : Expression) (behind value : List Token) (x : Expression) (after : List Token) → tier_at 11 whole_at ts ≡ Some (c, behind)
    → after_mark question behind ≡ Some value → whole_at value ≡ Some (x, after) → after_mark colon after ≡ None → conditional_at whole_at ts ≡ None
unfolding conditional_at choices_at
conditional-no_colon whole_at ts c behind value x after at_condition at_question at_value at_colon = rw (at_condition, at_question, at_value, at_colon) refl

-- What is spelled so, in front of what does not go on with it, is read.
use Rattle.std.proofs.Common.{◌≡◌, ℕ, zero, suc, ◌+◌, ◌<◌, ◌≤◌, max, Bool, true, false, cond, List, [], ◌∷◌, length, Option, Some, None, refl, sym, ap, ◌∙◌, subst, arith}
use Rattle.std.specs.Prelude.{◌-◌, ◌==◌, codes}
use Rattle.std.proofs.lemmas.Bool.{eqb-true, eq-eqb}
use Rattle.wb_values.specs.Value.{Name}
use Rattle.verilog_text.specs.Token.{Mark, left_parenthesis, right_parenthesis, left_bracket, right_bracket, left_brace, right_brace, comma, semicolon, colon, dot, hash, at, question, equals, plus_colon, minus_colon, plus, minus, star, double_star, slash, percent, exclamation, tilde, ampersand, tilde_ampersand, bar, tilde_bar, caret, tilde_caret, caret_tilde, double_ampersand, double_bar, less, less_equals, greater, greater_equals, double_less, double_greater, triple_less, triple_greater, double_equals, exclamation_equals, triple_equals, exclamation_double_equals, Token, word, system, decimal, based, mark}
use Rattle.verilog_trees.specs.Syntax as tree
use Rattle.verilog_trees.specs.Syntax.{Number, Expression, Expressions, no_expressions, expression, Select, Selects, whole, one, two}
use Rattle.verilog_text.specs.Spelling.{prefix_of, Operator, operator_of, IsIdentifier, IsNumber, plain, unsized, of_size, IsExpression, tighter, chosen, joined, prefixed, a_number, a_name, bracketed, concatenated, replicated, made_signed, made_unsigned, AreExpressions, last_one, and_more, IsSelect, by_index, by_part, by_part_up, by_part_down, AreSelects, no_select, one_select, two_selects}
use Rattle.v_expr.specs.Ending.{is_same_mark, IsWithin, Ends, nesting, nesting_of_parts, nesting_of_select, nesting_of_selects}
use Rattle.v_expr.specs.Repeat.{◌>>=◌, Read, repeated}
use Rattle.v_expr.specs.Reading.{after_mark, number_at, number_expression_at, more_parts_at, limit_at, Reader, as_expressions, next_at, parts_at, expressions_at, copies_at, concatenation_at, braces_at, inside_at, converted_at, conversion_at, second_at, limits_at, select_at, second_select_at, selects_at, named_at, alone_at, prefixed_at, of_level, joins_at, linked_at, chain_at, tier_at, expression_at}
use Rattle.v_expr.proofs.Repeat.{some_is, Chain, many_of_chain}
use Rattle.v_expr.proofs.Places.{same_place, mark_again, other_mark}
use Rattle.v_expr.proofs.Spelled.{Spells, expression_spelled, tier_spelled}
use Rattle.v_expr.proofs.Grow.{shrinks, next_shrinks, linked-on, linked-over, conditional-on, conditional-over}

-- ---- what ends

level_of : Option Operator → ℕ
level_of (Some o) = o.level
level_of None = 1

some_level : (o : Option Operator) (p : Operator) → o ≡ Some p → level_of o ≡ p.level
unfolding level_of
some_level o p e = ap level_of e

level_between : (m : Mark) → (0 < level_of (operator_of m)) × (level_of (operator_of m) ≤ 11)
unfolding level_of
level_between left_parenthesis = (omega arith, omega arith)
level_between right_parenthesis = (omega arith, omega arith)
level_between left_bracket = (omega arith, omega arith)
level_between right_bracket = (omega arith, omega arith)
level_between left_brace = (omega arith, omega arith)
level_between right_brace = (omega arith, omega arith)
level_between comma = (omega arith, omega arith)
level_between semicolon = (omega arith, omega arith)
level_between colon = (omega arith, omega arith)
level_between dot = (omega arith, omega arith)
level_between hash = (omega arith, omega arith)
level_between at = (omega arith, omega arith)
level_between question = (omega arith, omega arith)
level_between equals = (omega arith, omega arith)
level_between plus_colon = (omega arith, omega arith)
level_between minus_colon = (omega arith, omega arith)
level_between plus = (omega arith, omega arith)
level_between minus = (omega arith, omega arith)
level_between star = (omega arith, omega arith)
level_between double_star = (omega arith, omega arith)
level_between slash = (omega arith, omega arith)
level_between percent = (omega arith, omega arith)
level_between exclamation = (omega arith, omega arith)
level_between tilde = (omega arith, omega arith)
level_between ampersand = (omega arith, omega arith)
level_between tilde_ampersand = (omega arith, omega arith)
level_between bar = (omega arith, omega arith)
level_between tilde_bar = (omega arith, omega arith)
level_between caret = (omega arith, omega arith)
level_between tilde_caret = (omega arith, omega arith)
level_between caret_tilde = (omega arith, omega arith)
level_between double_ampersand = (omega arith, omega arith)
level_between double_bar = (omega arith, omega arith)
level_between less = (omega arith, omega arith)
level_between less_equals = (omega arith, omega arith)
level_between greater = (omega arith, omega arith)
level_between greater_equals = (omega arith, omega arith)
level_between double_less = (omega arith, omega arith)
level_between double_greater = (omega arith, omega arith)
level_between triple_less = (omega arith, omega arith)
level_between triple_greater = (omega arith, omega arith)
level_between double_equals = (omega arith, omega arith)
level_between exclamation_equals = (omega arith, omega arith)
level_between triple_equals = (omega arith, omega arith)
level_between exclamation_double_equals = (omega arith, omega arith)

-- the levels of operators
operator_between : (m : Mark) (o : Operator) → operator_of m ≡ Some o → (0 < o.level) × (o.level ≤ 11)
operator_between m o e = let l = level_between m in let same = some_level (operator_of m) o e in (omega (arith, l.0, same), omega (arith, l.1, same))

within_more : (k : ℕ) (o : Option Operator) → IsWithin k o → IsWithin (suc k) o
within_more k (Some o) h = omega arith
within_more k None h = tt

ends_more : (k : ℕ) (rest : List Token) → Ends k rest → Ends (suc k) rest
ends_more k [] h = tt
ends_more k (mark m ∷ rest) h = (within_more k (operator_of m) h.0, h.1, λ z. absurd (omega (arith, z)))
ends_more k (word n ∷ rest) h = tt
ends_more k (system n ∷ rest) h = tt
ends_more k (decimal n ∷ rest) h = tt
ends_more k (based n ∷ rest) h = h

level_by : (k : ℕ) (o : Operator) (b : Bool) → (o.level == suc k) ≡ b → o.level ≤ k → cond b (Some o.joins) None ≡ None
level_by k o true e h = let same = eqb-true o.level (suc k) e in absurd (omega (arith, same, h))
level_by k o false e h = refl

none_above : (k : ℕ) (o : Option Operator) → IsWithin k o → (o >>= of_level (suc k)) ≡ None
none_above k (Some o) h = level_by k o (o.level == suc k) refl h
none_above k None h = refl

none_from : {A B : Type 0} (r : Option A) (f : A → Option B) → r ≡ None → (r >>= f) ≡ None
none_from (Some x) f e = absurd cc
none_from None f e = refl

-- no operator of the next level goes on
no_link : (k : ℕ) (rest : List Token) → Ends k rest → joins_at (suc k) rest ≡ None
unfolding joins_at
no_link k [] h = refl
no_link k (mark m ∷ rest) h = none_from (operator_of m >>= of_level (suc k)) _ (none_above k (operator_of m) h.0)
no_link k (word n ∷ rest) h = refl
no_link k (system n ∷ rest) h = refl
no_link k (decimal n ∷ rest) h = refl
no_link k (based n ∷ rest) h = refl

no_question : (rest : List Token) → Ends 0 rest → after_mark question rest ≡ None
unfolding after_mark
no_question [] h = refl
no_question (mark m ∷ rest) h = rw (h.2 refl) refl
no_question (word n ∷ rest) h = refl
no_question (system n ∷ rest) h = refl
no_question (decimal n ∷ rest) h = refl
no_question (based n ∷ rest) h = refl

no_bracket : (k : ℕ) (rest : List Token) → Ends k rest → after_mark left_bracket rest ≡ None
unfolding after_mark
no_bracket k [] h = refl
no_bracket k (mark m ∷ rest) h = rw h.1 refl
no_bracket k (word n ∷ rest) h = refl
no_bracket k (system n ∷ rest) h = refl
no_bracket k (decimal n ∷ rest) h = refl
no_bracket k (based n ∷ rest) h = refl

-- the operator of a link
joint_again : (m : Mark) (o : Operator) (more : List Token) → operator_of m ≡ Some o → joins_at o.level (mark m ∷ more) ≡ Some (o.joins, more)
unfolding joins_at
joint_again m o more known = let same : (o.level == o.level) ≡ true = eq-eqb o.level o.level refl in rw (known, same) refl

bracket_by : (m : Mark) (o : Operator) (b : Bool) → is_same_mark m left_bracket ≡ b → operator_of m ≡ Some o → b ≡ false
bracket_by m o true e known = let same : m ≡ left_bracket = same_place m left_bracket (eqb-true _ _ e) in absurd (let f : operator_of left_bracket ≡ Some o = ap operator_of (sym same) ∙ known in cc)
bracket_by m o false e known = refl

within_some : (o : Operator) (p : Option Operator) → p ≡ Some o → IsWithin o.level p
within_some o p e = subst (IsWithin o.level) (sym e) (omega arith)

-- an operator of a level ends an operand before it
operator_ends : (m : Mark) (o : Operator) (more : List Token) → operator_of m ≡ Some o → Ends o.level (mark m ∷ more)
operator_ends m o more known =
    (within_some o (operator_of m) known, bracket_by m o (is_same_mark m left_bracket) refl known, λ z. absurd (let l = operator_between m o known in omega (arith, z, l.0)))

-- ---- what stands alone

number_again : (k : ℕ) (n : Number) (text rest : List Token) → IsNumber n text rest → Ends k rest → number_at text ≡ Some (n, rest)
unfolding number_at
number_again k _ _ _ (plain text []) h = refl
number_again k _ _ _ (plain text (mark m ∷ rest)) h = refl
number_again k _ _ _ (plain text (word n ∷ rest)) h = refl
number_again k _ _ _ (plain text (system n ∷ rest)) h = refl
number_again k _ _ _ (plain text (decimal n ∷ rest)) h = refl
number_again k _ _ _ (plain text (based n ∷ rest)) h = absurd h
number_again k _ _ _ (unsized text rest) h = refl
number_again k _ _ _ (of_size size text rest) h = refl

number_alone : (whole_at : Reader) (n : Number) (text rest : List Token) → IsNumber n text rest → number_at text ≡ Some (n, rest) → alone_at whole_at text ≡ Some (tree.number n, rest)
unfolding alone_at number_expression_at
number_alone whole_at _ _ _ (plain text rest) h = rw h refl
number_alone whole_at _ _ _ (unsized text rest) h = rw h refl
number_alone whole_at _ _ _ (of_size size text rest) h = rw h refl

-- no prefix operator stands in front
alone_prefixed : (whole_at : Reader) (ts : List Token) (y : Expression × List Token) → alone_at whole_at ts ≡ Some y → prefixed_at whole_at ts ≡ Some y
unfolding alone_at prefixed_at
alone_prefixed whole_at [] y h = h
alone_prefixed whole_at (word n ∷ ts) y h = h
alone_prefixed whole_at (system n ∷ ts) y h = h
alone_prefixed whole_at (decimal n ∷ ts) y h = h
alone_prefixed whole_at (based n ∷ ts) y h = h
alone_prefixed whole_at (mark left_parenthesis ∷ ts) y h = h
alone_prefixed whole_at (mark left_brace ∷ ts) y h = h
alone_prefixed whole_at (mark _ ∷ ts) y h = absurd cc

prefix_again : (whole_at : Reader) (m : Mark) (f : Expression → Expression) (a : Expression) (text rest : List Token) → prefix_of m ≡ Some f → prefixed_at whole_at text ≡ Some (a, rest)
    → prefixed_at whole_at (mark m ∷ text) ≡ Some (f a, rest)
unfolding prefixed_at
prefix_again whole_at m f a text rest known h = rw (known, h) refl

inside_again : (whole_at : Reader) (e : Expression) (text rest : List Token) → whole_at text ≡ Some (e, mark right_parenthesis ∷ rest) → inside_at whole_at text ≡ Some (e, rest)
unfolding inside_at
inside_again whole_at e text rest h = rw (h, mark_again right_parenthesis rest) refl

signed_again : (whole_at : Reader) (e : Expression) (text rest : List Token) → whole_at text ≡ Some (e, mark right_parenthesis ∷ rest)
    → alone_at whole_at (system (codes "$signed") ∷ mark left_parenthesis ∷ text) ≡ Some (tree.as_signed e, rest)
unfolding alone_at conversion_at converted_at
signed_again whole_at e text rest h = rw (mark_again left_parenthesis text, inside_again whole_at e text rest h) refl

unsigned_again : (whole_at : Reader) (e : Expression) (text rest : List Token) → whole_at text ≡ Some (e, mark right_parenthesis ∷ rest)
    → alone_at whole_at (system (codes "$unsigned") ∷ mark left_parenthesis ∷ text) ≡ Some (tree.as_unsigned e, rest)
unfolding alone_at conversion_at converted_at
unsigned_again whole_at e text rest h = rw (mark_again left_parenthesis text, inside_again whole_at e text rest h) refl

bracketed_again : (whole_at : Reader) (e : Expression) (text rest : List Token) → whole_at text ≡ Some (e, mark right_parenthesis ∷ rest)
    → alone_at whole_at (mark left_parenthesis ∷ text) ≡ Some (e, rest)
unfolding alone_at
bracketed_again whole_at e text rest h = inside_again whole_at e text rest h

named_again : (whole_at : Reader) (n : Name) (s : Selects) (text rest : List Token) → IsIdentifier n → selects_at whole_at text ≡ Some (s, rest)
    → alone_at whole_at (word n ∷ text) ≡ Some (tree.name n s, rest)
unfolding alone_at named_at
named_again whole_at n s text rest named h = rw (named, h) refl

-- parts with commas between them, up to a closing brace, by their readings
record ArePartsRead (whole_at : Reader) (es : Expressions) (text rest : List Token) : Type 0 where
  first : Expression
  more : List Token
  others : List Expression
  are : as_expressions (first ∷ others) ≡ es
  first_read : whole_at text ≡ Some (first, more)
  is_no_count : after_mark left_brace more ≡ None
  others_read : Chain (after_mark right_brace) (next_at whole_at) others more rest

others_again : (whole_at : Reader) → Spells whole_at → (es : Expressions) (text rest : List Token) (p : ArePartsRead whole_at es text rest) → parts_at whole_at p.more ≡ Some (p.others, rest)
unfolding parts_at repeated
others_again whole_at spells es text rest p =
    many_of_chain (after_mark right_brace) (next_at whole_at) (next_shrinks whole_at spells) (suc (length p.more)) p.others p.more rest (omega arith) p.others_read

concatenated_again : (whole_at : Reader) → Spells whole_at → (es : Expressions) (text rest : List Token) → ArePartsRead whole_at es text rest
    → alone_at whole_at (mark left_brace ∷ text) ≡ Some (tree.concatenation es, rest)
unfolding alone_at braces_at concatenation_at more_parts_at
concatenated_again whole_at spells es text rest p =
    let now : alone_at whole_at (mark left_brace ∷ text) ≡ Some (tree.concatenation (as_expressions (p.first ∷ p.others)), rest) = rw (p.first_read, p.is_no_count, others_again whole_at spells es text rest p) refl in
    now ∙ ap (λ (xs : Expressions). Some (tree.concatenation xs, rest)) p.are

replicated_again : (whole_at : Reader) → Spells whole_at → (n : Expression) (es : Expressions) (text parts rest : List Token) → whole_at text ≡ Some (n, mark left_brace ∷ parts)
    → ArePartsRead whole_at es parts (mark right_brace ∷ rest) → alone_at whole_at (mark left_brace ∷ text) ≡ Some (tree.replication n es, rest)
unfolding alone_at braces_at copies_at expressions_at more_parts_at
replicated_again whole_at spells n es text parts rest h p =
    let now : alone_at whole_at (mark left_brace ∷ text) ≡ Some (tree.replication n (as_expressions (p.first ∷ p.others)), rest) =
    rw (h, mark_again left_brace parts, p.first_read, others_again whole_at spells es parts (mark right_brace ∷ rest) p, mark_again right_brace rest) refl in
    now ∙ ap (λ (xs : Expressions). Some (tree.replication n xs, rest)) p.are

-- ---- selects

index_again : (whole_at : Reader) (e : Expression) (text rest : List Token) → whole_at text ≡ Some (e, mark right_bracket ∷ rest) → select_at whole_at text ≡ Some (tree.index e, rest)
unfolding select_at limits_at
index_again whole_at e text rest h = rw (h, mark_again right_bracket rest) refl

part_again : (whole_at : Reader) (l r : Expression) (text more rest : List Token) → whole_at text ≡ Some (l, mark colon ∷ more) → whole_at more ≡ Some (r, mark right_bracket ∷ rest)
    → select_at whole_at text ≡ Some (tree.part l r, rest)
unfolding select_at limits_at second_at limit_at
part_again whole_at l r text more rest h g = rw (h, other_mark right_bracket colon more refl, mark_again colon more, g, mark_again right_bracket rest) refl

part_up_again : (whole_at : Reader) (l r : Expression) (text more rest : List Token) → whole_at text ≡ Some (l, mark plus_colon ∷ more) → whole_at more ≡ Some (r, mark right_bracket ∷ rest)
    → select_at whole_at text ≡ Some (tree.part_up l r, rest)
unfolding select_at limits_at second_at limit_at
part_up_again whole_at l r text more rest h g =
    rw (h, other_mark right_bracket plus_colon more refl, other_mark colon plus_colon more refl, mark_again plus_colon more, g, mark_again right_bracket rest) refl

part_down_again : (whole_at : Reader) (l r : Expression) (text more rest : List Token) → whole_at text ≡ Some (l, mark minus_colon ∷ more) → whole_at more ≡ Some (r, mark right_bracket ∷ rest)
    → select_at whole_at text ≡ Some (tree.part_down l r, rest)
unfolding select_at limits_at second_at limit_at
part_down_again whole_at l r text more rest h g =
    rw (h, other_mark right_bracket minus_colon more refl, other_mark colon minus_colon more refl, other_mark plus_colon minus_colon more refl, mark_again minus_colon more, g, mark_again right_bracket rest) refl

next_again : (whole_at : Reader) (ts : List Token) (y : Expression × List Token) → whole_at ts ≡ Some y → next_at whole_at (mark comma ∷ ts) ≡ Some y
unfolding next_at
next_again whole_at ts y h = rw (mark_again comma ts, h) refl

-- a select by its reading
record IsSelectRead (whole_at : Reader) (s : Select) (text rest : List Token) : Type 0 where
  inside : List Token
  opens : after_mark left_bracket text ≡ Some inside
  is_read : select_at whole_at inside ≡ Some (s, rest)

is_select_read : {whole_at : Reader} {s : Select} {rest : List Token} (inside : List Token) → select_at whole_at inside ≡ Some (s, rest) → IsSelectRead whole_at s (mark left_bracket ∷ inside) rest
is_select_read inside h = record { inside = inside; opens = mark_again left_bracket inside; is_read = h }

whole_again : (whole_at : Reader) (rest : List Token) → after_mark left_bracket rest ≡ None → selects_at whole_at rest ≡ Some (whole, rest)
unfolding selects_at
whole_again whole_at rest h = rw h refl

one_again : (whole_at : Reader) (s : Select) (text rest : List Token) → IsSelectRead whole_at s text rest → after_mark left_bracket rest ≡ None → selects_at whole_at text ≡ Some (one s, rest)
unfolding selects_at second_select_at
one_again whole_at s text rest p h = rw (p.opens, p.is_read, h) refl

two_again : (whole_at : Reader) (s t : Select) (text more rest : List Token) → IsSelectRead whole_at s text more → IsSelectRead whole_at t more rest → selects_at whole_at text ≡ Some (two s t, rest)
unfolding selects_at second_select_at
two_again whole_at s t text more rest p q = rw (p.opens, p.is_read, q.opens, q.is_read) refl

-- ---- expressions by their levels

-- what reading again says at each level: above the operators, for prefix operators, for the operators, and for a whole expression
record IsRead (d k : ℕ) (e : Expression) (text rest : List Token) : Type 0 where
  alone : k ≡ 13 → alone_at (expression_at d) text ≡ Some (e, rest)
  prefixes : k ≡ 12 → prefixed_at (expression_at d) text ≡ Some (e, rest)
  links : (n : ℕ) → 0 < k → k + n ≡ 11 → tier_at (suc n) (expression_at d) text ≡ linked_at k (tier_at n (expression_at d)) e rest
  all : k ≡ 0 → expression_at (suc d) text ≡ Some (e, rest)

is_alone : {d : ℕ} {e : Expression} {text rest : List Token} → alone_at (expression_at d) text ≡ Some (e, rest) → IsRead d 13 e text rest
is_alone h = record {
  alone = λ _. h;
  prefixes = λ z. absurd (omega (arith, z));
  links = λ n p z. absurd (omega (arith, z));
  all = λ z. absurd (omega (arith, z));
}

is_prefixed : {d : ℕ} {e : Expression} {text rest : List Token} → prefixed_at (expression_at d) text ≡ Some (e, rest) → IsRead d 12 e text rest
is_prefixed h = record {
  alone = λ z. absurd (omega (arith, z));
  prefixes = λ _. h;
  links = λ n p z. absurd (omega (arith, z));
  all = λ z. absurd (omega (arith, z));
}

is_all : {d : ℕ} {e : Expression} {text rest : List Token} → expression_at (suc d) text ≡ Some (e, rest) → IsRead d 0 e text rest
is_all h = record {
  alone = λ z. absurd (omega (arith, z));
  prefixes = λ z. absurd (omega (arith, z));
  links = λ n p z. absurd (omega (arith, p));
  all = λ _. h;
}

-- an operand of a level, before what ends the level below it
operand_again : (d k n : ℕ) (e : Expression) (text rest : List Token) → IsRead d (suc k) e text rest → Ends k rest → k + n ≡ 11 → tier_at n (expression_at d) text ≡ Some (e, rest)
unfolding tier_at
operand_again d k zero e text rest r ends same = r.prefixes (omega (arith, same))
operand_again d k (suc n) e text rest r ends same =
    r.links n (omega arith) (omega (arith, same)) ∙ linked-over (suc k) (tier_at n (expression_at d)) e rest (no_link k rest ends)

-- the links of a tier
tier_links : (whole_at : Reader) (k n : ℕ) (e : Expression) (text rest : List Token) → k + n ≡ 11 → tier_at n whole_at text ≡ Some (e, rest) → tier_at (suc n) whole_at text ≡ linked_at k (tier_at n whole_at) e rest
unfolding tier_at chain_at
tier_links whole_at k n e text rest same h =
    let level : 11 - n ≡ k = omega (arith, same) in
    let now : tier_at (suc n) whole_at text ≡ linked_at (11 - n) (tier_at n whole_at) e rest = rw h refl in
    now ∙ ap (λ (l : ℕ). linked_at l (tier_at n whole_at) e rest) level

loosened : (d k : ℕ) (e : Expression) (text rest : List Token) → suc k ≤ 13 → IsRead d (suc k) e text rest → Ends k rest → IsRead d k e text rest
unfolding expression_at
loosened d k e text rest low r ends = record {
  alone = λ z. absurd (omega (arith, z, low));
  prefixes = λ z. alone_prefixed (expression_at d) text (e, rest) (r.alone (omega (arith, z)));
  links = λ n p z. tier_links (expression_at d) k n e text rest z (operand_again d k n e text rest r ends z);
  all = λ z. conditional-over (expression_at d) text e rest (operand_again d k 11 e text rest r ends (omega (arith, z))) (no_question rest (subst (λ l. Ends l rest) z ends));
}

joined_again : (d : ℕ) (m : Mark) (o : Operator) (a b : Expression) (text more rest : List Token) → operator_of m ≡ Some o → IsRead d o.level a text (mark m ∷ more)
    → IsRead d (suc o.level) b more rest → Ends o.level rest → IsRead d o.level (o.joins a b) text rest
joined_again d m o a b text more rest known first second ends =
    let l = operator_between m o known in
    record {
      alone = λ z. absurd (omega (arith, z, l.1));
      prefixes = λ z. absurd (omega (arith, z, l.1));
      links = λ n p z.
          first.links n p z ∙ linked-on o.level (tier_at n (expression_at d)) (shrinks (12 - n) (tier_at n (expression_at d)) (tier_spelled (expression_at d) (expression_spelled d) n (omega (arith, z))))
          a (mark m ∷ more) (o.joins, more) b rest (joint_again m o more known) (operand_again d o.level n b more rest second ends z);
      all = λ z. absurd (omega (arith, z, l.0));
    }

question_no_link : (value : List Token) → joins_at 1 (mark question ∷ value) ≡ None
unfolding joins_at
question_no_link value = refl

chosen_again : (d : ℕ) (c x y : Expression) (text value other rest : List Token) → IsRead d 1 c text (mark question ∷ value) → expression_at d value ≡ Some (x, mark colon ∷ other)
    → IsRead d 0 y other rest → IsRead d 0 (tree.conditional c x y) text rest
unfolding expression_at
chosen_again d c x y text value other rest at_condition at_value at_other =
    let first : tier_at 11 (expression_at d) text ≡ Some (c, mark question ∷ value) =
    at_condition.links 10 (omega arith) refl ∙ linked-over 1 (tier_at 10 (expression_at d)) c (mark question ∷ value) (question_no_link value) in
    let now = conditional-on (expression_at d) (expression_spelled d) text c (mark question ∷ value) value x (mark colon ∷ other) other first (mark_again question value) at_value (mark_again colon other) in
    is_all (now ∙ ap (λ (r : Read Token Expression). r >>= λ z. Some (tree.conditional c x z.0, z.1)) (at_other.all refl))

-- no level is above what stands alone
low : (k : ℕ) (e : Expression) (text rest : List Token) → IsExpression k e text rest → k ≤ 13
low _ _ _ _ (tighter k e text rest d) = omega (arith, low (suc k) e text rest d)
low _ _ _ _ (chosen c x y text value other rest dc dx dy) = omega arith
low _ _ _ _ (joined m o a b text more rest known da db) = omega (arith, (operator_between m o known).1)
low _ _ _ _ (prefixed m f a text rest known d) = omega arith
low _ _ _ _ (a_number n text rest d) = omega arith
low _ _ _ _ (a_name n s text rest named d) = omega arith
low _ _ _ _ (bracketed e text rest d) = omega arith
low _ _ _ _ (concatenated es text rest d) = omega arith
low _ _ _ _ (replicated n es text parts rest dn d) = omega arith
low _ _ _ _ (made_signed e text rest d) = omega arith
low _ _ _ _ (made_unsigned e text rest d) = omega arith

mutual
  again : (d k : ℕ) (e : Expression) (text rest : List Token) (s : IsExpression k e text rest) → nesting s ≤ d → Ends k rest → IsRead d k e text rest
  again d _ _ _ _ (tighter k e text rest s) deep ends = loosened d k e text rest (low (suc k) e text rest s) (again d (suc k) e text rest s deep (ends_more k rest ends)) ends
  again zero _ _ _ _ (chosen c x y text value other rest dc dx dy) deep ends = absurd (omega (arith, deep))
  again (suc d) _ _ _ _ (chosen c x y text value other rest dc dx dy) deep ends =
      chosen_again (suc d) c x y text value other rest (again (suc d) 1 c text (mark question ∷ value) dc (omega (arith, deep)) (tt, refl, λ z. absurd (omega (arith, z))))
      ((again d 0 x value (mark colon ∷ other) dx (omega (arith, deep)) (tt, refl, λ _. refl)).all refl) (again (suc d) 0 y other rest dy (omega (arith, deep)) ends)
  again d _ _ _ _ (joined m o a b text more rest known da db) deep ends =
      joined_again d m o a b text more rest known (again d o.level a text (mark m ∷ more) da (omega (arith, deep)) (operator_ends m o more known))
      (again d (suc o.level) b more rest db (omega (arith, deep)) (ends_more o.level rest ends)) ends
  again d _ _ _ _ (prefixed m f a text rest known s) deep ends =
      is_prefixed (prefix_again (expression_at d) m f a text rest known ((again d 12 a text rest s deep ends).prefixes refl))
  again d _ _ _ _ (a_number n text rest s) deep ends = is_alone (number_alone (expression_at d) n text rest s (number_again 13 n text rest s ends))
  again d _ _ _ _ (a_name n s text rest named ds) deep ends = is_alone (named_again (expression_at d) n s text rest named (selects_again d 13 s text rest ds deep ends))
  again zero _ _ _ _ (bracketed e text rest s) deep ends = absurd (omega (arith, deep))
  again (suc d) _ _ _ _ (bracketed e text rest s) deep ends = is_alone (bracketed_again (expression_at (suc d)) e text rest ((again d 0 e text (mark right_parenthesis ∷ rest) s (omega (arith, deep)) (tt, refl, λ _. refl)).all refl))
  again zero _ _ _ _ (concatenated es text rest s) deep ends = absurd (omega (arith, deep))
  again (suc d) _ _ _ _ (concatenated es text rest s) deep ends =
      is_alone (concatenated_again (expression_at (suc d)) (expression_spelled (suc d)) es text rest
      (parts_again d es text (mark right_brace ∷ rest) rest s (omega (arith, deep)) (mark_again right_brace rest) (other_mark left_brace right_brace rest refl) (tt, refl, λ _. refl)))
  again zero _ _ _ _ (replicated n es text parts rest dn s) deep ends = absurd (omega (arith, deep))
  again (suc d) _ _ _ _ (replicated n es text parts rest dn s) deep ends =
      is_alone (replicated_again (expression_at (suc d)) (expression_spelled (suc d)) n es text parts rest ((again d 0 n text (mark left_brace ∷ parts) dn (omega (arith, deep)) (tt, refl, λ _. refl)).all refl)
      (parts_again d es parts (mark right_brace ∷ mark right_brace ∷ rest) (mark right_brace ∷ rest) s (omega (arith, deep)) (mark_again right_brace (mark right_brace ∷ rest))
      (other_mark left_brace right_brace (mark right_brace ∷ rest) refl) (tt, refl, λ _. refl)))
  again zero _ _ _ _ (made_signed e text rest s) deep ends = absurd (omega (arith, deep))
  again (suc d) _ _ _ _ (made_signed e text rest s) deep ends = is_alone (signed_again (expression_at (suc d)) e text rest ((again d 0 e text (mark right_parenthesis ∷ rest) s (omega (arith, deep)) (tt, refl, λ _. refl)).all refl))
  again zero _ _ _ _ (made_unsigned e text rest s) deep ends = absurd (omega (arith, deep))
  again (suc d) _ _ _ _ (made_unsigned e text rest s) deep ends = is_alone (unsigned_again (expression_at (suc d)) e text rest ((again d 0 e text (mark right_parenthesis ∷ rest) s (omega (arith, deep)) (tt, refl, λ _. refl)).all refl))

  parts_again : (d : ℕ) (es : Expressions) (text stop rest : List Token) (s : AreExpressions es text stop) → nesting_of_parts s ≤ d → after_mark right_brace stop ≡ Some rest
      → after_mark left_brace stop ≡ None → Ends 0 stop → ArePartsRead (expression_at (suc d)) es text rest
  parts_again d _ _ _ rest (last_one e text stop s) deep closes opens ends = record {
    first = e;
    more = stop;
    others = [];
    are = refl;
    first_read = (again d 0 e text stop s deep ends).all refl;
    is_no_count = opens;
    others_read = closes;
  }
  parts_again d _ _ _ rest (and_more e es text more stop s ss) deep closes opens ends =
      let p = parts_again d es more stop rest ss (omega (arith, deep)) closes opens ends in
      record {
        first = e;
        more = mark comma ∷ more;
        others = p.first ∷ p.others;
        are = ap (expression e) p.are;
        first_read = (again d 0 e text (mark comma ∷ more) s (omega (arith, deep)) (tt, refl, λ _. refl)).all refl;
        is_no_count = other_mark left_brace comma more refl;
        others_read = (p.more, other_mark right_brace comma more refl, next_again (expression_at (suc d)) more (p.first, p.more) p.first_read, p.others_read);
      }

  select_again : (d : ℕ) (e : Select) (text rest : List Token) (s : IsSelect e text rest) → nesting_of_select s ≤ d → IsSelectRead (expression_at d) e text rest
  select_again zero _ _ _ (by_index e text rest s) deep = absurd (omega (arith, deep))
  select_again (suc d) _ _ _ (by_index e text rest s) deep =
      is_select_read text (index_again (expression_at (suc d)) e text rest ((again d 0 e text (mark right_bracket ∷ rest) s (omega (arith, deep)) (tt, refl, λ _. refl)).all refl))
  select_again zero _ _ _ (by_part l r text more rest dl dr) deep = absurd (omega (arith, deep))
  select_again (suc d) _ _ _ (by_part l r text more rest dl dr) deep =
      is_select_read text (part_again (expression_at (suc d)) l r text more rest ((again d 0 l text (mark colon ∷ more) dl (omega (arith, deep)) (tt, refl, λ _. refl)).all refl) ((again d 0 r more (mark right_bracket ∷ rest) dr (omega (arith, deep)) (tt, refl, λ _. refl)).all refl))
  select_again zero _ _ _ (by_part_up l r text more rest dl dr) deep = absurd (omega (arith, deep))
  select_again (suc d) _ _ _ (by_part_up l r text more rest dl dr) deep =
      is_select_read text (part_up_again (expression_at (suc d)) l r text more rest ((again d 0 l text (mark plus_colon ∷ more) dl (omega (arith, deep)) (tt, refl, λ _. refl)).all refl) ((again d 0 r more (mark right_bracket ∷ rest) dr (omega (arith, deep)) (tt, refl, λ _. refl)).all refl))
  select_again zero _ _ _ (by_part_down l r text more rest dl dr) deep = absurd (omega (arith, deep))
  select_again (suc d) _ _ _ (by_part_down l r text more rest dl dr) deep =
      is_select_read text (part_down_again (expression_at (suc d)) l r text more rest ((again d 0 l text (mark minus_colon ∷ more) dl (omega (arith, deep)) (tt, refl, λ _. refl)).all refl) ((again d 0 r more (mark right_bracket ∷ rest) dr (omega (arith, deep)) (tt, refl, λ _. refl)).all refl))

  pub selects_again : (d k : ℕ) (e : Selects) (text rest : List Token) (s : AreSelects e text rest) → nesting_of_selects s ≤ d → Ends k rest → selects_at (expression_at d) text ≡ Some (e, rest)
  selects_again d k _ _ _ (no_select rest) deep ends = whole_again (expression_at d) rest (no_bracket k rest ends)
  selects_again d k _ _ _ (one_select e text rest s) deep ends = one_again (expression_at d) e text rest (select_again d e text rest s deep) (no_bracket k rest ends)
  selects_again d k _ _ _ (two_selects e f text more rest s t) deep ends =
      two_again (expression_at d) e f text more rest (select_again d e text more s (omega (arith, deep))) (select_again d f more rest t (omega (arith, deep)))

-- What is spelled so, in front of what does not go on with it, is read, where it is no deeper.
pub expression_again : (d : ℕ) (e : Expression) (text rest : List Token) (s : IsExpression 0 e text rest) → nesting s ≤ d → Ends 0 rest → expression_at (suc d) text ≡ Some (e, rest)
expression_again d e text rest s deep ends = (again d 0 e text rest s deep ends).all refl

pub none_again : (d : ℕ) (text : List Token) → expression_at (suc d) text ≡ None → (e : Expression) (rest : List Token) (s : IsExpression 0 e text rest) → nesting s ≤ d → Ends 0 rest → ⊥
none_again d text none e rest s deep ends = is_none (expression_at (suc d) text) (e, rest) none (expression_again d e text rest s deep ends)
  where
    is_none : (r : Read Token Expression) (y : Expression × List Token) → r ≡ None → r ≡ Some y → ⊥
    is_none r y a b = let same : Some y ≡ None = sym b ∙ a in absurd cc

-- Tokens spell at most one expression, and it ends at one place.
pub one_expression : (e f : Expression) (text rest other : List Token) → IsExpression 0 e text rest → Ends 0 rest → IsExpression 0 f text other → Ends 0 other → (e ≡ f) × (rest ≡ other)
one_expression e f text rest other s ends t finishes =
    let n = max (nesting s) (nesting t) in
    let first : expression_at (suc n) text ≡ Some (e, rest) = expression_again n e text rest s (omega arith) ends in
    let second : expression_at (suc n) text ≡ Some (f, other) = expression_again n f text other t (omega arith) finishes in
    let same : (e, rest) ≡ (f, other) = some_is (e, rest) (f, other) (sym first ∙ second) in
    (ap (λ (z : Expression × List Token). z.0) same, ap (λ (z : Expression × List Token). z.1) same)

-- Identifiers with dots between them are joined to one name, step by step.
use Rattle.std.proofs.Common.{◌≡◌, Bool, true, false, cond, List, [], ◌∷◌, ◌++◌, Option, Some, None, Ok, Err, ◌<◌, ◌≤◌, length, refl, sym, ap, ◌∙◌, subst, append_assoc, ℕ, suc, arith}
use Rattle.std.proofs.lemmas.List.{append-nil}
use Rattle.wb_values.specs.Value.{Name}
use Rattle.wb_values.specs.ReservedWords.{is_reserved}
use Rattle.verilog_text.specs.Token.{left_parenthesis, right_parenthesis, left_bracket, right_bracket, left_brace, right_brace, comma, semicolon, colon, dot, hash, at, question, equals, plus_colon, minus_colon, plus, minus, star, double_star, slash, percent, exclamation, tilde, ampersand, tilde_ampersand, bar, tilde_bar, caret, tilde_caret, caret_tilde, double_ampersand, double_bar, less, less_equals, greater, greater_equals, double_less, double_greater, triple_less, triple_greater, double_equals, exclamation_equals, triple_equals, exclamation_double_equals, Mark, Token, word, system, decimal, based, mark}
use Rattle.verilog_trees.specs.Syntax.{Expression}
use Rattle.verilog_text.specs.Grammar.{dotted_from, IsWhole}
use Rattle.v_token.specs.declared.token.Token.{Token as CodeToken}
use Rattle.v_token.specs.View.{tokens_of}
use Rattle.v_syntax.specs.declared.tree.Expression.{Expression as CodeExpression}
use Rattle.v_syntax.specs.Tree.{tree_of}
use Rattle.v_expr.specs.declared.stop.ExpressionStop.{ExpressionStop}
use Rattle.v_expr.specs.declared.stop.ExpressionStop.TheVariants.{NoMemory, Refused}
use Rattle.v_expr.specs.View.{Fails}
use Rattle.v_expr.specs.Whole.{whole_at}
use Rattle.v_expr.proofs.Whole.{whole_spelled, whole_again}
use Rattle.v_expr.specs.Repeat.{◌>>=◌, Read}
use Rattle.v_expr.specs.Reading.{after_mark}
use Rattle.v_dotted.specs.Dotted.{identifier_at, further_name_at, IsOnly}
use Rattle.v_expr.proofs.Places.{mark_spelled}
use Rattle.v_expr.proofs.Repeat.{some, some_is}
use Rattle.v_expr.proofs.Spelled.{bound}

-- a word that is an identifier
record IsFirst (ts : List Token) (m : Name) (rest : List Token) : Type 0 where
  parts : ts ≡ word m ∷ rest
  free : is_reserved m ≡ false

first_by : (n : Name) (ts : List Token) (m : Name) (rest : List Token) (b : Bool) → is_reserved n ≡ b → cond b None (some {A = Name × List Token} (n, ts)) ≡ some (m, rest) → IsFirst (word n ∷ ts) m rest
first_by n ts m rest true is e = absurd cc
first_by n ts m rest false is e =
    let same = some_is {A = Name × List Token} (n, ts) (m, rest) e in
    record {
      parts = ap (λ (p : Name × List Token). word p.0 ∷ p.1) same;
      free = ap (λ (p : Name × List Token). is_reserved p.0) (sym same) ∙ is;
    }

first_of : (ts : List Token) (m : Name) (rest : List Token) → identifier_at ts ≡ Some (m, rest) → IsFirst ts m rest
unfolding identifier_at
first_of [] m rest e = absurd cc
first_of (word n ∷ ts) m rest e = first_by n ts m rest (is_reserved n) refl e
first_of (system n ∷ ts) m rest e = absurd cc
first_of (decimal n ∷ ts) m rest e = absurd cc
first_of (based n ∷ ts) m rest e = absurd cc
first_of (mark n ∷ ts) m rest e = absurd cc

-- a name begins
pub begins : (ts : List Token) (m : Name) (rest : List Token) → identifier_at ts ≡ Some (m, rest) → dotted_from None ts ≡ dotted_from (Some m) rest
begins ts m rest e =
    let h = first_of ts m rest e in
    ap (dotted_from None) h.parts ∙ ap (λ b. cond b (word m ∷ dotted_from None rest) (dotted_from (Some m) rest)) h.free

-- a name goes on
pub goes_on : (n : Name) (ts : List Token) (m : Name) (rest : List Token) → further_name_at ts ≡ Some (m, rest) → dotted_from (Some n) ts ≡ dotted_from (Some (n ++ 46 ∷ m)) rest
unfolding further_name_at
goes_on n ts m rest e =
    let us = bound e in
    let h = first_of us.0 m rest us.2 in
    ap (dotted_from (Some n)) (mark_spelled dot us.1 ∙ ap (λ (vs : List Token). mark dot ∷ vs) h.parts)
    ∙ ap (λ b. cond b (word n ∷ mark dot ∷ word m ∷ dotted_from None rest) (dotted_from (Some (n ++ 46 ∷ m)) rest)) h.free

no_first_by : (m : Name) (rest : List Token) (b : Bool) → cond b None (some {A = Name × List Token} (m, rest)) ≡ None → (x y : List Token) → cond b x y ≡ x
no_first_by m rest true e x y = refl
no_first_by m rest false e x y = absurd cc

-- what is no identifier stands as it is
pub stands : (t : Token) (rest : List Token) → identifier_at (t ∷ rest) ≡ None → dotted_from None (t ∷ rest) ≡ t ∷ dotted_from None rest
unfolding identifier_at
stands (word m) rest e = no_first_by m rest (is_reserved m) e (word m ∷ dotted_from None rest) (dotted_from (Some m) rest)
stands (system m) rest e = refl
stands (decimal m) rest e = refl
stands (based m) rest e = refl
stands (mark m) rest e = refl

behind_dot : (n : Name) (ts : List Token) → identifier_at ts ≡ None → dotted_from (Some n) (mark dot ∷ ts) ≡ word n ∷ mark dot ∷ dotted_from None ts
unfolding identifier_at
behind_dot n [] e = refl
behind_dot n (word m ∷ rest) e =
    no_first_by m rest (is_reserved m) e (word n ∷ mark dot ∷ word m ∷ dotted_from None rest) (dotted_from (Some (n ++ 46 ∷ m)) rest)
    ∙ ap (λ (us : List Token). word n ∷ mark dot ∷ us) (sym (no_first_by m rest (is_reserved m) e (word m ∷ dotted_from None rest) (dotted_from (Some m) rest)))
behind_dot n (system m ∷ rest) e = refl
behind_dot n (decimal m ∷ rest) e = refl
behind_dot n (based m ∷ rest) e = refl
behind_dot n (mark m ∷ rest) e = refl

behind_mark : (n : Name) (m : Mark) (ts : List Token) → further_name_at (mark m ∷ ts) ≡ None → dotted_from (Some n) (mark m ∷ ts) ≡ word n ∷ mark m ∷ dotted_from None ts
unfolding further_name_at after_mark
behind_mark n dot ts e = behind_dot n ts e
behind_mark n left_parenthesis ts e = refl
behind_mark n right_parenthesis ts e = refl
behind_mark n left_bracket ts e = refl
behind_mark n right_bracket ts e = refl
behind_mark n left_brace ts e = refl
behind_mark n right_brace ts e = refl
behind_mark n comma ts e = refl
behind_mark n semicolon ts e = refl
behind_mark n colon ts e = refl
behind_mark n hash ts e = refl
behind_mark n at ts e = refl
behind_mark n question ts e = refl
behind_mark n equals ts e = refl
behind_mark n plus_colon ts e = refl
behind_mark n minus_colon ts e = refl
behind_mark n plus ts e = refl
behind_mark n minus ts e = refl
behind_mark n star ts e = refl
behind_mark n double_star ts e = refl
behind_mark n slash ts e = refl
behind_mark n percent ts e = refl
behind_mark n exclamation ts e = refl
behind_mark n tilde ts e = refl
behind_mark n ampersand ts e = refl
behind_mark n tilde_ampersand ts e = refl
behind_mark n bar ts e = refl
behind_mark n tilde_bar ts e = refl
behind_mark n caret ts e = refl
behind_mark n tilde_caret ts e = refl
behind_mark n caret_tilde ts e = refl
behind_mark n double_ampersand ts e = refl
behind_mark n double_bar ts e = refl
behind_mark n less ts e = refl
behind_mark n less_equals ts e = refl
behind_mark n greater ts e = refl
behind_mark n greater_equals ts e = refl
behind_mark n double_less ts e = refl
behind_mark n double_greater ts e = refl
behind_mark n triple_less ts e = refl
behind_mark n triple_greater ts e = refl
behind_mark n double_equals ts e = refl
behind_mark n exclamation_equals ts e = refl
behind_mark n triple_equals ts e = refl
behind_mark n exclamation_double_equals ts e = refl

-- a name ends
pub ends : (n : Name) (ts : List Token) → further_name_at ts ≡ None → dotted_from (Some n) ts ≡ word n ∷ dotted_from None ts
ends n [] e = refl
ends n (word m ∷ ts) e = refl
ends n (system m ∷ ts) e = refl
ends n (decimal m ∷ ts) e = refl
ends n (based m ∷ ts) e = refl
ends n (mark m ∷ ts) e = behind_mark n m ts e

pub first_length : (ts : List Token) (m : Name) (rest : List Token) → identifier_at ts ≡ Some (m, rest) → length ts ≡ suc (length rest)
first_length ts m rest e = ap (λ (us : List Token). length us) (first_of ts m rest e).parts

pub further_smaller : (ts : List Token) (m : Name) (rest : List Token) → further_name_at ts ≡ Some (m, rest) → length rest < length ts
unfolding further_name_at
further_smaller ts m rest e =
    let us = bound e in
    let one : length ts ≡ suc (length us.0) = ap (λ (vs : List Token). length vs) (mark_spelled dot us.1) in
    let two : length us.0 ≡ suc (length rest) = first_length us.0 m rest us.2 in
    omega (arith, one, two)

pub stands_by : (ts : List Token) (t : Token) (rest : List Token) → ts ≡ t ∷ rest → identifier_at ts ≡ None → dotted_from None ts ≡ t ∷ dotted_from None rest
stands_by ts t rest e h = ap (dotted_from None) e ∙ stands t rest (ap identifier_at (sym e) ∙ h)

pub joined_over : (xs : List Token) (us : List CodeToken) (total : List Token) → length us < 1 → xs ++ dotted_from None (tokens_of us) ≡ total → xs ≡ total
joined_over xs [] total h e = sym (append-nil xs) ∙ e
joined_over xs (u ∷ us) total h e = absurd (omega (arith, h))

pub joined_on : (xs : List Token) (t : Token) (ts us total : List Token) → dotted_from None ts ≡ t ∷ dotted_from None us → xs ++ dotted_from None ts ≡ total → (xs ++ t ∷ []) ++ dotted_from None us ≡ total
joined_on xs t ts us total e so_far = append_assoc xs (t ∷ []) (dotted_from None us) ∙ ap (λ (vs : List Token). xs ++ vs) (sym e) ∙ so_far

-- ---- expressions that tokens spell as a whole

none_is_some : (r : Read Token Expression) (y : Expression × List Token) → r ≡ None → r ≡ some y → ⊥
none_is_some r y e f = absurd cc

pub none_only : (stop : ExpressionStop) (ts : List Token) → Fails stop (whole_at ts) → IsOnly (Err stop) ts
none_only NoMemory ts h = tt
none_only (Refused left) ts h = λ e d. none_is_some (whole_at ts) (e, []) h (whole_again e ts [] d tt)

nothing_left : (us : List CodeToken) → length us < 1 → tokens_of us ≡ []
nothing_left [] h = refl
nothing_left (u ∷ us) h = absurd (omega (arith, h))

pub whole_only : (e : CodeExpression) (ts : List Token) (us : List CodeToken) → length us < 1 → whole_at ts ≡ Some (tree_of e, tokens_of us) → IsOnly (Ok e) ts
whole_only e ts us h read = subst (IsWhole (tree_of e) ts) (nothing_left us h) (whole_spelled ts (tree_of e, tokens_of us) read)

left_over : (x e : Expression) (u : CodeToken) (us : List CodeToken) → some {A = Expression × List Token} (x, tokens_of (u ∷ us)) ≡ some (e, []) → ⊥
left_over x e u us h =
    let same = some_is {A = Expression × List Token} (x, tokens_of (u ∷ us)) (e, []) h in
    let parts : tokens_of (u ∷ us) ≡ [] = ap (λ (p : Expression × List Token). p.1) same in
    absurd cc

pub more_left : (x : Expression) (ts : List Token) (us : List CodeToken) → 1 ≤ length us → whole_at ts ≡ Some (x, tokens_of us) → (e : Expression) → IsWhole e ts [] → ⊥
more_left x ts [] h read e d = absurd (omega (arith, h))
more_left x ts (u ∷ us) h read e d = left_over x e u us (sym read ∙ whole_again e ts [] d tt)

-- What is read from tokens is spelled so.
use Rattle.std.proofs.Common.{◌≡◌, ℕ, zero, suc, ◌≤◌, Bool, true, false, cond, List, [], ◌∷◌, length, Option, Some, None, refl, sym, subst, arith}
use Rattle.std.specs.Prelude.{◌==◌, ◌-◌, codes}
use Rattle.std.specs.Str.{bytes_eq}
use Rattle.std.proofs.lemmas.Bool.{eqb-true}
use Rattle.std.proofs.lemmas.Option.{cond_some}
use Rattle.std.proofs.lemmas.Slice.Eq.{bytes_eq-Decides}
use Rattle.wb_values.specs.Value.{Name}
use Rattle.wb_values.specs.ReservedWords.{is_reserved}
use Rattle.verilog_text.specs.Token.{Mark, left_parenthesis, right_parenthesis, left_bracket, right_bracket, left_brace, right_brace, comma, colon, question, plus_colon, minus_colon, Token, word, system, decimal, based, mark}
use Rattle.verilog_trees.specs.Syntax as tree
use Rattle.verilog_trees.specs.Syntax.{Number, Expression, Expressions, no_expressions, expression, Select, Selects, whole, one, two}
use Rattle.verilog_text.specs.Spelling.{prefix_of, Operator, operator_of, IsNumber, plain, unsized, of_size, IsExpression, tighter, chosen, joined, prefixed, a_number, a_name, bracketed, concatenated, replicated, made_signed, made_unsigned, AreExpressions, last_one, and_more, IsSelect, by_index, by_part, by_part_up, by_part_down, AreSelects, no_select, one_select, two_selects}
use Rattle.v_expr.specs.Repeat.{◌>>=◌, choose, repeated}
use Rattle.v_expr.specs.Reading.{after_mark, number_at, number_expression_at, more_parts_at, limit_at, Reader, as_expressions, next_at, parts_at, expressions_at, copies_at, concatenation_at, braces_at, inside_at, converted_at, conversion_at, second_at, limits_at, select_at, second_select_at, selects_at, named_at, alone_at, prefix_from, prefixed_at, joins_from, joins_at, links_at, linked_at, chain_at, tier_at, choices_at, conditional_at, expression_at}
use Rattle.v_expr.proofs.Repeat.{some_is, Chain, chain_of}
use Rattle.v_expr.proofs.Places.{mark_spelled}

-- the value of a step that did not fail
pub bound : {A B : Type 0} {r : Option A} {f : A → Option B} {y : B} → (r >>= f) ≡ Some y → (x : A) × (r ≡ Some x) × (f x ≡ Some y)
bound {r = Some x} e = (x, refl, e)
bound {r = None} e = absurd cc

-- either way that a choice went
pub either_way : {A B C : Type 0} {o : Option A} {f : A → Option B} {y : Option B} {z : B} → choose o f y ≡ Some z
    → ((x : A) × (o ≡ Some x) × (f x ≡ Some z) → C) → ((o ≡ None) × (y ≡ Some z) → C) → C
either_way {o = Some x} e first second = first (x, refl, e)
either_way {o = None} e first second = second (refl, e)

-- what a reader of whole expressions gives is spelled so
abbrev pub Spells : Reader → Type 0
Spells reader = (ts : List Token) (y : Expression × List Token) → reader ts ≡ Some y → IsExpression 0 y.0 ts y.1

-- the value that was read and what is left, by another name
pub lands : {A : Type 0} {x y : A × List Token} (P : A → List Token → Type 0) → Some x ≡ Some y → P x.0 x.1 → P y.0 y.1
lands {x = x} {y = y} P e p = subst (λ z. P z.0 z.1) (some_is x y e) p

-- an expression in front of a mark
behind : (m : Mark) {k : ℕ} {e : Expression} {text ts rest : List Token} → after_mark m ts ≡ Some rest → IsExpression k e text ts → IsExpression k e text (mark m ∷ rest)
behind m {k = k} {e = e} {text = text} h d = subst (IsExpression k e text) (mark_spelled m h) d

number_spelled : (ts : List Token) (y : Number × List Token) → number_at ts ≡ Some y → IsNumber y.0 ts y.1
unfolding number_at
number_spelled (decimal size ∷ based text ∷ rest) y e = lands (λ n. IsNumber n (decimal size ∷ based text ∷ rest)) e (of_size size text rest)
number_spelled (decimal text ∷ rest) y e = lands (λ n. IsNumber n (decimal text ∷ rest)) e (plain text rest)
number_spelled (based text ∷ rest) y e = lands (λ n. IsNumber n (based text ∷ rest)) e (unsized text rest)
number_spelled _ y e = absurd cc

-- ---- what stands in brackets, by a reader whose expressions are spelled so

parts_spelled : (whole_at : Reader) → Spells whole_at → (xs : List Expression) (e : Expression) (text ts rest : List Token) → IsExpression 0 e text ts
    → Chain (after_mark right_brace) (next_at whole_at) xs ts rest → AreExpressions (as_expressions (e ∷ xs)) text (mark right_brace ∷ rest)
unfolding next_at
parts_spelled whole_at hyp [] e text ts rest d c = last_one e text (mark right_brace ∷ rest) (behind right_brace c d)
parts_spelled whole_at hyp (x ∷ xs) e text ts rest d c =
    let w = bound c.2 in
    and_more e (as_expressions (x ∷ xs)) text w.0 (mark right_brace ∷ rest) (behind comma w.1 d) (parts_spelled whole_at hyp xs x w.0 c.0 rest (hyp w.0 (x, c.0) w.2) c.3)

others_spelled : (whole_at : Reader) → Spells whole_at → (e : Expression) (text ts : List Token) (y : List Expression × List Token) → IsExpression 0 e text ts
    → parts_at whole_at ts ≡ Some y → AreExpressions (as_expressions (e ∷ y.0)) text (mark right_brace ∷ y.1)
unfolding parts_at repeated
others_spelled whole_at hyp e text ts y d h =
    parts_spelled whole_at hyp y.0 e text ts y.1 d (chain_of (after_mark right_brace) (next_at whole_at) (suc (length ts)) ts y h)

expressions_spelled : (whole_at : Reader) → Spells whole_at → (ts : List Token) (y : List Expression × List Token) → expressions_at whole_at ts ≡ Some y
    → AreExpressions (as_expressions y.0) ts (mark right_brace ∷ y.1)
unfolding expressions_at more_parts_at
expressions_spelled whole_at hyp ts y h =
    let x = bound h in
    let o = bound x.2 in
    lands (λ es rest. AreExpressions (as_expressions es) ts (mark right_brace ∷ rest)) o.2 (others_spelled whole_at hyp x.0.0 ts x.0.1 o.0 (hyp ts x.0 x.1) o.1)

-- behind the opening brace
braces_spelled : (whole_at : Reader) → Spells whole_at → (ts : List Token) (y : Expression × List Token) → braces_at whole_at ts ≡ Some y
    → IsExpression 13 y.0 (mark left_brace ∷ ts) y.1
unfolding braces_at copies_at concatenation_at more_parts_at
braces_spelled whole_at hyp ts y h =
    let x = bound h in
    let d = hyp ts x.0 x.1 in
    either_way x.2
    (λ w.
    let parts = bound w.2 in
    let r = bound parts.2 in
    let all = expressions_spelled whole_at hyp w.0 parts.0 parts.1 in
    lands (λ e. IsExpression 13 e (mark left_brace ∷ ts)) r.2
    (replicated x.0.0 (as_expressions parts.0.0) ts w.0 r.0 (behind left_brace w.1 d)
    (subst (λ rest. AreExpressions (as_expressions parts.0.0) w.0 (mark right_brace ∷ rest)) (mark_spelled right_brace r.1) all)))
    (λ w.
    let parts = bound w.1 in
    let o = bound parts.1 in
    let all = lands (λ es rest. AreExpressions (as_expressions es) ts (mark right_brace ∷ rest)) o.2 (others_spelled whole_at hyp x.0.0 ts x.0.1 o.0 d o.1) in
    lands (λ e. IsExpression 13 e (mark left_brace ∷ ts)) parts.2 (concatenated (as_expressions parts.0.0) ts parts.0.1 all))

inside_spelled : (whole_at : Reader) → Spells whole_at → (ts : List Token) (y : Expression × List Token) → inside_at whole_at ts ≡ Some y → IsExpression 0 y.0 ts (mark right_parenthesis ∷ y.1)
unfolding inside_at
inside_spelled whole_at hyp ts y e =
    let x = bound e in
    let r = bound x.2 in
    lands (λ a rest. IsExpression 0 a ts (mark right_parenthesis ∷ rest)) r.2 (behind right_parenthesis r.1 (hyp ts x.0 x.1))

abbrev Builds : (Expression → Expression) → Name → Type 0
Builds f n = (e : Expression) (text rest : List Token) → IsExpression 0 e text (mark right_parenthesis ∷ rest) → IsExpression 13 (f e) (system n ∷ mark left_parenthesis ∷ text) rest

converted_spelled : (whole_at : Reader) → Spells whole_at → (f : Expression → Expression) (n : Name) → Builds f n → (ts : List Token) (y : Expression × List Token)
    → converted_at whole_at f ts ≡ Some y → IsExpression 13 y.0 (system n ∷ ts) y.1
unfolding converted_at
converted_spelled whole_at hyp f n builds ts y h =
    let i = bound h in
    let x = bound i.2 in
    lands (λ e. IsExpression 13 e (system n ∷ ts)) x.2
    (subst (λ us. IsExpression 13 (f x.0.0) (system n ∷ us) x.0.1) (sym (mark_spelled left_parenthesis i.1)) (builds x.0.0 i.0 x.0.1 (inside_spelled whole_at hyp i.0 x.0 x.1)))

same_builds : (f : Expression → Expression) (n w : Name) → bytes_eq n w ≡ true → Builds f w → Builds f n
same_builds f n w e b = subst (Builds f) (sym ((bytes_eq-Decides n w).0 e)) b

conversion_by : (whole_at : Reader) → Spells whole_at → (n : Name) (ts : List Token) (y : Expression × List Token) (is_signed is_unsigned : Bool)
    → bytes_eq n (codes "$signed") ≡ is_signed → bytes_eq n (codes "$unsigned") ≡ is_unsigned
    → cond is_signed (converted_at whole_at tree.as_signed ts) (cond is_unsigned (converted_at whole_at tree.as_unsigned ts) None) ≡ Some y → IsExpression 13 y.0 (system n ∷ ts) y.1
conversion_by whole_at hyp n ts y true _ s u h = converted_spelled whole_at hyp tree.as_signed n (same_builds tree.as_signed n (codes "$signed") s made_signed) ts y h
conversion_by whole_at hyp n ts y false true s u h = converted_spelled whole_at hyp tree.as_unsigned n (same_builds tree.as_unsigned n (codes "$unsigned") u made_unsigned) ts y h
conversion_by whole_at hyp n ts y false false s u h = absurd cc

conversion_spelled : (whole_at : Reader) → Spells whole_at → (n : Name) (ts : List Token) (y : Expression × List Token) → conversion_at whole_at n ts ≡ Some y → IsExpression 13 y.0 (system n ∷ ts) y.1
unfolding conversion_at
conversion_spelled whole_at hyp n ts y h = conversion_by whole_at hyp n ts y (bytes_eq n (codes "$signed")) (bytes_eq n (codes "$unsigned")) refl refl h

-- ---- selects

-- what a select of two expressions is
abbrev Selecting : (Expression → Select) → List Token → Type 0
Selecting f text = (r : Expression) (ts rest : List Token) → IsExpression 0 r ts (mark right_bracket ∷ rest) → IsSelect (f r) text rest

second_spelled : (whole_at : Reader) → Spells whole_at → (f : Expression → Select) (text ts : List Token) (y : Select × List Token)
    → ((r : Expression) (rest : List Token) → IsExpression 0 r ts (mark right_bracket ∷ rest) → IsSelect (f r) text rest)
    → second_at whole_at f ts ≡ Some y → IsSelect y.0 text y.1
unfolding second_at limit_at
second_spelled whole_at hyp f text ts y builds h =
    let l = bound h in
    let x = bound l.1 in
    let r = bound x.2 in
    let d = lands (λ e rest. IsExpression 0 e ts (mark right_bracket ∷ rest)) r.2 (behind right_bracket r.1 (hyp ts x.0 x.1)) in
    lands (λ s. IsSelect s text) l.2 (builds l.0.0 l.0.1 d)

limits_spelled : (whole_at : Reader) → Spells whole_at → (e : Expression) (text ts : List Token) (y : Select × List Token) → IsExpression 0 e text ts
    → limits_at whole_at e ts ≡ Some y → IsSelect y.0 (mark left_bracket ∷ text) y.1
unfolding limits_at
limits_spelled whole_at hyp e text ts y d h =
    either_way h
    (λ w. lands (λ s. IsSelect s (mark left_bracket ∷ text)) w.2 (by_index e text w.0 (behind right_bracket w.1 d)))
    (λ not_index. either_way not_index.1
    (λ w. second_spelled whole_at hyp (tree.part e) (mark left_bracket ∷ text) w.0 y (λ r rest a. by_part e r text w.0 rest (behind colon w.1 d) a) w.2)
    (λ not_part. either_way not_part.1
    (λ w. second_spelled whole_at hyp (tree.part_up e) (mark left_bracket ∷ text) w.0 y (λ r rest a. by_part_up e r text w.0 rest (behind plus_colon w.1 d) a) w.2)
    (λ not_up.
    let w = bound not_up.1 in
    second_spelled whole_at hyp (tree.part_down e) (mark left_bracket ∷ text) w.0 y (λ r rest a. by_part_down e r text w.0 rest (behind minus_colon w.1 d) a) w.2)))

-- behind the opening bracket
select_spelled : (whole_at : Reader) → Spells whole_at → (ts inside : List Token) (y : Select × List Token) → after_mark left_bracket ts ≡ Some inside
    → select_at whole_at inside ≡ Some y → IsSelect y.0 ts y.1
unfolding select_at
select_spelled whole_at hyp ts inside y opens h =
    let x = bound h in
    subst (λ us. IsSelect y.0 us y.1) (sym (mark_spelled left_bracket opens)) (limits_spelled whole_at hyp x.0.0 inside x.0.1 y (hyp inside x.0 x.1) x.2)

second_select_spelled : (whole_at : Reader) → Spells whole_at → (s : Select) (text ts : List Token) (y : Selects × List Token) → IsSelect s text ts
    → second_select_at whole_at s ts ≡ Some y → AreSelects y.0 text y.1
unfolding second_select_at
second_select_spelled whole_at hyp s text ts y d h =
    either_way h
    (λ w.
    let t = bound w.2 in
    lands (λ z. AreSelects z text) t.2 (two_selects s t.0.0 text ts t.0.1 d (select_spelled whole_at hyp ts w.0 t.0 w.1 t.1)))
    (λ w. lands (λ z. AreSelects z text) w.1 (one_select s text ts d))

pub selects_spelled : (whole_at : Reader) → Spells whole_at → (ts : List Token) (y : Selects × List Token) → selects_at whole_at ts ≡ Some y → AreSelects y.0 ts y.1
unfolding selects_at
selects_spelled whole_at hyp ts y h =
    either_way h
    (λ w.
    let s = bound w.2 in
    second_select_spelled whole_at hyp s.0.0 ts s.0.1 y (select_spelled whole_at hyp ts w.0 s.0 w.1 s.1) s.2)
    (λ w. lands (λ z. AreSelects z ts) w.1 (no_select ts))

named_by : (whole_at : Reader) → Spells whole_at → (n : Name) (ts : List Token) (y : Expression × List Token) (b : Bool) → is_reserved n ≡ b
    → cond b None (selects_at whole_at ts >>= λ s. Some (tree.name n s.0, s.1)) ≡ Some y → IsExpression 13 y.0 (word n ∷ ts) y.1
named_by whole_at hyp n ts y true is h = absurd cc
named_by whole_at hyp n ts y false is h =
    let s = bound h in
    lands (λ e. IsExpression 13 e (word n ∷ ts)) s.2 (a_name n s.0.0 ts s.0.1 is (selects_spelled whole_at hyp ts s.0 s.1))

named_spelled : (whole_at : Reader) → Spells whole_at → (n : Name) (ts : List Token) (y : Expression × List Token) → named_at whole_at n ts ≡ Some y → IsExpression 13 y.0 (word n ∷ ts) y.1
unfolding named_at
named_spelled whole_at hyp n ts y h = named_by whole_at hyp n ts y (is_reserved n) refl h

-- ---- expressions

a_number_spelled : (ts : List Token) (y : Expression × List Token) → number_expression_at ts ≡ Some y → IsExpression 13 y.0 ts y.1
unfolding number_expression_at
a_number_spelled ts y h =
    let n = bound h in
    lands (λ e. IsExpression 13 e ts) n.2 (a_number n.0.0 ts n.0.1 (number_spelled ts n.0 n.1))

alone_spelled : (whole_at : Reader) → Spells whole_at → (ts : List Token) (y : Expression × List Token) → alone_at whole_at ts ≡ Some y → IsExpression 13 y.0 ts y.1
unfolding alone_at
alone_spelled whole_at hyp [] y h = absurd cc
alone_spelled whole_at hyp (word n ∷ ts) y h = named_spelled whole_at hyp n ts y h
alone_spelled whole_at hyp (system n ∷ ts) y h = conversion_spelled whole_at hyp n ts y h
alone_spelled whole_at hyp (decimal text ∷ ts) y h = a_number_spelled (decimal text ∷ ts) y h
alone_spelled whole_at hyp (based text ∷ ts) y h = a_number_spelled (based text ∷ ts) y h
alone_spelled whole_at hyp (mark left_parenthesis ∷ ts) y h = bracketed y.0 ts y.1 (inside_spelled whole_at hyp ts y h)
alone_spelled whole_at hyp (mark left_brace ∷ ts) y h = braces_spelled whole_at hyp ts y h
alone_spelled whole_at hyp (mark _ ∷ ts) y h = absurd cc

prefix_is : (t : Token) (f : Expression → Expression) → prefix_from t ≡ Some f → (m : Mark) × (t ≡ mark m) × (prefix_of m ≡ Some f)
prefix_is (mark m) f h = (m, refl, h)
prefix_is (word n) f h = absurd cc
prefix_is (system n) f h = absurd cc
prefix_is (decimal n) f h = absurd cc
prefix_is (based n) f h = absurd cc

prefixed_spelled : (whole_at : Reader) → Spells whole_at → (ts : List Token) (y : Expression × List Token) → prefixed_at whole_at ts ≡ Some y → IsExpression 12 y.0 ts y.1
unfolding prefixed_at
prefixed_spelled whole_at hyp [] y h = absurd cc
prefixed_spelled whole_at hyp (t ∷ ts) y h =
    either_way h
    (λ w.
    let e = bound w.2 in
    let m = prefix_is t w.0 w.1 in
    lands (λ a. IsExpression 12 a (t ∷ ts)) e.2
    (subst (λ u. IsExpression 12 (w.0 e.0.0) (u ∷ ts) e.0.1) (sym m.1) (prefixed m.0 w.0 e.0.0 ts e.0.1 m.2 (prefixed_spelled whole_at hyp ts e.0 e.1))))
    (λ w. tighter 12 y.0 (t ∷ ts) y.1 (alone_spelled whole_at hyp (t ∷ ts) y w.1))

-- an operator of a level
pub record IsJoint (k : ℕ) (ts : List Token) (f : (Expression → Expression → Expression) × List Token) : Type 0 where
  pub which : Mark
  pub operator : Operator
  pub known : operator_of which ≡ Some operator
  pub level : operator.level ≡ k
  pub joins : operator.joins ≡ f.0
  pub parts : ts ≡ mark which ∷ f.1

joint_is : (k : ℕ) (t : Token) (ts : List Token) (f : Expression → Expression → Expression) → joins_from k t ≡ Some f → IsJoint k (t ∷ ts) (f, ts)
joint_is k (mark m) ts f h =
    let o = bound h in
    let g = cond_some (o.0.level == k) o.0.joins f o.2 in
    record { which = m; operator = o.0; known = o.1; level = eqb-true o.0.level k g.0; joins = g.1; parts = refl }
joint_is k (word n) ts f h = absurd cc
joint_is k (system n) ts f h = absurd cc
joint_is k (decimal n) ts f h = absurd cc
joint_is k (based n) ts f h = absurd cc

pub joins_spelled : (k : ℕ) (ts : List Token) (f : (Expression → Expression → Expression) × List Token) → joins_at k ts ≡ Some f → IsJoint k ts f
unfolding joins_at
joins_spelled k [] f h = absurd cc
joins_spelled k (t ∷ ts) f h =
    let j = bound h in
    subst (IsJoint k (t ∷ ts)) (some_is (j.0, ts) f j.2) (joint_is k t ts j.0 j.1)

link_spelled : (k : ℕ) (text ts : List Token) (f : (Expression → Expression → Expression) × List Token) (a b : Expression) (rest : List Token) → IsJoint k ts f
    → IsExpression k a text ts → IsExpression (suc k) b f.1 rest → IsExpression k (f.0 a b) text rest
link_spelled k text ts f a b rest j first second =
    subst (λ g. IsExpression k (g a b) text rest) j.joins
    (subst (λ l. IsExpression l a text (mark j.which ∷ f.1) → IsExpression (suc l) b f.1 rest → IsExpression l (j.operator.joins a b) text rest) j.level
    (joined j.which j.operator a b text f.1 rest j.known) (subst (IsExpression k a text) j.parts first) second)

-- what a reader of operands gives is spelled so
abbrev pub SpellsAt : ℕ → Reader → Type 0
SpellsAt k reader = (ts : List Token) (y : Expression × List Token) → reader ts ≡ Some y → IsExpression k y.0 ts y.1

links_spelled : (k : ℕ) (operand_at : Reader) → SpellsAt (suc k) operand_at → (n : ℕ) (a : Expression) (text ts : List Token) (y : Expression × List Token)
    → IsExpression k a text ts → links_at k operand_at n a ts ≡ Some y → IsExpression k y.0 text y.1
unfolding links_at
links_spelled k operand_at hyp zero a text ts y d h = absurd cc
links_spelled k operand_at hyp (suc n) a text ts y d h =
    either_way h
    (λ w.
    let b = bound w.2 in
    links_spelled k operand_at hyp n (w.0.0 a b.0.0) text b.0.1 y (link_spelled k text ts w.0 a b.0.0 b.0.1 (joins_spelled k ts w.0 w.1) d (hyp w.0.1 b.0 b.1)) b.2)
    (λ w. lands (λ e. IsExpression k e text) w.1 d)

chain_spelled : (k : ℕ) (operand_at : Reader) → SpellsAt (suc k) operand_at → SpellsAt k (chain_at k operand_at)
unfolding chain_at linked_at
chain_spelled k operand_at hyp ts y h =
    let a = bound h in
    links_spelled k operand_at hyp (suc (length a.0.1)) a.0.0 ts a.0.1 y (tighter k a.0.0 ts a.0.1 (hyp ts a.0 a.1)) a.2

pub tier_spelled : (whole_at : Reader) → Spells whole_at → (n : ℕ) → n ≤ 11 → SpellsAt (12 - n) (tier_at n whole_at)
unfolding tier_at
tier_spelled whole_at hyp zero le = prefixed_spelled whole_at hyp
tier_spelled whole_at hyp (suc n) le =
    let one_more : 12 - n ≡ suc (11 - n) = omega arith in
    let same : 11 - n ≡ 12 - suc n = omega arith in
    subst (λ k. SpellsAt k (chain_at (11 - n) (tier_at n whole_at))) same
    (chain_spelled (11 - n) (tier_at n whole_at) (subst (λ k. SpellsAt k (tier_at n whole_at)) one_more (tier_spelled whole_at hyp n (omega arith))))

pub choices_spelled : (whole_at : Reader) → Spells whole_at → (n : ℕ) → Spells (choices_at whole_at n)
unfolding choices_at
choices_spelled whole_at hyp zero ts y h = absurd cc
choices_spelled whole_at hyp (suc n) ts y h =
    let c = bound h in
    let d : IsExpression 1 c.0.0 ts c.0.1 = tier_spelled whole_at hyp 11 (omega arith) ts c.0 c.1 in
    either_way c.2
    (λ w.
    let x = bound w.2 in
    let o = bound x.2 in
    let e = bound o.2 in
    lands (λ a. IsExpression 0 a ts) e.2
    (chosen c.0.0 x.0.0 e.0.0 ts w.0 o.0 e.0.1 (behind question w.1 d) (behind colon o.1 (hyp w.0 x.0 x.1)) (choices_spelled whole_at hyp n o.0 e.0 e.1)))
    (λ w. lands (λ a. IsExpression 0 a ts) w.1 (tighter 0 c.0.0 ts c.0.1 d))

-- What is read is spelled so.
pub expression_spelled : (d : ℕ) → Spells (expression_at d)
unfolding expression_at conditional_at
expression_spelled zero ts y h = absurd cc
expression_spelled (suc d) ts y h = choices_spelled (expression_at d) (expression_spelled d) (suc (length ts)) ts y h

-- The steps of the reader: each function's exits and the turns of its loops.
use Rattle.std.proofs.Common.{◌≡◌, ℕ, zero, suc, ◌<◌, ◌≤◌, Bool, true, false, cond, List, [], ◌∷◌, ◌++◌, map, length, Option, Some, None, refl, sym, ap, ◌∙◌, subst, arith}
use Rattle.std.specs.Prelude.{◌-◌, ◌==◌}
use Rattle.verilog_text.specs.Token.{question, colon, left_brace, right_brace, left_bracket, right_bracket, Token}
use Rattle.verilog_trees.specs.Syntax as tree
use Rattle.verilog_trees.specs.Syntax.{Expression, Select, Selects, one, whole}
use Rattle.v_syntax.specs.declared.tree.Expression.{Expression as CodeExpression}
use Rattle.v_syntax.specs.declared.tree.Choice.{Choice}
use Rattle.v_syntax.specs.Tree.{tree_of, expressions_of}
use Rattle.v_syntax.specs.Chain.{chosen}
use Rattle.v_expr.specs.declared.stop.ExpressionStop.{ExpressionStop}
use Rattle.v_expr.specs.declared.stop.ExpressionStop.TheVariants.{NoMemory, Refused}
use Rattle.v_expr.specs.declared.operator.Joint.{Joint}
use Rattle.v_expr.specs.declared.limit.RangeKind.{RangeKind}
use Rattle.v_expr.specs.Repeat.{◌>>=◌, Read}
use Rattle.v_expr.specs.Reading.{Reader, after_mark, as_expressions, next_at, parts_at, more_parts_at, expressions_at, copies_at, concatenation_at, braces_at, limits_at, select_at, second_select_at, selects_at, of_level, joins_at, prefixed_at, tier_at, conditional_at, expression_at}
use Rattle.v_expr.specs.Starting.{range_of, ranged_by, closed_by, closed_at, joined_by, valued_by, two_by, chosen_by, choice_of}
use Rattle.v_expr.specs.View.{Fails, joins_of, joint_of, in_front}
use Rattle.v_expr.proofs.Repeat.{Shrinks, some, some_is, goes_on, is_over, is_lost}
use Rattle.v_expr.proofs.Places.{mark_spelled}
use Rattle.v_expr.proofs.Spelled.{bound, joins_spelled, tier_spelled, expression_spelled}
use Rattle.v_expr.proofs.Grow.{shrinks, next_shrinks, before_choice, conditional-on, conditional-over, conditional-lost, conditional-no_value, conditional-no_colon}
use Rattle.v_expr.proofs.Climb.{joined_at, tier-joined, HasNone, joined-over, IsOfTier, of_tier, joined-on, joined-lost}

-- what fails fails whatever stands behind it
pub fails_then : {A B : Type 0} (stop : ExpressionStop) (r : Option A) (f : A → Option B) → Fails stop r → Fails stop (r >>= f)
fails_then NoMemory r f h = tt
fails_then (Refused left) r f h = ap (λ x. x >>= f) h

pub fails_so : {A B : Type 0} (stop : ExpressionStop) (r : Option A) (s : Option B) → (r ≡ None → s ≡ None) → Fails stop r → Fails stop s
fails_so NoMemory r s h f = tt
fails_so (Refused left) r s h f = h f

-- where nothing is read with more behind it, nothing is read at first, as far as the more does not fail
nothing_by : {A B : Type 0} (r : Option A) (g : A → B) → (r >>= λ x. some (g x)) ≡ None → r ≡ None
nothing_by None g e = refl
nothing_by (Some x) g e = absurd cc

-- ---- parts

pub expressions-items : (es : List CodeExpression) → as_expressions (map tree_of es) ≡ expressions_of es
expressions-items [] = refl
expressions-items (e ∷ es) = ap (tree.expression (tree_of e)) (expressions-items es)

small : (d : ℕ) → Shrinks (next_at (expression_at d))
small d = next_shrinks (expression_at d) (expression_spelled d)

pub parts-over : (d : ℕ) (front : List Expression) (ts rest : List Token) (total : Read Token (List Expression)) → after_mark right_brace ts ≡ Some rest
    → in_front front (parts_at (expression_at d) ts) ≡ total → total ≡ Some (front, rest)
unfolding parts_at
parts-over d front ts rest total at_stop so_far = is_over (after_mark right_brace) (next_at (expression_at d)) front ts rest total at_stop so_far

pub parts-on : (d : ℕ) (front : List Expression) (ts : List Token) (x : Expression) (rest : List Token) (total : Read Token (List Expression)) → after_mark right_brace ts ≡ None
    → next_at (expression_at d) ts ≡ Some (x, rest) → in_front front (parts_at (expression_at d) ts) ≡ total → in_front (front ++ x ∷ []) (parts_at (expression_at d) rest) ≡ total
unfolding parts_at
parts-on d front ts x rest total at_stop at_one so_far = goes_on (after_mark right_brace) (next_at (expression_at d)) (small d) front ts x rest total at_stop at_one so_far

pub parts-fail : (stop : ExpressionStop) (d : ℕ) (front : List Expression) (ts : List Token) (total : Read Token (List Expression)) → after_mark right_brace ts ≡ None
    → in_front front (parts_at (expression_at d) ts) ≡ total → Fails stop (next_at (expression_at d) ts) → Fails stop total
unfolding parts_at
parts-fail stop d front ts total at_stop so_far h =
    fails_so stop (next_at (expression_at d) ts) total (λ e. is_lost (after_mark right_brace) (next_at (expression_at d)) front ts total at_stop e so_far) h

pub parts-smaller : (d : ℕ) (ts : List Token) (x : Expression) (rest : List Token) → next_at (expression_at d) ts ≡ Some (x, rest) → length rest < length ts
parts-smaller d ts x rest e = small d ts x rest e

copied-is : (whole_at : Reader) (ts : List Token) (e : CodeExpression) (es : List CodeExpression) (rest : List Token) → es ≡ e ∷ [] → whole_at ts ≡ Some (tree_of e, rest)
    → in_front (map tree_of es) (parts_at whole_at rest) ≡ expressions_at whole_at ts
unfolding expressions_at more_parts_at
copied-is whole_at ts e es rest made h =
    let now : expressions_at whole_at ts ≡ in_front (tree_of e ∷ []) (parts_at whole_at rest) = rw h refl in
    ap (λ (xs : List CodeExpression). in_front (map tree_of xs) (parts_at whole_at rest)) made ∙ sym now

pub copied-lost : (stop : ExpressionStop) (whole_at : Reader) (ts : List Token) (e : CodeExpression) (es : List CodeExpression) (rest : List Token) → es ≡ e ∷ [] → whole_at ts ≡ Some (tree_of e, rest)
    → Fails stop (in_front (map tree_of es) (parts_at whole_at rest)) → Fails stop (expressions_at whole_at ts)
copied-lost stop whole_at ts e es rest made h fails = subst (Fails stop) (copied-is whole_at ts e es rest made h) fails

pub copied-read : (whole_at : Reader) (ts : List Token) (e : CodeExpression) (es : List CodeExpression) (rest : List Token) (xs : List Expression) (behind : List Token) → es ≡ e ∷ []
    → whole_at ts ≡ Some (tree_of e, rest) → in_front (map tree_of es) (parts_at whole_at rest) ≡ Some (xs, behind) → expressions_at whole_at ts ≡ Some (xs, behind)
copied-read whole_at ts e es rest xs behind made h read = sym (copied-is whole_at ts e es rest made h) ∙ read

pub copied-fails : (stop : ExpressionStop) (whole_at : Reader) (ts : List Token) → Fails stop (whole_at ts) → Fails stop (expressions_at whole_at ts)
unfolding expressions_at
copied-fails stop whole_at ts h = fails_then stop (whole_at ts) _ h

-- ---- braces

pub braces-fail : (stop : ExpressionStop) (whole_at : Reader) (ts : List Token) → Fails stop (whole_at ts) → Fails stop (braces_at whole_at ts)
unfolding braces_at
braces-fail stop whole_at ts h = fails_then stop (whole_at ts) _ h

-- the copies of parts, behind the closing brace of the parts
abbrev copies_behind : Expression → List Expression × List Token → Read Token Expression
copies_behind n parts = after_mark right_brace parts.1 >>= λ behind. Some (tree.replication n (as_expressions parts.0), behind)

braces-copies : (whole_at : Reader) (ts : List Token) (e : Expression) (rest inside : List Token) → whole_at ts ≡ Some (e, rest) → after_mark left_brace rest ≡ Some inside
    → braces_at whole_at ts ≡ (expressions_at whole_at inside >>= copies_behind e)
unfolding braces_at copies_at
braces-copies whole_at ts e rest inside at_first at_brace = rw (at_first, at_brace) refl

pub braces-no_copies : (stop : ExpressionStop) (whole_at : Reader) (ts : List Token) (e : Expression) (rest inside : List Token) → whole_at ts ≡ Some (e, rest) → after_mark left_brace rest ≡ Some inside
    → Fails stop (expressions_at whole_at inside) → Fails stop (braces_at whole_at ts)
braces-no_copies stop whole_at ts e rest inside at_first at_brace fails =
    fails_so stop (expressions_at whole_at inside) (braces_at whole_at ts)
    (λ none. braces-copies whole_at ts e rest inside at_first at_brace ∙ ap (λ (r : Read Token (List Expression)). r >>= copies_behind e) none) fails

pub braces-no_end : (stop : ExpressionStop) (whole_at : Reader) (ts : List Token) (e : Expression) (rest inside : List Token) (xs : List Expression) (after : List Token)
    → whole_at ts ≡ Some (e, rest) → after_mark left_brace rest ≡ Some inside → expressions_at whole_at inside ≡ Some (xs, after) → Fails stop (after_mark right_brace after) → Fails stop (braces_at whole_at ts)
braces-no_end stop whole_at ts e rest inside xs after at_first at_brace at_parts fails =
    fails_so stop (after_mark right_brace after) (braces_at whole_at ts)
    (λ none. braces-copies whole_at ts e rest inside at_first at_brace ∙ ap (λ (r : Read Token (List Expression)). r >>= copies_behind e) at_parts
    ∙ ap (λ (r : Option (List Token)). r >>= λ behind. some (tree.replication e (as_expressions xs), behind)) none) fails

pub braces-copied : (whole_at : Reader) (ts : List Token) (e n : CodeExpression) (rest inside : List Token) (es : List CodeExpression) (after behind : List Token) (all : Expression)
    → whole_at ts ≡ Some (tree_of e, rest) → after_mark left_brace rest ≡ Some inside → expressions_at whole_at inside ≡ Some (map tree_of es, after) → after_mark right_brace after ≡ Some behind
    → n ≡ e → all ≡ tree.replication (tree_of n) (expressions_of es) → braces_at whole_at ts ≡ Some (all, behind)
braces-copied whole_at ts e n rest inside es after behind all at_first at_brace at_parts at_end same made =
    braces-copies whole_at ts (tree_of e) rest inside at_first at_brace ∙ ap (λ (r : Read Token (List Expression)). r >>= copies_behind (tree_of e)) at_parts
    ∙ ap (λ (r : Option (List Token)). r >>= λ us. some (tree.replication (tree_of e) (as_expressions (map tree_of es)), us)) at_end
    ∙ ap (λ (xs : tree.Expressions). some (tree.replication (tree_of e) xs, behind)) (expressions-items es)
    ∙ ap (λ (x : CodeExpression). some (tree.replication (tree_of x) (expressions_of es), behind)) (sym same)
    ∙ ap (λ (x : Expression). some (x, behind)) (sym made)

braces-parts : (whole_at : Reader) (ts : List Token) (e : CodeExpression) (es : List CodeExpression) (rest : List Token) → es ≡ e ∷ [] → whole_at ts ≡ Some (tree_of e, rest) → after_mark left_brace rest ≡ None
    → (in_front (map tree_of es) (parts_at whole_at rest) >>= λ parts. Some (tree.concatenation (as_expressions parts.0), parts.1)) ≡ braces_at whole_at ts
unfolding braces_at concatenation_at more_parts_at
braces-parts whole_at ts e es rest made at_first at_brace =
    let now : braces_at whole_at ts ≡ (in_front (tree_of e ∷ []) (parts_at whole_at rest) >>= λ parts. Some (tree.concatenation (as_expressions parts.0), parts.1)) = rw (at_first, at_brace) refl in
    ap (λ (xs : List CodeExpression). in_front (map tree_of xs) (parts_at whole_at rest) >>= λ parts. some (tree.concatenation (as_expressions parts.0), parts.1)) made ∙ sym now

pub braces-lost : (stop : ExpressionStop) (whole_at : Reader) (ts : List Token) (e : CodeExpression) (es : List CodeExpression) (rest : List Token) → es ≡ e ∷ [] → whole_at ts ≡ Some (tree_of e, rest)
    → after_mark left_brace rest ≡ None → Fails stop (in_front (map tree_of es) (parts_at whole_at rest)) → Fails stop (braces_at whole_at ts)
braces-lost stop whole_at ts e es rest made at_first at_brace fails =
    fails_so stop (in_front (map tree_of es) (parts_at whole_at rest)) (braces_at whole_at ts)
    (λ none. sym (braces-parts whole_at ts e es rest made at_first at_brace) ∙ ap (λ (r : Read Token (List Expression)). r >>= λ parts. some (tree.concatenation (as_expressions parts.0), parts.1)) none) fails

pub braces-read : (whole_at : Reader) (ts : List Token) (e : CodeExpression) (es : List CodeExpression) (rest : List Token) (ps : List CodeExpression) (behind : List Token) (all : Expression) → es ≡ e ∷ []
    → whole_at ts ≡ Some (tree_of e, rest) → after_mark left_brace rest ≡ None → in_front (map tree_of es) (parts_at whole_at rest) ≡ Some (map tree_of ps, behind)
    → all ≡ tree.concatenation (expressions_of ps) → braces_at whole_at ts ≡ Some (all, behind)
braces-read whole_at ts e es rest ps behind all made at_first at_brace at_parts is =
    sym (braces-parts whole_at ts e es rest made at_first at_brace) ∙ ap (λ (r : Read Token (List Expression)). r >>= λ parts. some (tree.concatenation (as_expressions parts.0), parts.1)) at_parts
    ∙ ap (λ (xs : tree.Expressions). some (tree.concatenation xs, behind)) (expressions-items ps) ∙ ap (λ (x : Expression). some (x, behind)) (sym is)

-- ---- selects

pub select-is : (whole_at : Reader) (ts : List Token) (e : Expression) (rest : List Token) → whole_at ts ≡ Some (e, rest) → select_at whole_at ts ≡ limits_at whole_at e rest
unfolding select_at
select-is whole_at ts e rest h = rw h refl

pub select-fails : (stop : ExpressionStop) (whole_at : Reader) (ts : List Token) → Fails stop (whole_at ts) → Fails stop (select_at whole_at ts)
unfolding select_at
select-fails stop whole_at ts h = fails_then stop (whole_at ts) _ h

-- the last expression of a select with two
pub range-fails : (stop : ExpressionStop) (whole_at : Reader) (ts : List Token) (kind : RangeKind) (e : Expression) (rest inside : List Token) → whole_at ts ≡ Some (e, rest)
    → limits_at whole_at e rest ≡ ranged_by kind e (closed_at right_bracket whole_at inside) → Fails stop (closed_at right_bracket whole_at inside) → Fails stop (select_at whole_at ts)
range-fails stop whole_at ts kind e rest inside at_first at_mark fails =
    fails_so stop (closed_at right_bracket whole_at inside) (select_at whole_at ts)
    (λ none. select-is whole_at ts e rest at_first ∙ at_mark ∙ ap (ranged_by kind e) none) fails

pub range-read : (whole_at : Reader) (ts : List Token) (kind : RangeKind) (e n : CodeExpression) (rest inside : List Token) (second : Expression) (behind : List Token) (all : Select)
    → whole_at ts ≡ Some (tree_of e, rest) → limits_at whole_at (tree_of e) rest ≡ ranged_by kind (tree_of e) (closed_at right_bracket whole_at inside)
    → closed_at right_bracket whole_at inside ≡ Some (second, behind) → n ≡ e → all ≡ range_of kind (tree_of n) second → select_at whole_at ts ≡ Some (all, behind)
range-read whole_at ts kind e n rest inside second behind all at_first at_mark at_second same made =
    select-is whole_at ts (tree_of e) rest at_first ∙ at_mark ∙ ap (ranged_by kind (tree_of e)) at_second
    ∙ ap (λ (x : CodeExpression). some (range_of kind (tree_of x) second, behind)) (sym same) ∙ ap (λ (s : Select). some (s, behind)) (sym made)

pub selects-none : (whole_at : Reader) (ts : List Token) → after_mark left_bracket ts ≡ None → selects_at whole_at ts ≡ Some (whole, ts)
unfolding selects_at
selects-none whole_at ts h = rw h refl

pub selects-one : (whole_at : Reader) (ts inside : List Token) (s : Select) (rest : List Token) → after_mark left_bracket ts ≡ Some inside → select_at whole_at inside ≡ Some (s, rest)
    → after_mark left_bracket rest ≡ None → selects_at whole_at ts ≡ Some (one s, rest)
unfolding selects_at second_select_at
selects-one whole_at ts inside s rest at_bracket at_select at_second = rw (at_bracket, at_select, at_second) refl

pub selects-two : (whole_at : Reader) (ts inside : List Token) (s : Select) (rest more : List Token) → after_mark left_bracket ts ≡ Some inside → select_at whole_at inside ≡ Some (s, rest)
    → after_mark left_bracket rest ≡ Some more → selects_at whole_at ts ≡ two_by s (select_at whole_at more)
unfolding selects_at second_select_at
selects-two whole_at ts inside s rest more at_bracket at_select at_second = rw (at_bracket, at_select, at_second) refl

pub selects-fail : (stop : ExpressionStop) (whole_at : Reader) (ts inside : List Token) → after_mark left_bracket ts ≡ Some inside → Fails stop (select_at whole_at inside) → Fails stop (selects_at whole_at ts)
unfolding selects_at
selects-fail stop whole_at ts inside at_bracket h =
    fails_so stop (select_at whole_at inside) (selects_at whole_at ts) (λ e. rw (at_bracket, e) refl) h

-- ---- tiers

abbrev joint_and : List Token → (Expression → Expression → Expression) → Read Token (Expression → Expression → Expression)
joint_and rest g = Some (g, rest)

joint_by : (b : Bool) (f : Expression → Expression → Expression) (rest : List Token) → (cond b (Some f) None >>= joint_and rest) ≡ cond b (joint_and rest f) None
joint_by true f rest = refl
joint_by false f rest = refl

of_joint : (ts rest : List Token) (j : Joint) → j.tier ≤ 10 → ((k : ℕ) → joins_at k ts ≡ (of_level k (joint_of j) >>= λ f. Some (f, rest))) → IsOfTier j.tier ts (joins_of j.operator, rest)
of_joint ts rest j most h = (most, λ k. h k ∙ joint_by (11 - j.tier == k) (joins_of j.operator) rest)

tier_small : (d j : ℕ) → j ≤ 10 → Shrinks (tier_at j (expression_at d))
tier_small d j most = shrinks (12 - j) (tier_at j (expression_at d)) (tier_spelled (expression_at d) (expression_spelled d) j (omega (arith, most)))

pub tier-begins : (n : ℕ) (whole_at : Reader) (ts : List Token) (a : Expression) (rest : List Token) → prefixed_at whole_at ts ≡ Some (a, rest) → joined_at n whole_at a rest ≡ tier_at n whole_at ts
tier-begins n whole_at ts a rest h = sym (tier-joined n whole_at ts ∙ ap (λ (r : Read Token Expression). r >>= λ x. joined_at n whole_at x.0 x.1) h)

pub tier-fails : (stop : ExpressionStop) (n : ℕ) (whole_at : Reader) (ts : List Token) → Fails stop (prefixed_at whole_at ts) → Fails stop (tier_at n whole_at ts)
tier-fails stop n whole_at ts h =
    fails_so stop (prefixed_at whole_at ts) (tier_at n whole_at ts) (λ e. tier-joined n whole_at ts ∙ ap (λ (r : Read Token Expression). r >>= λ x. joined_at n whole_at x.0 x.1) e) h

pub tier-over : (n : ℕ) (whole_at : Reader) (a : Expression) (ts : List Token) (total : Read Token Expression) → HasNone n ts → joined_at n whole_at a ts ≡ total → total ≡ Some (a, ts)
tier-over n whole_at a ts total none so_far = sym so_far ∙ joined-over n whole_at a ts none

pub tier-lost : (stop : ExpressionStop) (n d : ℕ) (a : Expression) (ts rest : List Token) (j : Joint) (total : Read Token Expression) → j.tier < n → j.tier ≤ 10
    → ((k : ℕ) → joins_at k ts ≡ (of_level k (joint_of j) >>= λ f. Some (f, rest))) → joined_at n (expression_at d) a ts ≡ total
    → Fails stop (joined_by (joins_of j.operator) a (tier_at j.tier (expression_at d) rest)) → Fails stop total
tier-lost stop n d a ts rest j total lt most h so_far fails =
    fails_so stop (joined_by (joins_of j.operator) a (tier_at j.tier (expression_at d) rest)) total
    (λ e. sym so_far ∙ joined-lost n j.tier (expression_at d) a ts (joins_of j.operator, rest) lt (of_joint ts rest j most h)
    (nothing_by (tier_at j.tier (expression_at d) rest) (λ b. (joins_of j.operator a b.0, b.1)) e)) fails

pub tier-on : (n d : ℕ) (a : Expression) (ts rest : List Token) (j : Joint) (total : Read Token Expression) (all : Expression) (behind : List Token) → j.tier < n → j.tier ≤ 10
    → ((k : ℕ) → joins_at k ts ≡ (of_level k (joint_of j) >>= λ f. Some (f, rest))) → joined_at n (expression_at d) a ts ≡ total
    → joined_by (joins_of j.operator) a (tier_at j.tier (expression_at d) rest) ≡ Some (all, behind) → joined_at n (expression_at d) all behind ≡ total
tier-on n d a ts rest j total all behind lt most h so_far read =
    let b = bound read in
    let next = joined-on n j.tier (expression_at d) (tier_small d j.tier most) a ts (joins_of j.operator, rest) b.0.0 b.0.1 lt (of_joint ts rest j most h) b.1 in
    let same : (joins_of j.operator a b.0.0, b.0.1) ≡ (all, behind) = cc b.2 in
    ap (λ (p : Expression × List Token). joined_at n (expression_at d) p.0 p.1) (sym same) ∙ sym next ∙ so_far

pub tier-smaller : (d : ℕ) (a : Expression) (ts rest : List Token) (j : Joint) (all : Expression) (behind : List Token) → j.tier ≤ 10
    → ((k : ℕ) → joins_at k ts ≡ (of_level k (joint_of j) >>= λ f. Some (f, rest)))
    → joined_by (joins_of j.operator) a (tier_at j.tier (expression_at d) rest) ≡ Some (all, behind) → length behind < length ts
tier-smaller d a ts rest j all behind most h read =
    let b = bound read in
    let shorter : length b.0.1 < length rest = tier_small d j.tier most rest b.0.0 b.0.1 b.1 in
    let parts : length ts ≡ suc (length rest) =
    ap (λ (us : List Token). length us) (joins_spelled (11 - j.tier) ts (joins_of j.operator, rest) (of_tier j.tier ts (joins_of j.operator, rest) (of_joint ts rest j most h))).parts in
    let same : (joins_of j.operator a b.0.0, b.0.1) ≡ (all, behind) = cc b.2 in
    let last : length b.0.1 ≡ length behind = ap (λ (p : Expression × List Token). length p.1) same in
    omega (arith, shorter, parts, last)

-- ---- conditions with values

pub no_level : (d : ℕ) (ts : List Token) → d ≡ 0 → expression_at d ts ≡ None
unfolding expression_at
no_level zero ts e = refl
no_level (suc d) ts e = absurd (omega arith)

chosen_as : (r : Read Token Expression) → chosen_by [] r ≡ r
chosen_as None = refl
chosen_as (Some x) = refl

pub one_level : (d : ℕ) (ts : List Token) → 0 < d → chosen_by [] (conditional_at (expression_at (d - 1)) ts) ≡ expression_at d ts
unfolding expression_at
one_level zero ts h = absurd (omega arith)
one_level (suc d) ts h =
    let e : suc d - 1 ≡ d = omega arith in chosen_as (conditional_at (expression_at (suc d - 1)) ts) ∙ ap (λ (k : ℕ). conditional_at (expression_at k) ts) e

pub choices-fail : (stop : ExpressionStop) (whole_at : Reader) (cs : List Choice) (ts : List Token) (total : Read Token Expression) → chosen_by cs (conditional_at whole_at ts) ≡ total
    → Fails stop (tier_at 11 whole_at ts) → Fails stop total
choices-fail stop whole_at cs ts total so_far h =
    fails_so stop (tier_at 11 whole_at ts) total (λ e. sym so_far ∙ ap (chosen_by cs) (conditional-lost whole_at ts e)) h

pub choices-over : (whole_at : Reader) (cs : List Choice) (ts : List Token) (total : Read Token Expression) (c : Expression) (rest : List Token) (all : Expression) → chosen_by cs (conditional_at whole_at ts) ≡ total
    → tier_at 11 whole_at ts ≡ Some (c, rest) → after_mark question rest ≡ None → all ≡ chosen cs c → total ≡ Some (all, rest)
choices-over whole_at cs ts total c rest all so_far at_condition at_question made =
    sym so_far ∙ ap (chosen_by cs) (conditional-over whole_at ts c rest at_condition at_question) ∙ ap (λ (e : Expression). some (e, rest)) (sym made)

value_lost : (whole_at : Reader) (ts : List Token) (c : Expression) (behind value : List Token) → tier_at 11 whole_at ts ≡ Some (c, behind) → after_mark question behind ≡ Some value
    → (r : Read Token Expression) → whole_at value ≡ r → closed_by colon r ≡ None → conditional_at whole_at ts ≡ None
value_lost whole_at ts c behind value at_condition at_question None is e = conditional-no_value whole_at ts c behind value at_condition at_question is
value_lost whole_at ts c behind value at_condition at_question (Some x) is e =
    conditional-no_colon whole_at ts c behind value x.0 x.1 at_condition at_question is (nothing_by (after_mark colon x.1) (λ rest. (x.0, rest)) e)

pub choices-lost : (stop : ExpressionStop) (whole_at : Reader) (cs : List Choice) (ts : List Token) (total : Read Token Expression) (c : Expression) (behind value : List Token)
    → chosen_by cs (conditional_at whole_at ts) ≡ total → tier_at 11 whole_at ts ≡ Some (c, behind) → after_mark question behind ≡ Some value
    → Fails stop (valued_by c (closed_at colon whole_at value)) → Fails stop total
unfolding closed_at
choices-lost stop whole_at cs ts total c behind value so_far at_condition at_question fails =
    fails_so stop (valued_by c (closed_at colon whole_at value)) total
    (λ e. sym so_far ∙ ap (chosen_by cs) (value_lost whole_at ts c behind value at_condition at_question (whole_at value) refl
    (nothing_by (closed_at colon whole_at value) (λ x. ((c, x.0), x.1)) e))) fails

chosen-push : (cs : List Choice) (ch : Choice) (y : Expression) → chosen (cs ++ ch ∷ []) y ≡ chosen cs (tree.conditional (tree_of ch.condition) (tree_of ch.value) y)
chosen-push [] ch y = refl
chosen-push (d ∷ cs) ch y = ap (tree.conditional (tree_of d.condition) (tree_of d.value)) (chosen-push cs ch y)

chosen_by-push : (cs : List Choice) (ch : Choice) (r : Read Token Expression) → chosen_by (cs ++ ch ∷ []) r ≡ chosen_by cs (before_choice (tree_of ch.condition) (tree_of ch.value) r)
chosen_by-push cs ch None = refl
chosen_by-push cs ch (Some y) = ap (λ (e : Expression). some (e, y.1)) (chosen-push cs ch y.0)

-- a value that was read up to its colon
record IsValued (whole_at : Reader) (value : List Token) (x : Expression) (other : List Token) : Type 0 where
  after : List Token
  read : whole_at value ≡ Some (x, after)
  colon_there : after_mark colon after ≡ Some other

valued_same : (x : Expression) (rest : List Token) (v : Expression × List Token) → some {A = Expression × List Token} (x, rest) ≡ some v → (c : Expression) (ch : Choice) (other : List Token)
    → some {A = (Expression × Expression) × List Token} ((c, v.0), v.1) ≡ some (choice_of ch, other) → (rest ≡ other) × (c ≡ tree_of ch.condition) × (x ≡ tree_of ch.value)
valued_same x rest v e c ch other f =
    let first = some_is {A = Expression × List Token} (x, rest) v e in
    let second = some_is {A = (Expression × Expression) × List Token} ((c, v.0), v.1) (choice_of ch, other) f in (
      ap (λ (p : Expression × List Token). p.1) first ∙ ap (λ (p : (Expression × Expression) × List Token). p.1) second,
      ap (λ (p : (Expression × Expression) × List Token). p.0.0) second,
      ap (λ (p : Expression × List Token). p.0) first ∙ ap (λ (p : (Expression × Expression) × List Token). p.0.1) second,
    )

valued : (whole_at : Reader) (c : Expression) (value : List Token) (ch : Choice) (other : List Token) → valued_by c (closed_at colon whole_at value) ≡ Some (choice_of ch, other)
    → (c ≡ tree_of ch.condition) × IsValued whole_at value (tree_of ch.value) other
unfolding closed_at
valued whole_at c value ch other e =
    let v = bound e in
    let x = bound v.1 in
    let m = bound x.2 in
    let same : (m.0 ≡ other) × (c ≡ tree_of ch.condition) × (x.0.0 ≡ tree_of ch.value) = valued_same x.0.0 m.0 v.0 m.2 c ch other v.2 in (
      same.1,
      record {
        after = x.0.1;
        read = x.1 ∙ ap (λ (y : Expression). some (y, x.0.1)) same.2;
        colon_there = m.1 ∙ ap (λ (us : List Token). some us) same.0;
      },
    )

pub choices-on : (d : ℕ) (cs : List Choice) (ts : List Token) (total : Read Token Expression) (c : Expression) (behind value : List Token) (ch : Choice) (other : List Token)
    → chosen_by cs (conditional_at (expression_at d) ts) ≡ total → tier_at 11 (expression_at d) ts ≡ Some (c, behind) → after_mark question behind ≡ Some value
    → valued_by c (closed_at colon (expression_at d) value) ≡ Some (choice_of ch, other) → chosen_by (cs ++ ch ∷ []) (conditional_at (expression_at d) other) ≡ total
choices-on d cs ts total c behind value ch other so_far at_condition at_question read =
    let v = valued (expression_at d) c value ch other read in
    let step = conditional-on (expression_at d) (expression_spelled d) ts c behind value (tree_of ch.value) v.1.after other at_condition at_question v.1.read v.1.colon_there in
    chosen_by-push cs ch (conditional_at (expression_at d) other)
    ∙ ap (λ (b : Expression). chosen_by cs (before_choice b (tree_of ch.value) (conditional_at (expression_at d) other))) (sym v.0)
    ∙ ap (chosen_by cs) (sym step) ∙ so_far

pub choices-smaller : (d : ℕ) (ts : List Token) (c : Expression) (behind value : List Token) (ch : Choice) (other : List Token) → tier_at 11 (expression_at d) ts ≡ Some (c, behind)
    → after_mark question behind ≡ Some value → valued_by c (closed_at colon (expression_at d) value) ≡ Some (choice_of ch, other) → length other < length ts
choices-smaller d ts c behind value ch other at_condition at_question read =
    let v = valued (expression_at d) c value ch other read in
    let one : length behind < length ts = shrinks 1 (tier_at 11 (expression_at d)) (tier_spelled (expression_at d) (expression_spelled d) 11 (omega arith)) ts c behind at_condition in
    let two : length behind ≡ suc (length value) = ap (λ (us : List Token). length us) (mark_spelled question at_question) in
    let three : length v.1.after < length value = shrinks 0 (expression_at d) (expression_spelled d) value (tree_of ch.value) v.1.after v.1.read in
    let four : length v.1.after ≡ suc (length other) = ap (λ (us : List Token). length us) (mark_spelled colon v.1.colon_there) in
    omega (arith, one, two, three, four)

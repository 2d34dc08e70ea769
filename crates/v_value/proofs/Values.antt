-- Values of chains, over the lists of their links.
use Rattle.std.proofs.Common.{◌≡◌, ◌≤◌, ◌<◌, ℕ, zero, suc, ◌+◌, ◌*◌, ◌^◌, ◌∙◌, refl, ap, max, cond, Bool, true, false, ◌&&◌, ◌||◌, List, [], ◌∷◌, Option, Some, unwrap_or, arith}
use Rattle.std.proofs.Math.Pow.{pow_mono}
use Rattle.std.proofs.Math.Nat.{zero-mul, mul-zero}
use Rattle.wb_values.specs.Value.{Valuation}
use Rattle.verilog_trees.specs.Syntax as pure
use Rattle.verilog_trees.specs.Syntax.{concatenation, replication}
use Rattle.verilog_meaning.specs.Expression as meaning
use Rattle.verilog_meaning.specs.Expression.{Scope, bit, is_nonzero, widened}
use Rattle.v_syntax.specs.declared.tree.PrefixOperator.{PrefixOperator}
use Rattle.v_syntax.specs.declared.tree.PrefixOperator.TheVariants.{Plus}
use Rattle.v_syntax.specs.declared.tree.BinaryOperator.{BinaryOperator}
use Rattle.v_syntax.specs.declared.tree.BinaryOperator.TheVariants.{Power, ShiftLeft, ShiftRight, ArithmeticShiftRight}
use Rattle.v_syntax.specs.declared.tree.TestOperator.{TestOperator}
use Rattle.v_syntax.specs.declared.tree.TestOperator.TheVariants.{Less}
use Rattle.v_syntax.specs.declared.tree.BinaryLink.{BinaryLink}
use Rattle.v_syntax.specs.declared.tree.TestLink.{TestLink}
use Rattle.v_syntax.specs.declared.tree.Choice.{Choice}
use Rattle.v_syntax.specs.declared.tree.Expression.{Expression}
use Rattle.v_syntax.specs.Tree.{tree_of, prefixed, all_prefixed, combined, tested, expressions_of}
use Rattle.v_value.specs.Links.{is_reduction, has_reduction, leaves_to_left}
use Rattle.v_syntax.specs.Chain.{linked, test_linked, chosen}
use Rattle.v_value.specs.Evaluation.{width_at, sign_at, value_at, self_at, count_at, run_width, step_value, run_value, prefixes_value, applied, links_value, AreLinksWithin, is_logical, compared_said, said, tests_value, context_width, context_sign, choices_value, AreChoicesWithin, parts_width, parts_value}
use Rattle.v_value.specs.Operators.{unary_prefix_value, reduction_prefix_value, joined_truth}

-- truth values as bits

pub bit_fits : (b : Bool) (w : ℕ) → 1 ≤ w → bit b < 2 ^ w
bit_fits true w h = omega (arith, pow_mono h)
bit_fits false w h = omega (arith, pow_mono h)

nonzero-bit : (b : Bool) → is_nonzero (bit b) ≡ b
nonzero-bit true = refl
nonzero-bit false = refl

pub self_is : (s : Scope) (v : Valuation) (e : pure.Expression) → self_at s v e ≡ value_at s v e (width_at s e) (sign_at s e)
unfolding self_at value_at width_at sign_at
self_is s v e = refl

-- operators before an operand

width-prefixed : (s : Scope) (o : PrefixOperator) (x : pure.Expression) → width_at s (prefixed o x) ≡ cond (is_reduction o) 1 (width_at s x)
unfolding width_at
width-prefixed s Plus x = refl
width-prefixed s _ x = refl

pub run-width : (s : Scope) (os : List PrefixOperator) (x : pure.Expression) → width_at s (all_prefixed os x) ≡ run_width os (width_at s x)
run-width s [] x = refl
run-width s (o ∷ os) x = width-prefixed s o (all_prefixed os x) ∙ ap (cond (is_reduction o) 1) (run-width s os x)

pub run-unary : (os : List PrefixOperator) (w : ℕ) → has_reduction os ≡ false → run_width os w ≡ w
run-unary [] w h = refl
run-unary (o ∷ os) w h = elim (is_reduction o) as (λ b. (b || has_reduction os ≡ false) → cond b 1 (run_width os w) ≡ w) [ true ↦ λ k. cc k | false ↦ λ k. run-unary os w k ] h

self-prefixed : (s : Scope) (v : Valuation) (o : PrefixOperator) (x : pure.Expression) → self_at s v (prefixed o x) ≡ step_value o (width_at s x) (self_at s v x)
unfolding self_at width_at
self-prefixed s v Plus x = refl
self-prefixed s v _ x = refl

run-self : (s : Scope) (v : Valuation) (os : List PrefixOperator) (x : pure.Expression) → self_at s v (all_prefixed os x) ≡ run_value os (width_at s x) (self_at s v x)
run-self s v [] x = refl
run-self s v (o ∷ os) x =
    self-prefixed s v o (all_prefixed os x) ∙ ap (λ w. step_value o w (self_at s v (all_prefixed os x))) (run-width s os x) ∙ ap (step_value o (run_width os (width_at s x))) (run-self s v os x)

value-prefixed : (s : Scope) (v : Valuation) (o : PrefixOperator) (x : pure.Expression) (w : ℕ) (t : Bool) → value_at s v (prefixed o x) w t ≡ cond (is_reduction o) (bit (reduction_prefix_value o (width_at s x) (self_at s v x))) (unary_prefix_value o w (value_at s v x w t))
unfolding self_at width_at value_at
value-prefixed s v Plus x w t = refl
value-prefixed s v _ x w t = refl

pub value-all_prefixed : (s : Scope) (v : Valuation) (os : List PrefixOperator) (x : pure.Expression) (w : ℕ) (t : Bool) → value_at s v (all_prefixed os x) w t ≡ prefixes_value os w (value_at s v x w t) (width_at s x) (self_at s v x)
value-all_prefixed s v [] x w t = refl
value-all_prefixed s v (o ∷ os) x w t =
    value-prefixed s v o (all_prefixed os x) w t
    ∙ ap (λ u. cond (is_reduction o) (bit (reduction_prefix_value o u (self_at s v (all_prefixed os x)))) (unary_prefix_value o w (value_at s v (all_prefixed os x) w t))) (run-width s os x)
    ∙ ap (λ y. cond (is_reduction o) (bit (reduction_prefix_value o (run_width os (width_at s x)) y)) (unary_prefix_value o w (value_at s v (all_prefixed os x) w t))) (run-self s v os x)
    ∙ ap (λ y. cond (is_reduction o) (bit (reduction_prefix_value o (run_width os (width_at s x)) (run_value os (width_at s x) (self_at s v x)))) (unary_prefix_value o w y)) (value-all_prefixed s v os x w t)

-- Where no operator makes one bit, the operand by itself does not matter; where one does, its value in the context does not.
pub prefixes-unary : (os : List PrefixOperator) (w y u x u' x' : ℕ) → has_reduction os ≡ false → prefixes_value os w y u x ≡ prefixes_value os w y u' x'
prefixes-unary [] w y u x u' x' h = refl
prefixes-unary (o ∷ os) w y u x u' x' h =
    elim (is_reduction o) as (λ b. (b || has_reduction os ≡ false) → cond b (bit (reduction_prefix_value o (run_width os u) (run_value os u x))) (unary_prefix_value o w (prefixes_value os w y u x)) ≡ cond b (bit (reduction_prefix_value o (run_width os u') (run_value os u' x'))) (unary_prefix_value o w (prefixes_value os w y u' x'))) [
      | true ↦ λ k. cc k
      | false ↦ λ k. ap (unary_prefix_value o w) (prefixes-unary os w y u x u' x' k)
    ] h

pub prefixes-reduced : (os : List PrefixOperator) (w y y' u x : ℕ) → has_reduction os ≡ true → prefixes_value os w y u x ≡ prefixes_value os w y' u x
prefixes-reduced [] w y y' u x h = cc h
prefixes-reduced (o ∷ os) w y y' u x h =
    elim (is_reduction o) as (λ b. (b || has_reduction os ≡ true) → cond b (bit (reduction_prefix_value o (run_width os u) (run_value os u x))) (unary_prefix_value o w (prefixes_value os w y u x)) ≡ cond b (bit (reduction_prefix_value o (run_width os u) (run_value os u x))) (unary_prefix_value o w (prefixes_value os w y' u x))) [
      | true ↦ λ k. refl
      | false ↦ λ k. ap (unary_prefix_value o w) (prefixes-reduced os w y y' u x k)
    ] h

-- links

value-combined : (s : Scope) (v : Valuation) (o : BinaryOperator) (x y : pure.Expression) (w : ℕ) (t : Bool) → value_at s v (combined o x y) w t ≡ applied s v o w t (value_at s v x w t) y
unfolding value_at self_at sign_at width_at
value-combined s v Power x y w t = refl
value-combined s v _ x y w t = refl

pub value-linked : (s : Scope) (v : Valuation) (ls : List BinaryLink) (x : pure.Expression) (w : ℕ) (t : Bool) → value_at s v (linked ls x) w t ≡ links_value s v w t (value_at s v x w t) ls
value-linked s v [] x w t = refl
value-linked s v (l ∷ ls) x w t =
    value-linked s v ls _ w t ∙ ap (λ a. links_value s v w t a ls) (value-combined s v l.operator x (tree_of l.operand) w t)

within-combined : (s : Scope) (o : BinaryOperator) (x y : pure.Expression) (w : ℕ) → width_at s (combined o x y) ≤ w → (width_at s x ≤ w) × (leaves_to_left o ≡ false → width_at s y ≤ w)
unfolding width_at
within-combined s Power x y w h = (h, λ k. cc k)
within-combined s ShiftLeft x y w h = (h, λ k. cc k)
within-combined s ShiftRight x y w h = (h, λ k. cc k)
within-combined s ArithmeticShiftRight x y w h = (h, λ k. cc k)
within-combined s _ x y w h = (omega (arith, h), λ k. omega (arith, h))

pub within-linked : (s : Scope) (ls : List BinaryLink) (x : pure.Expression) (w : ℕ) → width_at s (linked ls x) ≤ w → (width_at s x ≤ w) × AreLinksWithin s w ls
within-linked s [] x w h = (h, tt)
within-linked s (l ∷ ls) x w h =
    let g = within-linked s ls _ w h in
    let f = within-combined s l.operator x (tree_of l.operand) w g.0 in
    (f.0, (f.1, g.1))

-- tests

value-tested : (s : Scope) (v : Valuation) (o : TestOperator) (x y : pure.Expression) (w : ℕ) (t : Bool) →
    value_at s v (tested o x y) w t ≡ bit (cond (is_logical o) (joined_truth o (is_nonzero (self_at s v x)) (is_nonzero (self_at s v y))) (compared_said s v o (width_at s x) (sign_at s x) (value_at s v x (max (width_at s x) (width_at s y)) (sign_at s x && sign_at s y)) y))
unfolding value_at self_at width_at sign_at
value-tested s v Less x y w t = refl
value-tested s v _ x y w t = refl

sign-tested : (s : Scope) (o : TestOperator) (x y : pure.Expression) → sign_at s (tested o x y) ≡ false
unfolding sign_at
sign-tested s Less x y = refl
sign-tested s _ x y = refl

width-tested : (s : Scope) (o : TestOperator) (x y : pure.Expression) → width_at s (tested o x y) ≡ 1
unfolding width_at
width-tested s Less x y = refl
width-tested s _ x y = refl

-- what a test says of an operand, whose value is taken in the context that the test gives it
said-tested : (s : Scope) (v : Valuation) (o : TestOperator) (x y : pure.Expression) (w : ℕ) (t : Bool) →
    value_at s v (tested o x y) w t ≡ bit (said s v o (width_at s x) (sign_at s x) (value_at s v x (cond (is_logical o) (width_at s x) (max (width_at s x) (width_at s y))) (cond (is_logical o) (sign_at s x) (sign_at s x && sign_at s y))) y)
said-tested s v o x y w t =
    value-tested s v o x y w t ∙ elim (is_logical o) as (λ b.
    bit (cond b (joined_truth o (is_nonzero (self_at s v x)) (is_nonzero (self_at s v y))) (compared_said s v o (width_at s x) (sign_at s x) (value_at s v x (max (width_at s x) (width_at s y)) (sign_at s x && sign_at s y)) y))
    ≡ bit (cond b (joined_truth o (is_nonzero (value_at s v x (cond b (width_at s x) (max (width_at s x) (width_at s y))) (cond b (sign_at s x) (sign_at s x && sign_at s y)))) (is_nonzero (self_at s v y))) (compared_said s v o (width_at s x) (sign_at s x) (value_at s v x (cond b (width_at s x) (max (width_at s x) (width_at s y))) (cond b (sign_at s x) (sign_at s x && sign_at s y))) y))) [
      | true ↦ ap (λ z. bit (joined_truth o (is_nonzero z) (is_nonzero (self_at s v y)))) (self_is s v x)
      | false ↦ refl
    ]

-- the expression stands for a bit
record IsBit (s : Scope) (v : Valuation) (x : pure.Expression) (b : Bool) : Type 0 where
  plain : sign_at s x ≡ false
  one_bit : width_at s x ≡ 1
  value : (w : ℕ) → value_at s v x w false ≡ bit b

said-bit : (s : Scope) (v : Valuation) (o : TestOperator) (x : pure.Expression) (b : Bool) (y : pure.Expression) (w : ℕ) (t : Bool) → IsBit s v x b → value_at s v (tested o x y) w t ≡ bit (said s v o 1 false (bit b) y)
said-bit s v o x b y w t h =
    said-tested s v o x y w t
    ∙ ap (λ p. bit (said s v o (width_at s x) p (value_at s v x (cond (is_logical o) (width_at s x) (max (width_at s x) (width_at s y))) (cond (is_logical o) p (p && sign_at s y))) y)) h.plain
    ∙ ap (λ p. bit (said s v o (width_at s x) false (value_at s v x (cond (is_logical o) (width_at s x) (max (width_at s x) (width_at s y))) p) y)) (both-false (is_logical o))
    ∙ ap (λ z. bit (said s v o (width_at s x) false z y)) (h.value (cond (is_logical o) (width_at s x) (max (width_at s x) (width_at s y))))
    ∙ ap (λ u. bit (said s v o u false (bit b) y)) h.one_bit
  where
    both-false : (c : Bool) → cond c false false ≡ false
    both-false true = refl
    both-false false = refl

value-tests : (s : Scope) (v : Valuation) (ls : List TestLink) (x : pure.Expression) (b : Bool) (w : ℕ) (t : Bool) → IsBit s v x b → value_at s v x w t ≡ bit b → value_at s v (test_linked ls x) w t ≡ tests_value s v 1 false (bit b) ls
value-tests s v [] x b w t h k = k
value-tests s v (l ∷ ls) x b w t h k =
    let y = tree_of l.operand in
    let e = λ (u : ℕ) (p : Bool). said-bit s v l.operator x b y u p h in
    value-tests s v ls _ (said s v l.operator 1 false (bit b) y) w t (record { plain = sign-tested s l.operator x y; one_bit = width-tested s l.operator x y; value = λ u. e u false }) (e w t)

pub value-test_linked : (s : Scope) (v : Valuation) (ls : List TestLink) (x : pure.Expression) (w : ℕ) (t : Bool) →
    value_at s v (test_linked ls x) w t ≡ tests_value s v (width_at s x) (sign_at s x) (value_at s v x (context_width s (width_at s x) ls w) (context_sign s (sign_at s x) ls t)) ls
value-test_linked s v [] x w t = refl
value-test_linked s v (l ∷ ls) x w t =
    let y = tree_of l.operand in
    let e = λ (u : ℕ) (p : Bool). said-tested s v l.operator x y u p in
    value-tests s v ls _ _ w t (record { plain = sign-tested s l.operator x y; one_bit = width-tested s l.operator x y; value = λ u. e u false }) (e w t)

-- The context of the first operand is at least as wide as the operand where the whole is.
pub within-test_linked : (s : Scope) (ls : List TestLink) (x : pure.Expression) (w : ℕ) → width_at s (test_linked ls x) ≤ w → width_at s x ≤ context_width s (width_at s x) ls w
within-test_linked s [] x w h = h
within-test_linked s (l ∷ ls) x w h = elim (is_logical l.operator) as (λ b. width_at s x ≤ cond b (width_at s x) (max (width_at s x) (width_at s (tree_of l.operand)))) [ true ↦ omega arith | false ↦ omega arith ]

-- conditionals

value-conditional : (s : Scope) (v : Valuation) (c x y : pure.Expression) (w : ℕ) (t : Bool) → value_at s v (pure.conditional c x y) w t ≡ cond (is_nonzero (self_at s v c)) (value_at s v x w t) (value_at s v y w t)
unfolding value_at self_at
value-conditional s v c x y w t = refl

or-cond : (b : Bool) (x : ℕ) (o : Option ℕ) (y : ℕ) → cond b x (unwrap_or o y) ≡ unwrap_or (cond b (Some x) o) y
or-cond true x o y = refl
or-cond false x o y = refl

pub value-chosen : (s : Scope) (v : Valuation) (cs : List Choice) (y : pure.Expression) (w : ℕ) (t : Bool) → value_at s v (chosen cs y) w t ≡ unwrap_or (choices_value s v cs w t) (value_at s v y w t)
value-chosen s v [] y w t = refl
value-chosen s v (c ∷ cs) y w t =
    value-conditional s v (tree_of c.condition) (tree_of c.value) (chosen cs y) w t
    ∙ ap (cond (is_nonzero (self_at s v (tree_of c.condition))) (value_at s v (tree_of c.value) w t)) (value-chosen s v cs y w t)
    ∙ or-cond (is_nonzero (self_at s v (tree_of c.condition))) _ _ _

width-conditional : (s : Scope) (c x y : pure.Expression) → width_at s (pure.conditional c x y) ≡ max (width_at s x) (width_at s y)
unfolding width_at
width-conditional s c x y = refl

pub within-chosen : (s : Scope) (cs : List Choice) (y : pure.Expression) (w : ℕ) → width_at s (chosen cs y) ≤ w → AreChoicesWithin s w cs × (width_at s y ≤ w)
within-chosen s [] y w h = (tt, h)
within-chosen s (c ∷ cs) y w h =
    let e = width-conditional s (tree_of c.condition) (tree_of c.value) (chosen cs y) in
    let g = within-chosen s cs y w (omega (arith, e, h)) in
    ((omega (arith, e, h), g.0), g.1)

-- parts side by side

pub widths-parts : (s : Scope) (es : List Expression) → meaning.widths_of s (expressions_of es) ≡ parts_width s es
unfolding width_at
widths-parts s [] = refl
widths-parts s (e ∷ es) = ap (λ w. meaning.width_of s (tree_of e) + w) (widths-parts s es)

pub joined-parts : (s : Scope) (v : Valuation) (es : List Expression) → meaning.joined_value s v (expressions_of es) ≡ parts_value s v es
unfolding self_at
joined-parts s v [] = refl
joined-parts s v (e ∷ es) =
    ap (λ w. meaning.self_value s v (tree_of e) * 2 ^ w + meaning.joined_value s v (expressions_of es)) (widths-parts s es)
    ∙ ap (λ j. meaning.self_value s v (tree_of e) * 2 ^ parts_width s es + j) (joined-parts s v es)

-- copies side by side

pub width-repeated : (s : Scope) (k : pure.Expression) (es : List Expression) → meaning.width_of s (replication k (expressions_of es)) ≡ count_at s k * parts_width s es
unfolding count_at
width-repeated s k es = ap (λ w. meaning.natural_of (meaning.integer_of s meaning.no_values k) * w) (widths-parts s es)

pub value-repeated : (s : Scope) (v : Valuation) (k : pure.Expression) (es : List Expression) (w : ℕ) (t : Bool) →
    value_at s v (replication k (expressions_of es)) w t ≡ widened t (count_at s k * parts_width s es) w (meaning.side_by_side (count_at s k) (parts_width s es) (parts_value s v es))
unfolding value_at count_at
value-repeated s v k es w t =
    let n : ℕ = meaning.natural_of (meaning.integer_of s meaning.no_values k) in
    ap (λ u. widened t (n * u) w (meaning.side_by_side n u (meaning.joined_value s v (expressions_of es)))) (widths-parts s es)
    ∙ ap (λ y. widened t (n * parts_width s es) w (meaning.side_by_side n (parts_width s es) y)) (joined-parts s v es)

pub some_left : (m u : ℕ) → 1 ≤ m * u → 1 ≤ m
some_left zero u h = absurd (omega (arith, h, zero-mul u))
some_left (suc m) u h = omega arith

pub some_right : (m u : ℕ) → 1 ≤ m * u → 1 ≤ u
some_right m zero h = absurd (omega (arith, h, mul-zero m))
some_right m (suc u) h = omega arith

pub most_right : (m u : ℕ) → 1 ≤ m * u → u ≤ m * u
most_right zero u h = absurd (omega (arith, h, zero-mul u))
most_right (suc m) u h = omega arith

-- the number of a constant, over what the calls returned
pub count-value : (s : Scope) (e : pure.Expression) (t : Bool) (u y : ℕ) → t ≡ sign_at s e → u ≡ width_at s e → y ≡ self_at s meaning.no_values e → (r : ℕ) → r ≡ meaning.natural_of (meaning.integer_from t u y) → r ≡ count_at s e
unfolding count_at sign_at width_at self_at
count-value s e t u y is_t is_u is_y r g =
    g ∙ ap (λ b. meaning.natural_of (meaning.integer_from b u y)) is_t ∙ ap (λ m. meaning.natural_of (meaning.integer_from (meaning.sign_of s e) m y)) is_u
    ∙ ap (λ z. meaning.natural_of (meaning.integer_from (meaning.sign_of s e) (meaning.width_of s e) z)) is_y

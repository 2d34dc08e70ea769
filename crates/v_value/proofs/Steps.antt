-- One turn of the loops over chains.
use Rattle.std.proofs.Common.{◌≡◌, ◌≤◌, ◌<◌, ℕ, suc, ◌+◌, ◌-◌, ◌*◌, ◌^◌, ◌∙◌, ap, sym, subst, Bool, true, false, cond, List, ◌∷◌, length, get_or, drop, add-one, arith}
use Rattle.std.proofs.Math.Seq.{drop-cons}
use Rattle.std.proofs.Math.Pow.{pow-add}
use Rattle.wb_values.specs.Value.{Valuation}
use Rattle.verilog_meaning.specs.Expression.{Scope, bit}
use Rattle.v_syntax.specs.declared.tree.TestLink.{TestLink}
use Rattle.v_syntax.specs.declared.tree.Expression.{Expression}
use Rattle.v_syntax.specs.Tree.{tree_of, expressions_of}
use Rattle.v_value.specs.Narrow.{AreNarrow}
use Rattle.v_syntax.specs.declared.tree.PrefixOperator.{PrefixOperator}
use Rattle.v_syntax.specs.declared.tree.PrefixOperator.TheVariants.{Plus}
use Rattle.v_value.specs.Links.{AreTestsNarrow, is_reduction}
use Rattle.v_value.specs.Operators.{unary_prefix_value, reduction_prefix_value}
use Rattle.v_value.specs.Evaluation.{run_width, run_value, prefixes_value, width_at, self_at, said, tests_value, parts_width, parts_value}

pub drop-item : {A : Type 0} (xs : List A) (i : ℕ) (x : A) → i < length xs → x ≡ get_or xs i x → drop i xs ≡ x ∷ drop (i + 1) xs
drop-item xs i x h k = drop-cons xs i x h ∙ ap (λ y. y ∷ drop (suc i) xs) (sym k) ∙ ap (λ n. x ∷ drop n xs) (sym (add-one i))

pub tests-step : (s : Scope) (v : Valuation) (w : ℕ) (t : Bool) (x : ℕ) (links : List TestLink) (i : ℕ) (l : TestLink) → i < length links → l ≡ get_or links i l →
    (r : Bool) → r ≡ said s v l.operator w t x (tree_of l.operand) → (y : ℕ) → y ≡ bit r → tests_value s v w t x (drop i links) ≡ tests_value s v 1 false y (drop (i + 1) links)
tests-step s v w t x links i l h k r is_r y is_y =
    ap (tests_value s v w t x) (drop-item links i l h k) ∙ sym (ap (λ z. tests_value s v 1 false z (drop (i + 1) links)) (is_y ∙ ap bit is_r))

pub tests-rest : (s : Scope) (links : List TestLink) (i : ℕ) (l : TestLink) → i < length links → l ≡ get_or links i l → AreTestsNarrow s (drop i links) → AreTestsNarrow s (drop (i + 1) links)
tests-rest s links i l h k n = (subst (AreTestsNarrow s) (drop-item links i l h k) n).1

pub parts-rest : (s : Scope) (parts : List Expression) (i : ℕ) (e : Expression) → i < length parts → e ≡ get_or parts i e → AreNarrow s (expressions_of (drop i parts)) → AreNarrow s (expressions_of (drop (i + 1) parts))
parts-rest s parts i e h k n = (subst (λ es. AreNarrow s (expressions_of es)) (drop-item parts i e h k) n).1

pub width-step : (s : Scope) (parts : List Expression) (i : ℕ) (e : Expression) → i < length parts → e ≡ get_or parts i e → (p w u : ℕ) → p ≡ w + parts_width s (drop i parts) → u ≡ width_at s (tree_of e) → p ≡ w + u + parts_width s (drop (i + 1) parts)
width-step s parts i e h k p w u is_p is_u = omega (arith, is_p, is_u, ap (parts_width s) (drop-item parts i e h k))

shifted : (a u m x p : ℕ) → a * 2 ^ (u + m) + (x * 2 ^ m + p) ≡ (a * 2 ^ u + x) * 2 ^ m + p
shifted a u m x p = rw (pow-add 2 u m) (omega arith)

pub value-step : (s : Scope) (v : Valuation) (parts : List Expression) (i : ℕ) (e : Expression) → i < length parts → e ≡ get_or parts i e → (p a u x r : ℕ) →
    p ≡ a * 2 ^ parts_width s (drop i parts) + parts_value s v (drop i parts) → u ≡ width_at s (tree_of e) → x ≡ self_at s v (tree_of e) → r ≡ a * 2 ^ u + x →
    p ≡ r * 2 ^ parts_width s (drop (i + 1) parts) + parts_value s v (drop (i + 1) parts)
value-step s v parts i e h k p a u x r is_p is_u is_x is_r =
    let m = parts_width s (drop (i + 1) parts) in
    let q = parts_value s v (drop (i + 1) parts) in
    is_p ∙ ap (λ es. a * 2 ^ parts_width s es + parts_value s v es) (drop-item parts i e h k)
    ∙ ap (λ n. a * 2 ^ (n + m) + (self_at s v (tree_of e) * 2 ^ m + q)) (sym is_u) ∙ ap (λ n. a * 2 ^ (u + m) + (n * 2 ^ m + q)) (sym is_x)
    ∙ shifted a u m x q ∙ ap (λ n. n * 2 ^ m + q) (sym is_r)

-- a loop from the last operator to the first
module _ (os : List PrefixOperator) (i : ℕ) (some : 0 < i) (most : i ≤ length os) (reduces : is_reduction (get_or os (i - 1) Plus) ≡ true) where
  drop-before : drop (i - 1) os ≡ get_or os (i - 1) Plus ∷ drop i os
  drop-before =
      let h : i - 1 < length os = omega arith in
      let e : suc (i - 1) ≡ i = omega arith in
      drop-cons os (i - 1) Plus h ∙ ap (λ n. get_or os (i - 1) Plus ∷ drop n os) e

  pub reduced-outer : (w y u x m n : ℕ) → m ≡ run_width (drop i os) u → n ≡ run_value (drop i os) u x → (b : Bool) → b ≡ reduction_prefix_value (get_or os (i - 1) Plus) m n → (z : ℕ) → z ≡ bit b → z ≡ prefixes_value (drop (i - 1) os) w y u x
  reduced-outer w y u x m n is_m is_n b is_b z is_z =
      is_z ∙ ap bit (is_b ∙ ap (λ a. reduction_prefix_value (get_or os (i - 1) Plus) a n) is_m ∙ ap (reduction_prefix_value (get_or os (i - 1) Plus) (run_width (drop i os) u)) is_n)
      ∙ sym (ap (λ l. prefixes_value l w y u x) drop-before ∙ ap (λ c. cond c (bit (reduction_prefix_value (get_or os (i - 1) Plus) (run_width (drop i os) u) (run_value (drop i os) u x))) (unary_prefix_value (get_or os (i - 1) Plus) w (prefixes_value (drop i os) w y u x))) reduces)

  pub reduced-width : (u m : ℕ) → m ≡ 1 → m ≡ run_width (drop (i - 1) os) u
  reduced-width u m is_m = is_m ∙ sym (ap (λ l. run_width l u) drop-before ∙ ap (λ c. cond c 1 (run_width (drop i os) u)) reduces)

  pub reduced-value : (u x m n : ℕ) → m ≡ run_width (drop i os) u → n ≡ run_value (drop i os) u x → (b : Bool) → b ≡ reduction_prefix_value (get_or os (i - 1) Plus) m n → (z r : ℕ) → z ≡ bit b → r ≡ z → r ≡ run_value (drop (i - 1) os) u x
  reduced-value u x m n is_m is_n b is_b z r is_z is_r =
      is_r ∙ is_z ∙ ap bit (is_b ∙ ap (λ a. reduction_prefix_value (get_or os (i - 1) Plus) a n) is_m ∙ ap (reduction_prefix_value (get_or os (i - 1) Plus) (run_width (drop i os) u)) is_n)
      ∙ sym (ap (λ l. run_value l u x) drop-before ∙ ap (λ c. cond c (bit (reduction_prefix_value (get_or os (i - 1) Plus) (run_width (drop i os) u) (run_value (drop i os) u x))) (unary_prefix_value (get_or os (i - 1) Plus) (run_width (drop i os) u) (run_value (drop i os) u x))) reduces)

-- Decisions, choices by them, numbers and parts side by side: what is made of lowered operands is what the whole is lowered to.
use Rattle.std.proofs.Common.{◌≡◌, ℕ, ◌+◌, ◌*◌, ◌<◌, ◌≤◌, ◌^◌, Bool, true, false, cond, ◌&&◌, ◌||◌, not, nat_le, max, length, refl, sym, ap, ◌∙◌, subst, arith, ℤ, pos, ◌-ℤ◌}
use Rattle.std.specs.Prelude.{◌==◌, int_lt, int_le}
use Rattle.std.proofs.lemmas.Nat.{pow-add}
use Rattle.std.proofs.lemmas.Int.{ints}
use Rattle.std.proofs.lemmas.Bool.Decides.{nat_tests}
use Rattle.wb_values.specs.Value.{truth, word, Valuation}
use Rattle.wb_values.specs.Number.{top_bit, word_concat}
use Rattle.verilog_trees.specs.Syntax as pure
use Rattle.verilog_trees.specs.Syntax.{Expression, Expressions, no_expressions, expression, number, comparison, logical, conditional, reduction, concatenation, replication, ComparisonOperator, LogicalOperator, ReductionOperator}
use Rattle.verilog_meaning.specs.Expression.{Scope, width_of, widths_of, sign_of, value_of, joined_value, widened, comparison_value, logical_value, bit, is_nonzero, integer_from, natural_of, no_values, integer_of, side_by_side}
use Rattle.model_meaning.specs.Term as pure_term
use Rattle.model_meaning.specs.Term.{bits_sort, complement, term_width, val}
use Rattle.wb_terms.specs.Graph.{Graph, tree}
use Rattle.std.proofs.lemmas.Bool.{false≢true}
use Rattle.v_syntax.specs.declared.tree.TestOperator.{TestOperator}
use Rattle.v_syntax.specs.declared.tree.TestOperator.TheVariants.{Less, LessOrEqual, Greater, GreaterOrEqual, Equal, NotEqual, Both, Either}
use Rattle.v_syntax.specs.Tree.{tested}
use Rattle.v_operators.proofs.Forms.{formed}
use Rattle.v_lower.specs.Kinds.{is_logical}
use Rattle.v_operators.specs.Meaning.{Grows, IsOfSort, HasNumber, HasTruth, Makes, Joins, Tests, Compares, Counts, Connects, Chooses}
use Rattle.v_operators.proofs.Growing.{Grows-trans, number_kept, truth_kept}
use Rattle.v_lower.specs.Lowered.{Images, HasImages, IsLowered, IsLoweredAlone, AreLowered, after}
use Rattle.v_lower.specs.Deciding.{Decides, compared, connected}
use Rattle.v_lower.proofs.Lowering.{stands_before}

-- ---- decisions

pub decides : (g h : Graph) (x y u id : ℕ) (f : ℕ → ℕ → Bool) → Compares g h x y u id f → Decides g h x u y u id f
decides g h x y u id f m = record { of_sort = m.of_sort; value = m.value }

pub decides_turned : (g h : Graph) (x y u id : ℕ) (f : ℕ → ℕ → Bool) → Compares g h y x u id f → Decides g h x u y u id (λ a b. f b a)
decides_turned g h x y u id f m = record { of_sort = m.of_sort; value = λ p a b i j. m.value p b a j i }

-- two numbers that are not 0, one after the other
pub connect : (g h i j : Graph) (x u y v c d id : ℕ) (f : Bool → Bool → Bool) → IsOfSort g y (word v) → Grows g h → Tests g h x u c is_nonzero → Grows h i → Tests h i y v d is_nonzero → Connects i j c d id f
    → Decides g j x u y v id (λ a b. f (is_nonzero a) (is_nonzero b))
connect g h i j x u y v c d id f o gh m hi n k =
    record {
      of_sort = k.of_sort;
      value = λ p a b q r. k.value p (is_nonzero a) (is_nonzero b) (truth_kept c p (is_nonzero a) hi m.of_sort.below (m.value p a q)) (n.value p b (number_kept y v p b gh o.below r));
    }

-- equal numbers are those of which each is at most the other
same_tests : (a b : ℕ) → (a == b) ≡ nat_le a b && nat_le b a
same_tests a b = grind (arith, nat_tests)

from_true : (m n : ℕ) → true ≡ nat_le m n → m ≤ n
from_true m n e = grind (arith, nat_tests)

from_false : (m n : ℕ) → false ≡ nat_le m n → n < m
from_false m n e = grind (arith, nat_tests)

both_low : (a b n : ℕ) → (a == b) ≡ int_le (pos a -ℤ pos n) (pos b -ℤ pos n) && int_le (pos b -ℤ pos n) (pos a -ℤ pos n)
both_low a b n = first_of (grind (arith, ints, nat_tests), grind (arith, ints), omega (arith, ints, nat_tests))

first_low : (a b n : ℕ) → n ≤ 2 * a → 2 * b < n → a < n → (a == b) ≡ int_le (pos a -ℤ pos n) (pos b) && int_le (pos b) (pos a -ℤ pos n)
first_low a b n e f h = first_of (grind (arith, ints, nat_tests), grind (arith, ints), omega (arith, ints, nat_tests))

second_low : (a b n : ℕ) → 2 * a < n → n ≤ 2 * b → b < n → (a == b) ≡ int_le (pos a) (pos b -ℤ pos n) && int_le (pos b -ℤ pos n) (pos a)
second_low a b n e f h = first_of (grind (arith, ints, nat_tests), grind (arith, ints), omega (arith, ints, nat_tests))

same_signed : (p q : Bool) (a b n : ℕ) → p ≡ nat_le n (2 * a) → q ≡ nat_le n (2 * b) → a < n → b < n
    → (a == b) ≡ int_le (cond p (pos a -ℤ pos n) (pos a)) (cond q (pos b -ℤ pos n) (pos b)) && int_le (cond q (pos b -ℤ pos n) (pos b)) (cond p (pos a -ℤ pos n) (pos a))
same_signed true true a b n e f h k = both_low a b n
same_signed true false a b n e f h k = first_low a b n (from_true n (2 * a) e) (from_false n (2 * b) f) h
same_signed false true a b n e f h k = second_low a b n (from_false n (2 * a) e) (from_true n (2 * b) f) k
same_signed false false a b n e f h k = same_tests a b

pub equal_integers : (t : Bool) (w a b : ℕ) → a < 2 ^ w → b < 2 ^ w → (a == b) ≡ int_le (integer_from t w a) (integer_from t w b) && int_le (integer_from t w b) (integer_from t w a)
equal_integers true w a b h k = same_signed (top_bit w a) (top_bit w b) a b (2 ^ w) refl refl h k
equal_integers false w a b h k = same_tests a b

-- a decision said in other words
pub decides_so : (g h : Graph) (x u y v id : ℕ) (f k : ℕ → ℕ → Bool) → ((a b : ℕ) → a < 2 ^ u → b < 2 ^ v → f a b ≡ k a b) → Decides g h x u y v id f → Decides g h x u y v id k
decides_so g h x u y v id f k same d =
    record { of_sort = d.of_sort; value = λ p a b i j. subst (λ t. HasTruth h id p t) (same a b i.fits j.fits) (d.value p a b i j) }

pub differ_made : (g h k : Graph) (x y w a id : ℕ) → Compares g h x y w a (λ m n. m == n) → id < length k.nodes → tree k id ≡ pure_term.not (tree h a) → Compares g k x y w id (λ m n. not (m == n))
differ_made g h k x y w a id m l e =
    record {
      of_sort = formed k id (pure_term.not (tree h a)) truth l e (ap bits_sort m.of_sort.sort);
      value = λ p b c i j. record { value = ap (λ t. val t p) e ∙ ap (complement (term_width (tree h a))) (m.value p b c i j).value };
    }

pub decides_equal : (t : Bool) (g h : Graph) (x y u id : ℕ) → Compares g h x y u id (λ m n. m == n) → Decides g h x u y u id (λ m n. comparison_value pure.equal (integer_from t u m) (integer_from t u n))
decides_equal t g h x y u id m = decides_so g h x u y u id (λ m n. m == n) (λ m n. comparison_value pure.equal (integer_from t u m) (integer_from t u n)) (λ a b i j. equal_integers t u a b i j) (decides g h x y u id (λ m n. m == n) m)

-- one is below the other where they are not equal
apart : (i j : ℤ) → not (int_le i j && int_le j i) ≡ int_lt i j || int_lt j i
apart i j = first_of (grind (arith, ints), omega (arith, ints))

pub decides_unequal : (t : Bool) (g h : Graph) (x y u id : ℕ) → Compares g h x y u id (λ m n. not (m == n)) → Decides g h x u y u id (λ m n. comparison_value pure.not_equal (integer_from t u m) (integer_from t u n))
decides_unequal t g h x y u id m =
    decides_so g h x u y u id (λ m n. not (m == n)) (λ m n. comparison_value pure.not_equal (integer_from t u m) (integer_from t u n))
    (λ a b i j. ap not (equal_integers t u a b i j) ∙ apart (integer_from t u a) (integer_from t u b)) (decides g h x y u id (λ m n. not (m == n)) m)

module _ (s : Scope) (im : Images) (g h k : Graph) (gh : Grows g h) (hk : Grows h k) (known : HasImages s im g) where
  decided : (x y e : Expression) (u n w : ℕ) (q r t : Bool) (a b c id : ℕ) (f : ℕ → ℕ → Bool) → ((v : Valuation) → bit (f (value_of s v x u q) (value_of s v y n r)) ≡ value_of s v e w t)
      → IsLowered s im g x u q a → IsLowered s im g y n r b → Decides g h a u b n c f → Counts h k c id w bit → IsLowered s im k e w t id
  decided x y e u n w q r t a b c id f same l o d m =
      record {
        of_sort = m.of_sort;
        value = λ p v st. let st0 = stands_before s im g k p v (Grows-trans gh hk) known st in
            subst (λ z. HasNumber k id w p z) (same v)
            (m.value p (f (value_of s v x u q) (value_of s v y n r)) (d.value p (value_of s v x u q) (value_of s v y n r) (l.value p v st0) (o.value p v st0)));
      }

  pub comparison_lowered : (op : ComparisonOperator) (x y : Expression) (own w : ℕ) (q t : Bool) (a b c id : ℕ) → own ≡ max (width_of s x) (width_of s y) → q ≡ sign_of s x && sign_of s y
      → IsLowered s im g x own q a → IsLowered s im g y own q b → Decides g h a own b own c (λ m n. comparison_value op (integer_from q own m) (integer_from q own n)) → Counts h k c id w bit
      → IsLowered s im k (comparison op x y) w t id
  comparison_lowered op x y own w q t a b c id is_own is_q l o d m =
      decided x y (comparison op x y) own own w q q t a b c id (λ m n. comparison_value op (integer_from q own m) (integer_from q own n))
      (λ v. ap (λ z. bit (comparison_value op (integer_from q z (value_of s v x z q)) (integer_from q z (value_of s v y z q)))) is_own
      ∙ ap (λ z. bit (comparison_value op (integer_from z (max (width_of s x) (width_of s y)) (value_of s v x (max (width_of s x) (width_of s y)) z)) (integer_from z (max (width_of s x) (width_of s y)) (value_of s v y (max (width_of s x) (width_of s y)) z)))) is_q)
      l o d m

  pub logical_lowered : (op : LogicalOperator) (x y : Expression) (u n w : ℕ) (t : Bool) (a b c id : ℕ) → IsLoweredAlone s im g x u a → IsLoweredAlone s im g y n b
      → Decides g h a u b n c (λ m n. logical_value op (is_nonzero m) (is_nonzero n)) → Counts h k c id w bit → IsLowered s im k (logical op x y) w t id
  logical_lowered op x y u n w t a b c id l o d m =
      decided x y (logical op x y) u n w (sign_of s x) (sign_of s y) t a b c id (λ m n. logical_value op (is_nonzero m) (is_nonzero n))
      (λ v. ap (λ z. bit (logical_value op (is_nonzero (value_of s v x z (sign_of s x))) (is_nonzero (value_of s v y n (sign_of s y))))) l.width
      ∙ ap (λ z. bit (logical_value op (is_nonzero (value_of s v x (width_of s x) (sign_of s x))) (is_nonzero (value_of s v y z (sign_of s y))))) o.width)
      l.lowered o.lowered d m

  -- the operators of the code
  pub compared_lowered : (o : TestOperator) → is_logical o ≡ false → (x y : Expression) (own w : ℕ) (q t : Bool) (a b c id : ℕ) → own ≡ max (width_of s x) (width_of s y) → q ≡ sign_of s x && sign_of s y
      → IsLowered s im g x own q a → IsLowered s im g y own q b → Decides g h a own b own c (compared o q own) → Counts h k c id w bit → IsLowered s im k (tested o x y) w t id
  compared_lowered Less e x y own w q t a b c id i j l o d m = comparison_lowered pure.less x y own w q t a b c id i j l o d m
  compared_lowered LessOrEqual e x y own w q t a b c id i j l o d m = comparison_lowered pure.less_or_equal x y own w q t a b c id i j l o d m
  compared_lowered Greater e x y own w q t a b c id i j l o d m = comparison_lowered pure.greater x y own w q t a b c id i j l o d m
  compared_lowered GreaterOrEqual e x y own w q t a b c id i j l o d m = comparison_lowered pure.greater_or_equal x y own w q t a b c id i j l o d m
  compared_lowered Equal e x y own w q t a b c id i j l o d m = comparison_lowered pure.equal x y own w q t a b c id i j l o d m
  compared_lowered NotEqual e x y own w q t a b c id i j l o d m = comparison_lowered pure.not_equal x y own w q t a b c id i j l o d m
  compared_lowered Both e x y own w q t a b c id i j l o d m = absurd (false≢true (sym e))
  compared_lowered Either e x y own w q t a b c id i j l o d m = absurd (false≢true (sym e))

  pub connected_lowered : (o : TestOperator) → is_logical o ≡ true → (x y : Expression) (u n w : ℕ) (t : Bool) (a b c id : ℕ) → IsLoweredAlone s im g x u a → IsLoweredAlone s im g y n b
      → Decides g h a u b n c (connected o) → Counts h k c id w bit → IsLowered s im k (tested o x y) w t id
  connected_lowered Both e x y u n w t a b c id l o d m = logical_lowered pure.both x y u n w t a b c id l o d m
  connected_lowered Either e x y u n w t a b c id l o d m = logical_lowered pure.either x y u n w t a b c id l o d m
  connected_lowered Less e x y u n w t a b c id l o d m = absurd (false≢true e)
  connected_lowered LessOrEqual e x y u n w t a b c id l o d m = absurd (false≢true e)
  connected_lowered Greater e x y u n w t a b c id l o d m = absurd (false≢true e)
  connected_lowered GreaterOrEqual e x y u n w t a b c id l o d m = absurd (false≢true e)
  connected_lowered Equal e x y u n w t a b c id l o d m = absurd (false≢true e)
  connected_lowered NotEqual e x y u n w t a b c id l o d m = absurd (false≢true e)

  pub conditional_lowered : (x y z : Expression) (u w : ℕ) (t : Bool) (a b d c id : ℕ) → IsLoweredAlone s im g x u a → IsLowered s im g y w t b → IsLowered s im g z w t d → Tests g h a u c is_nonzero → Chooses h k c b d w id
      → IsLowered s im k (conditional x y z) w t id
  conditional_lowered x y z u w t a b d c id l m n e q =
      record {
        of_sort = q.of_sort;
        value = λ p v st. let st0 = stands_before s im g k p v (Grows-trans gh hk) known st in
            subst (λ r. HasNumber k id w p (cond (is_nonzero (value_of s v x r (sign_of s x))) (value_of s v y w t) (value_of s v z w t))) l.width
            (q.value p (is_nonzero (value_of s v x u (sign_of s x))) (value_of s v y w t) (value_of s v z w t) (e.value p (value_of s v x u (sign_of s x)) (l.lowered.value p v st0))
            (number_kept b w p (value_of s v y w t) gh m.of_sort.below (m.value p v st0)) (number_kept d w p (value_of s v z w t) gh n.of_sort.below (n.value p v st0)));
      }

-- ---- numbers

pub number_lowered : (s : Scope) (im : Images) (h k : Graph) (n : pure.Number) (own w x : ℕ) (t : Bool) (c id : ℕ) → own ≡ n.width → x ≡ n.value → ((p : Valuation) → HasNumber h c own p x) → Makes h k c own id w (widened t own w)
    → IsLowered s im k (number n) w t id
number_lowered s im h k n own w x t c id is_own is_x is_c m =
    record {
      of_sort = m.of_sort;
      value = λ p v st. subst (λ z. HasNumber k id w p z) (ap (λ z. widened t z w x) is_own ∙ ap (widened t n.width w) is_x) (m.value p x (is_c p));
    }

-- ---- parts

add_none : (n : ℕ) → n + 0 ≡ 0 + n
add_none n = omega arith

add_last : (x a b : ℕ) → x + (a + b) ≡ x + a + b
add_last x a b = omega arith

widths-after : (s : Scope) (es : Expressions) (e : Expression) → widths_of s (after es e) ≡ widths_of s es + width_of s e
widths-after s no_expressions e = add_none (width_of s e)
widths-after s (expression x es) e = ap (λ k. width_of s x + k) (widths-after s es e) ∙ add_last (width_of s x) (widths_of s es) (width_of s e)

spread : (x a b p q : ℕ) → x * (p * q) + (a * q + b) ≡ (x * p + a) * q + b
spread x a b p q = omega arith

one_part : (x q : ℕ) → x * 1 + 0 ≡ 0 * q + x
one_part x q = omega arith

joined-after : (s : Scope) (v : Valuation) (es : Expressions) (e : Expression) → joined_value s v (after es e) ≡ joined_value s v es * 2 ^ width_of s e + value_of s v e (width_of s e) (sign_of s e)
joined-after s v no_expressions e = one_part (value_of s v e (width_of s e) (sign_of s e)) (2 ^ width_of s e)
joined-after s v (expression y es) e =
    let x : ℕ = value_of s v y (width_of s y) (sign_of s y) in
    let z : ℕ = value_of s v e (width_of s e) (sign_of s e) in
    ap (λ k. x * 2 ^ k + joined_value s v (after es e)) (widths-after s es e)
    ∙ (ap (λ k. x * k + joined_value s v (after es e)) (pow-add 2 (widths_of s es) (width_of s e))
    ∙ (ap (λ k. x * (2 ^ widths_of s es * 2 ^ width_of s e) + k) (joined-after s v es e) ∙ spread x (joined_value s v es) z (2 ^ widths_of s es) (2 ^ width_of s e)))

alone_width : (w x : ℕ) → w ≡ x → w ≡ x + 0
alone_width w x h = omega (arith, h)

alone_value : (x : ℕ) → x ≡ x * 1 + 0
alone_value x = omega arith

pub first_part : (s : Scope) (im : Images) (g : Graph) (e : Expression) (w id : ℕ) → IsLoweredAlone s im g e w id → AreLowered s im g (expression e no_expressions) w id
first_part s im g e w id l =
    record {
      width = alone_width w (width_of s e) l.width;
      of_sort = l.lowered.of_sort;
      value = λ p v st. subst (λ z. HasNumber g id w p z) (ap (λ k. value_of s v e k (sign_of s e)) l.width ∙ alone_value (value_of s v e (width_of s e) (sign_of s e))) (l.lowered.value p v st);
    }

pub next_part : (s : Scope) (im : Images) (g h : Graph) (es : Expressions) (e : Expression) (u w a b id : ℕ) → Grows g h → HasImages s im g → AreLowered s im g es u a → IsLoweredAlone s im g e w b → Joins g h a u b w id (u + w) (word_concat w)
    → AreLowered s im h (after es e) (u + w) id
next_part s im g h es e u w a b id grows known m l j =
    record {
      width = ap (λ k. k + w) m.width ∙ (ap (λ k. widths_of s es + k) l.width ∙ sym (widths-after s es e));
      of_sort = j.of_sort;
      value = λ p v st. let st0 = stands_before s im g h p v grows known st in
          subst (λ z. HasNumber h id (u + w) p z)
          (ap (λ k. joined_value s v es * 2 ^ k + value_of s v e k (sign_of s e)) l.width ∙ sym (joined-after s v es e))
          (j.value p (joined_value s v es) (value_of s v e w (sign_of s e)) (m.value p v st0) (l.lowered.value p v st0));
    }

pub concatenation_lowered : (s : Scope) (im : Images) (g h : Graph) (es : Expressions) (u w : ℕ) (t : Bool) (a id : ℕ) → Grows g h → HasImages s im g → AreLowered s im g es u a → Makes g h a u id w (widened t u w)
    → IsLowered s im h (concatenation es) w t id
concatenation_lowered s im g h es u w t a id grows known l m =
    record {
      of_sort = m.of_sort;
      value = λ p v st. subst (λ k. HasNumber h id w p (widened t k w (joined_value s v es))) l.width (m.value p (joined_value s v es) (l.value p v (stands_before s im g h p v grows known st)));
    }

-- so many copies, and then a longer context
pub replication_lowered : (s : Scope) (im : Images) (g h k : Graph) (c : Expression) (es : Expressions) (n u w : ℕ) (t : Bool) (a b id : ℕ) → Grows g h → Grows h k → HasImages s im g → n ≡ natural_of (integer_of s no_values c) → AreLowered s im g es u a
    → Makes g h a u b (n * u) (side_by_side n u) → Makes h k b (n * u) id w (widened t (n * u) w) → IsLowered s im k (replication c es) w t id
replication_lowered s im g h k c es n u w t a b id gh hk known is_n l i m =
    record {
      of_sort = m.of_sort;
      value = λ p v st.
          let st0 = stands_before s im g k p v (Grows-trans gh hk) known st in
          subst (λ z. HasNumber k id w p z)
          (ap (λ z. widened t (z * u) w (side_by_side z u (joined_value s v es))) is_n
          ∙ ap (λ z. widened t (natural_of (integer_of s no_values c) * z) w (side_by_side (natural_of (integer_of s no_values c)) z (joined_value s v es))) l.width)
          (m.value p (side_by_side n u (joined_value s v es)) (i.value p (joined_value s v es) (l.value p v st0)));
    }

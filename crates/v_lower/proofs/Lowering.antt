-- What is made of lowered operands is what the whole is lowered to.
use Rattle.std.proofs.Common.{◌≡◌, ℕ, Bool, true, false, refl, sym, ap, ◌∙◌, subst}
use Rattle.wb_values.specs.Value.{word, Valuation}
use Rattle.wb_values.specs.Number.{word_neg, word_not, word_xor, word_lshr, word_ashr}
use Rattle.model_meaning.specs.Term.{Term, val}
use Rattle.verilog_trees.specs.Syntax as pure
use Rattle.verilog_trees.specs.Syntax.{Expression, Expressions, UnaryOperator, BinaryOperator, ShiftOperator, ComparisonOperator, LogicalOperator, unary, binary, shift, comparison, logical, conditional, reduction, as_signed, as_unsigned, ReductionOperator}
use Rattle.verilog_meaning.specs.Expression.{Scope, joined_value, sign_of, value_of, widened, binary_value, shift_value}
use Rattle.wb_terms.specs.Graph.{Graph}
use Rattle.v_operators.specs.Meaning.{Grows, HasNumber, Makes, Joins}
use Rattle.v_operators.proofs.Growing.{IsOfSort-kept, number_kept, tree_kept}
use Rattle.v_lower.specs.Lowered.{Images, HasImages, StandsFor, IsLowered, IsLoweredAlone, AreLowered}

-- ---- stores that grow

pub images_kept : (s : Scope) (im : Images) (g h : Graph) → Grows g h → HasImages s im g → HasImages s im h
images_kept s im g h a k =
    record {
      some = k.some;
      image = λ n id i. let o = k.image n id i in record { sort = o.sort; of_name = o.of_name; of_sort = IsOfSort-kept id o.sort a o.of_sort };
    }

pub stands_before : (s : Scope) (im : Images) (g h : Graph) (p v : Valuation) → Grows g h → HasImages s im g → StandsFor s im h p v → StandsFor s im g p v
stands_before s im g h p v a k st =
    record { fits = st.fits; same = λ n id i. ap (λ (t : Term). val t p) (sym (tree_kept id a (k.image n id i).of_sort.below)) ∙ st.same n id i }

pub lowered_kept : (s : Scope) (im : Images) (g h : Graph) (e : Expression) (w : ℕ) (t : Bool) (id : ℕ) → Grows g h → HasImages s im g → IsLowered s im g e w t id → IsLowered s im h e w t id
lowered_kept s im g h e w t id a k l =
    record {
      of_sort = IsOfSort-kept id (word w) a l.of_sort;
      value = λ p v st. number_kept id w p (value_of s v e w t) a l.of_sort.below (l.value p v (stands_before s im g h p v a k st));
    }

-- parts that have a term in a store have it in one that has grown
pub parts_kept : (s : Scope) (im : Images) (g h : Graph) (es : Expressions) (w : ℕ) (id : ℕ) → Grows g h → HasImages s im g → AreLowered s im g es w id → AreLowered s im h es w id
parts_kept s im g h es w id a k l =
    record {
      width = l.width;
      of_sort = IsOfSort-kept id (word w) a l.of_sort;
      value = λ p v st. number_kept id w p (joined_value s v es) a l.of_sort.below (l.value p v (stands_before s im g h p v a k st));
    }

-- ---- operators

module _ (s : Scope) (im : Images) (g h : Graph) (grows : Grows g h) (known : HasImages s im g) where
  -- a term made of one number
  made : (x e : Expression) (u w : ℕ) (q t : Bool) (a id : ℕ) (f : ℕ → ℕ) → ((v : Valuation) → f (value_of s v x u q) ≡ value_of s v e w t) → IsLowered s im g x u q a → Makes g h a u id w f → IsLowered s im h e w t id
  made x e u w q t a id f same l m =
      record {
        of_sort = m.of_sort;
        value = λ p v st. subst (λ n. HasNumber h id w p n) (same v) (m.value p (value_of s v x u q) (l.value p v (stands_before s im g h p v grows known st)));
      }

  -- of two
  joined : (x y e : Expression) (u k w : ℕ) (q r t : Bool) (a b id : ℕ) (f : ℕ → ℕ → ℕ) → ((v : Valuation) → f (value_of s v x u q) (value_of s v y k r) ≡ value_of s v e w t)
      → IsLowered s im g x u q a → IsLowered s im g y k r b → Joins g h a u b k id w f → IsLowered s im h e w t id
  joined x y e u k w q r t a b id f same l o j =
      record {
        of_sort = j.of_sort;
        value = λ p v st. let st0 = stands_before s im g h p v grows known st in
            subst (λ n. HasNumber h id w p n) (same v) (j.value p (value_of s v x u q) (value_of s v y k r) (l.value p v st0) (o.value p v st0));
      }

  pub plus_lowered : (x : Expression) (w : ℕ) (t : Bool) (a : ℕ) → IsLowered s im g x w t a → IsLowered s im g (unary pure.plus x) w t a
  plus_lowered x w t a l = record { of_sort = l.of_sort; value = λ p v st. l.value p v st }

  pub minus_lowered : (x : Expression) (w : ℕ) (t : Bool) (a id : ℕ) → IsLowered s im g x w t a → Makes g h a w id w (word_neg w) → IsLowered s im h (unary pure.minus x) w t id
  minus_lowered x w t a id l m = made x (unary pure.minus x) w w t t a id (word_neg w) (λ v. refl) l m

  pub complement_lowered : (x : Expression) (w : ℕ) (t : Bool) (a id : ℕ) → IsLowered s im g x w t a → Makes g h a w id w (word_not w) → IsLowered s im h (unary pure.complement x) w t id
  complement_lowered x w t a id l m = made x (unary pure.complement x) w w t t a id (word_not w) (λ v. refl) l m

  pub signed_lowered : (x : Expression) (u w : ℕ) (t : Bool) (a id : ℕ) → IsLoweredAlone s im g x u a → Makes g h a u id w (widened t u w) → IsLowered s im h (as_signed x) w t id
  signed_lowered x u w t a id l m =
      made x (as_signed x) u w (sign_of s x) t a id (widened t u w) (λ v. ap (λ k. widened t k w (value_of s v x k (sign_of s x))) l.width) l.lowered m

  pub unsigned_lowered : (x : Expression) (u w : ℕ) (t : Bool) (a id : ℕ) → IsLoweredAlone s im g x u a → Makes g h a u id w (widened t u w) → IsLowered s im h (as_unsigned x) w t id
  unsigned_lowered x u w t a id l m =
      made x (as_unsigned x) u w (sign_of s x) t a id (widened t u w) (λ v. ap (λ k. widened t k w (value_of s v x k (sign_of s x))) l.width) l.lowered m

  pub binary_lowered : (op : BinaryOperator) (x y : Expression) (w : ℕ) (t : Bool) (a b id : ℕ) (f : ℕ → ℕ → ℕ) → ((m n : ℕ) → f m n ≡ binary_value op w t m n) → IsLowered s im g x w t a → IsLowered s im g y w t b
      → Joins g h a w b w id w f → IsLowered s im h (binary op x y) w t id
  binary_lowered op x y w t a b id f same l o j = joined x y (binary op x y) w w w t t t a b id f (λ v. same (value_of s v x w t) (value_of s v y w t)) l o j

  pub shift_lowered : (op : ShiftOperator) (x y : Expression) (w u : ℕ) (t : Bool) (a b id : ℕ) (f : ℕ → ℕ → ℕ) → ((m n : ℕ) → f m n ≡ shift_value op w t m n) → IsLowered s im g x w t a → IsLoweredAlone s im g y u b
      → Joins g h a w b u id w f → IsLowered s im h (shift op x y) w t id
  shift_lowered op x y w u t a b id f same l o j =
      joined x y (shift op x y) w u w t (sign_of s y) t a b id f
      (λ v. same (value_of s v x w t) (value_of s v y u (sign_of s y)) ∙ ap (λ k. shift_value op w t (value_of s v x w t) (value_of s v y k (sign_of s y))) o.width) l o.lowered j

-- the bits in which two numbers do not differ
pub xnor_made : (g h k : Graph) (x y w a id : ℕ) → Joins g h x w y w a w word_xor → Makes h k a w id w (word_not w) → Joins g k x w y w id w (λ m n. word_not w (word_xor m n))
xnor_made g h k x y w a id j m = record { of_sort = m.of_sort; value = λ p b c i l. m.value p (word_xor b c) (j.value p b c i l) }

pub signed_shift : (g h : Graph) (x w y u id : ℕ) (t : Bool) → t ≡ true → Joins g h x w y u id w (word_ashr w) → Joins g h x w y u id w (shift_value pure.arithmetic_right w t)
signed_shift g h x w y u id t e j = subst (λ t. Joins g h x w y u id w (shift_value pure.arithmetic_right w t)) (sym e) j

pub unsigned_shift : (g h : Graph) (x w y u id : ℕ) (t : Bool) → t ≡ false → Joins g h x w y u id w (word_lshr w) → Joins g h x w y u id w (shift_value pure.arithmetic_right w t)
unsigned_shift g h x w y u id t e j = subst (λ t. Joins g h x w y u id w (shift_value pure.arithmetic_right w t)) (sym e) j

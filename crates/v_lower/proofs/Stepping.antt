-- Steps of the walk: what is put for a part is what it is lowered to.
use Rattle.std.proofs.Common.{◌≡◌, ◌∙◌, ◌≤◌, ◌<◌, ◌^◌, ℕ, ◌+◌, ◌-◌, max, refl, sym, ap, subst, Bool, true, false, cond, ◌&&◌, ◌||◌, List, [], ◌∷◌}
use Rattle.std.proofs.lemmas.Bool.{false≢true}
use Rattle.wb_values.specs.Value.{Name, word, Valuation}
use Rattle.verilog_trees.specs.Syntax as pure
use Rattle.verilog_trees.specs.Syntax.{Expression, Selects, name}
use Rattle.verilog_meaning.specs.Expression.{Scope, width_of, sign_of, value_of, selects_width, selected, widened}
use Rattle.wb_terms.specs.Graph.{Graph}
use Rattle.v_syntax.specs.declared.tree.PrefixOperator.{PrefixOperator}
use Rattle.v_syntax.specs.declared.tree.PrefixOperator.TheVariants.{Plus, Minus, Complement, IsZero, AllOnes, NotAllOnes, AnyOne, NoOne, OddOnes, EvenOnes}
use Rattle.v_syntax.specs.declared.tree.TestOperator.{TestOperator}
use Rattle.v_syntax.specs.declared.tree.TestOperator.TheVariants.{Less, LessOrEqual, Greater, GreaterOrEqual, Equal, NotEqual, Both, Either}
use Rattle.v_syntax.specs.Tree.{tested, prefixed, all_prefixed}
use Rattle.v_value.specs.Links.{is_reduction}
use Rattle.v_operators.specs.Meaning.{Grows, IsOfSort, HasNumber, Makes}
use Rattle.v_operators.proofs.Growing.{Grows-trans, IsOfSort-kept, number_kept}
use Rattle.v_lower.specs.declared.steps.Contexts.{Contexts}
use Rattle.v_lower.specs.Kinds.{keeps_width, is_test_of_all, is_logical}
use Rattle.v_lower.specs.Lowered.{Images, HasImages, IsLowered, IsLoweredAlone}
use Rattle.v_lower.specs.Reading.{IsRead}
use Rattle.v_lower.specs.Walking.{left_width, left_sign, right_width, right_sign, begins_with_reduction, IsBit}
use Rattle.v_lower.specs.Contexts.{AreContexts}
use Rattle.v_lower.proofs.Lowering.{images_kept, stands_before}

-- ---- names

pub read_lowered : (s : Scope) (im : Images) (g h : Graph) (n : Name) (x : Selects) (u w a id : ℕ) (t : Bool) → Grows g h → HasImages s im g → IsRead s im g n x u a → Makes g h a u id w (widened t u w) → IsLowered s im h (name n x) w t id
read_lowered s im g h n x u w a id t grows known r m =
    record {
      of_sort = m.of_sort;
      value = λ p v st. subst (λ k. HasNumber h id w p (widened t k w (selected s v (s n) (v n) x))) r.width (m.value p (selected s v (s n) (v n) x) (r.value p v (stands_before s im g h p v grows known st)));
    }

-- ---- tests

-- a test has one bit, the same in each context
tested-width : (s : Scope) (o : TestOperator) (x y : Expression) → width_of s (tested o x y) ≡ 1
tested-width s Less x y = refl
tested-width s LessOrEqual x y = refl
tested-width s Greater x y = refl
tested-width s GreaterOrEqual x y = refl
tested-width s Equal x y = refl
tested-width s NotEqual x y = refl
tested-width s Both x y = refl
tested-width s Either x y = refl

tested-sign : (s : Scope) (o : TestOperator) (x y : Expression) → sign_of s (tested o x y) ≡ false
tested-sign s Less x y = refl
tested-sign s LessOrEqual x y = refl
tested-sign s Greater x y = refl
tested-sign s GreaterOrEqual x y = refl
tested-sign s Equal x y = refl
tested-sign s NotEqual x y = refl
tested-sign s Both x y = refl
tested-sign s Either x y = refl

tested-value : (s : Scope) (v : Valuation) (o : TestOperator) (x y : Expression) (w u : ℕ) (t q : Bool) → value_of s v (tested o x y) w t ≡ value_of s v (tested o x y) u q
tested-value s v Less x y w u t q = refl
tested-value s v LessOrEqual x y w u t q = refl
tested-value s v Greater x y w u t q = refl
tested-value s v GreaterOrEqual x y w u t q = refl
tested-value s v Equal x y w u t q = refl
tested-value s v NotEqual x y w u t q = refl
tested-value s v Both x y w u t q = refl
tested-value s v Either x y w u t q = refl

pub tested_bit : (s : Scope) (im : Images) (g : Graph) (o : TestOperator) (x y : Expression) (id : ℕ) → IsLowered s im g (tested o x y) 1 false id → IsBit s im g (tested o x y) id
tested_bit s im g o x y id l =
    record {
      width = tested-width s o x y;
      sign = tested-sign s o x y;
      of_sort = l.of_sort;
      value = λ w t p v st. subst (λ k. HasNumber g id 1 p k) (tested-value s v o x y 1 w false t) (l.value p v st);
    }

pub bit_lowered : (s : Scope) (im : Images) (g h : Graph) (e : Expression) (w a id : ℕ) (t : Bool) → Grows g h → HasImages s im g → IsBit s im g e a → Makes g h a 1 id w (widened false 1 w) → IsLowered s im h e w t id
bit_lowered s im g h e w a id t grows known b m =
    record { of_sort = m.of_sort; value = λ p v st. m.value p (value_of s v e w t) (b.value w t p v (stands_before s im g h p v grows known st)) }

pub bit_kept : (s : Scope) (im : Images) (g h : Graph) (e : Expression) (id : ℕ) → Grows g h → HasImages s im g → IsBit s im g e id → IsBit s im h e id
bit_kept s im g h e id a k b =
    record {
      width = b.width;
      sign = b.sign;
      of_sort = IsOfSort-kept id (word 1) a b.of_sort;
      value = λ w t p v st. number_kept id 1 p (value_of s v e w t) a b.of_sort.below (b.value w t p v (stands_before s im g h p v a k st));
    }

-- the two operands of && and ||, by themselves, and of a comparison, in one context
pub logical_left : (s : Scope) (o : TestOperator) (x y : Expression) (c : Contexts) → is_logical o ≡ true → AreContexts s o x y c → (c.left.width ≡ width_of s x) × (c.left.signed ≡ sign_of s x)
logical_left s o x y c e k =
    (k.left_width ∙ ap (λ b. cond b (width_of s x) (max (width_of s x) (width_of s y))) e, k.left_sign ∙ ap (λ b. cond b (sign_of s x) (sign_of s x && sign_of s y)) e)

pub logical_right : (s : Scope) (o : TestOperator) (x y : Expression) (c : Contexts) → is_logical o ≡ true → AreContexts s o x y c → (c.right.width ≡ width_of s y) × (c.right.signed ≡ sign_of s y)
logical_right s o x y c e k =
    (k.right_width ∙ ap (λ b. cond b (width_of s y) (max (width_of s x) (width_of s y))) e, k.right_sign ∙ ap (λ b. cond b (sign_of s y) (sign_of s x && sign_of s y)) e)

pub compared_left : (s : Scope) (o : TestOperator) (x y : Expression) (c : Contexts) → is_logical o ≡ false → AreContexts s o x y c → (c.left.width ≡ max (width_of s x) (width_of s y)) × (c.left.signed ≡ sign_of s x && sign_of s y)
compared_left s o x y c e k =
    (k.left_width ∙ ap (λ b. cond b (width_of s x) (max (width_of s x) (width_of s y))) e, k.left_sign ∙ ap (λ b. cond b (sign_of s x) (sign_of s x && sign_of s y)) e)

pub alone_by : (s : Scope) (im : Images) (g : Graph) (x : Expression) (w id : ℕ) (t : Bool) → w ≡ width_of s x → t ≡ sign_of s x → IsLowered s im g x w t id → IsLoweredAlone s im g x w id
alone_by s im g x w id t is_w is_t l = record { width = is_w; lowered = subst (λ q. IsLowered s im g x w q id) is_t l }

-- ---- operators before an operand

pub reduction_kind : (o : PrefixOperator) → is_reduction o ≡ true → is_test_of_all o ≡ true
reduction_kind Plus e = absurd (false≢true e)
reduction_kind Minus e = absurd (false≢true e)
reduction_kind Complement e = absurd (false≢true e)
reduction_kind IsZero e = refl
reduction_kind AllOnes e = refl
reduction_kind NotAllOnes e = refl
reduction_kind AnyOne e = refl
reduction_kind NoOne e = refl
reduction_kind OddOnes e = refl
reduction_kind EvenOnes e = refl

pub keeping_kind : (o : PrefixOperator) → is_reduction o ≡ false → keeps_width o ≡ true
keeping_kind Plus e = refl
keeping_kind Minus e = refl
keeping_kind Complement e = refl
keeping_kind IsZero e = absurd (false≢true (sym e))
keeping_kind AllOnes e = absurd (false≢true (sym e))
keeping_kind NotAllOnes e = absurd (false≢true (sym e))
keeping_kind AnyOne e = absurd (false≢true (sym e))
keeping_kind NoOne e = absurd (false≢true (sym e))
keeping_kind OddOnes e = absurd (false≢true (sym e))
keeping_kind EvenOnes e = absurd (false≢true (sym e))

-- an operator that makes one bit
reduced-width : (s : Scope) (o : PrefixOperator) (x : Expression) → is_reduction o ≡ true → width_of s (prefixed o x) ≡ 1
reduced-width s Plus x e = absurd (false≢true e)
reduced-width s Minus x e = absurd (false≢true e)
reduced-width s Complement x e = absurd (false≢true e)
reduced-width s IsZero x e = refl
reduced-width s AllOnes x e = refl
reduced-width s NotAllOnes x e = refl
reduced-width s AnyOne x e = refl
reduced-width s NoOne x e = refl
reduced-width s OddOnes x e = refl
reduced-width s EvenOnes x e = refl

reduced-sign : (s : Scope) (o : PrefixOperator) (x : Expression) → is_reduction o ≡ true → sign_of s (prefixed o x) ≡ false
reduced-sign s Plus x e = absurd (false≢true e)
reduced-sign s Minus x e = absurd (false≢true e)
reduced-sign s Complement x e = absurd (false≢true e)
reduced-sign s IsZero x e = refl
reduced-sign s AllOnes x e = refl
reduced-sign s NotAllOnes x e = refl
reduced-sign s AnyOne x e = refl
reduced-sign s NoOne x e = refl
reduced-sign s OddOnes x e = refl
reduced-sign s EvenOnes x e = refl

reduced-value : (s : Scope) (v : Valuation) (o : PrefixOperator) (x : Expression) (w u : ℕ) (t q : Bool) → is_reduction o ≡ true → value_of s v (prefixed o x) w t ≡ value_of s v (prefixed o x) u q
reduced-value s v Plus x w u t q e = absurd (false≢true e)
reduced-value s v Minus x w u t q e = absurd (false≢true e)
reduced-value s v Complement x w u t q e = absurd (false≢true e)
reduced-value s v IsZero x w u t q e = refl
reduced-value s v AllOnes x w u t q e = refl
reduced-value s v NotAllOnes x w u t q e = refl
reduced-value s v AnyOne x w u t q e = refl
reduced-value s v NoOne x w u t q e = refl
reduced-value s v OddOnes x w u t q e = refl
reduced-value s v EvenOnes x w u t q e = refl

pub alone_reduced : (s : Scope) (im : Images) (g : Graph) (o : PrefixOperator) (x : Expression) (id : ℕ) → is_reduction o ≡ true → IsLowered s im g (prefixed o x) 1 (sign_of s (prefixed o x)) id → IsLoweredAlone s im g (prefixed o x) 1 id
alone_reduced s im g o x id e l = record { width = sym (reduced-width s o x e); lowered = l }

-- operators that begin with one that makes one bit
pub run_bit : (s : Scope) (im : Images) (g : Graph) (os : List PrefixOperator) (x : Expression) (w id : ℕ) → begins_with_reduction os ≡ true → w ≡ 1 → IsLoweredAlone s im g (all_prefixed os x) w id → IsBit s im g (all_prefixed os x) id
run_bit s im g [] x w id e is_w l = absurd (false≢true e)
run_bit s im g (o ∷ os) x w id e is_w l =
    record {
      width = reduced-width s o (all_prefixed os x) e;
      sign = reduced-sign s o (all_prefixed os x) e;
      of_sort = subst (λ k. IsOfSort g id (word k)) is_w l.lowered.of_sort;
      value = λ u t p v st.
          subst (λ z. HasNumber g id 1 p z) (reduced-value s v o (all_prefixed os x) w u (sign_of s (prefixed o (all_prefixed os x))) t e)
          (subst (λ k. HasNumber g id k p (value_of s v (prefixed o (all_prefixed os x)) w (sign_of s (prefixed o (all_prefixed os x))))) is_w (l.lowered.value p v st));
    }

-- one that keeps the width
kept-width : (s : Scope) (o : PrefixOperator) (x : Expression) → is_reduction o ≡ false → width_of s (prefixed o x) ≡ width_of s x
kept-width s Plus x e = refl
kept-width s Minus x e = refl
kept-width s Complement x e = refl
kept-width s IsZero x e = absurd (false≢true (sym e))
kept-width s AllOnes x e = absurd (false≢true (sym e))
kept-width s NotAllOnes x e = absurd (false≢true (sym e))
kept-width s AnyOne x e = absurd (false≢true (sym e))
kept-width s NoOne x e = absurd (false≢true (sym e))
kept-width s OddOnes x e = absurd (false≢true (sym e))
kept-width s EvenOnes x e = absurd (false≢true (sym e))

kept-sign : (s : Scope) (o : PrefixOperator) (x : Expression) → is_reduction o ≡ false → sign_of s (prefixed o x) ≡ sign_of s x
kept-sign s Plus x e = refl
kept-sign s Minus x e = refl
kept-sign s Complement x e = refl
kept-sign s IsZero x e = absurd (false≢true (sym e))
kept-sign s AllOnes x e = absurd (false≢true (sym e))
kept-sign s NotAllOnes x e = absurd (false≢true (sym e))
kept-sign s AnyOne x e = absurd (false≢true (sym e))
kept-sign s NoOne x e = absurd (false≢true (sym e))
kept-sign s OddOnes x e = absurd (false≢true (sym e))
kept-sign s EvenOnes x e = absurd (false≢true (sym e))

pub alone_kept : (s : Scope) (im : Images) (g h : Graph) (o : PrefixOperator) (x : Expression) (w a id : ℕ) → is_reduction o ≡ false → IsLoweredAlone s im g x w a → (IsLowered s im g x w (sign_of s x) a → IsLowered s im h (prefixed o x) w (sign_of s x) id) → IsLoweredAlone s im h (prefixed o x) w id
alone_kept s im g h o x w a id e l f =
    record {
      width = l.width ∙ sym (kept-width s o x e);
      lowered = subst (λ t. IsLowered s im h (prefixed o x) w t id) (sym (kept-sign s o x e)) (f l.lowered);
    }

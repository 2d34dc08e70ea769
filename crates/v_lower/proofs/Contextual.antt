-- The contexts of the operands of tests.
use Rattle.std.proofs.Common.{◌≡◌, ◌∙◌, ◌≤◌, ◌<◌, ℕ, ◌+◌, ◌-◌, ◌*◌, max, refl, sym, ap, subst, Bool, true, false, cond, ◌&&◌, ◌||◌, List, [], ◌∷◌, length, get_or, drop, arith, ℤ}
use Rattle.std.proofs.Math.Nat.{mul-le-mul_left}
use Rattle.std.proofs.lemmas.Bool.{false≢true}
use Rattle.std.specs.declared.boxed.Box.{Box}
use Rattle.std.specs.declared.vec.Vec.{Vec}
use Rattle.std.specs.declared.alloc.Global.{Global}
use Rattle.verilog_trees.specs.Syntax as pure
use Rattle.wb_values.specs.Value.{Name}
use Rattle.verilog_meaning.specs.Expression.{Scope, no_values, natural_of, integer_of, width_of, sign_of, selects_width}
use Rattle.wb_terms.specs.Graph.{Graph}
use Rattle.v_syntax.specs.declared.tree.BinaryOperator.{BinaryOperator}
use Rattle.v_syntax.specs.declared.tree.BinaryOperator.TheVariants.{Power, Multiply, Divide, Modulo, Add, Subtract, ShiftLeft, ShiftRight, ArithmeticShiftRight, And, Xor, Xnor, Or}
use Rattle.v_syntax.specs.declared.tree.BinaryLink.{BinaryLink}
use Rattle.v_syntax.specs.declared.tree.TestOperator.{TestOperator}
use Rattle.v_syntax.specs.declared.tree.TestLink.{TestLink}
use Rattle.v_syntax.specs.declared.tree.Expression.{Expression, Replication}
use Rattle.v_syntax.specs.Tree.{tree_of, tested, expressions_of}
use Rattle.v_syntax.specs.Chain.{test_linked}
use Rattle.v_value.specs.Evaluation.{width_at, sign_at, count_at, parts_width, IsLinkWithin}
use Rattle.v_value.specs.Links.{leaves_to_left}
use Rattle.v_value.specs.Narrow.{IsNarrow}
use Rattle.v_value.proofs.Arms as arms
use Rattle.v_value.proofs.Values.{widths-parts}
use Rattle.v_lower.specs.declared.steps.Contexts.{Contexts}
use Rattle.v_operators.specs.Meaning.{Grows}
use Rattle.v_lower.specs.Kinds.{is_logical, is_shift, is_plain}
use Rattle.v_lower.specs.Lowered.{Images, HasImages, IsLowered, IsLoweredAlone, AreLowered}
use Rattle.v_lower.specs.Walking.{left_width, left_sign, right_width, right_sign, has_term, IsBit}
use Rattle.v_lower.specs.Contexts.{AreContexts}
use Rattle.v_lower.proofs.Lowering.{lowered_kept}

left-wider : (b : Bool) (v w : ℕ) → v ≤ cond b v (max v w)
left-wider true v w = omega arith
left-wider false v w = omega arith

right-wider : (b : Bool) (v w : ℕ) → w ≤ cond b w (max v w)
right-wider true v w = omega arith
right-wider false v w = omega arith

left-most : (b : Bool) (v w : ℕ) → v ≤ 128 → w ≤ 128 → cond b v (max v w) ≤ 128
left-most true v w h k = h
left-most false v w h k = omega (arith, h, k)

right-most : (b : Bool) (v w : ℕ) → v ≤ 128 → w ≤ 128 → cond b w (max v w) ≤ 128
right-most true v w h k = k
right-most false v w h k = omega (arith, h, k)

-- c is the context, v and w the widths of the operands by themselves
module _ (o : TestOperator) (c v w : ℕ) where
  pub left-within : c ≡ left_width o v w → v ≤ c
  left-within e = subst (λ k. v ≤ k) (sym e) (left-wider (is_logical o) v w)

  pub right-within : c ≡ right_width o v w → w ≤ c
  right-within e = subst (λ k. w ≤ k) (sym e) (right-wider (is_logical o) v w)

  pub left-fits : c ≡ left_width o v w → v ≤ 128 → w ≤ 128 → c ≤ 128
  left-fits e h k = subst (λ z. z ≤ 128) (sym e) (left-most (is_logical o) v w h k)

  pub right-fits : c ≡ right_width o v w → v ≤ 128 → w ≤ 128 → c ≤ 128
  right-fits e h k = subst (λ z. z ≤ 128) (sym e) (right-most (is_logical o) v w h k)

-- x and y are the operands, of widths v and w and signs t and u
pub contexts_are : (s : Scope) (o : TestOperator) (x y : pure.Expression) (c : Contexts) (v w : ℕ) (t u : Bool) → v ≡ width_at s x → w ≡ width_at s y → t ≡ sign_at s x → u ≡ sign_at s y
    → c.left.width ≡ left_width o v w → c.left.signed ≡ left_sign o t u → c.right.width ≡ right_width o v w → c.right.signed ≡ right_sign o t u → AreContexts s o x y c
unfolding width_at sign_at
contexts_are s o x y c v w t u is_v is_w is_t is_u a b d e =
    record {
      left_width = a ∙ (ap (λ k. left_width o k w) is_v ∙ ap (left_width o (width_of s x)) is_w);
      left_sign = b ∙ (ap (λ k. left_sign o k u) is_t ∙ ap (left_sign o (sign_of s x)) is_u);
      right_width = d ∙ (ap (λ k. right_width o k w) is_v ∙ ap (right_width o (width_of s x)) is_w);
      right_sign = e ∙ (ap (λ k. right_sign o k u) is_t ∙ ap (right_sign o (sign_of s x)) is_u);
    }

-- a test of one bit
pub bit_contexts_are : (s : Scope) (im : Images) (g : Graph) (o : TestOperator) (x y : pure.Expression) (id : ℕ) (c : Contexts) (v w : ℕ) (t u : Bool) → IsBit s im g x id → v ≡ 1 → w ≡ width_at s y → t ≡ false → u ≡ sign_at s y
    → c.left.width ≡ left_width o v w → c.left.signed ≡ left_sign o t u → c.right.width ≡ right_width o v w → c.right.signed ≡ right_sign o t u → AreContexts s o x y c
unfolding width_at sign_at
bit_contexts_are s im g o x y id c v w t u bit is_v is_w is_t is_u a b d e =
    contexts_are s o x y c v w t u (is_v ∙ sym bit.width) is_w (is_t ∙ sym bit.sign) is_u a b d e

-- a chain of tests by its first
pub first_linked : (ls : List TestLink) (l : TestLink) (x : pure.Expression) → 0 < length ls → l ≡ get_or ls 0 l → test_linked ls x ≡ test_linked (drop 1 ls) (tested l.operator x (tree_of l.operand))
first_linked [] l x h e = absurd (omega (arith, h))
first_linked (m ∷ ls) l x h e = let k : drop 1 (m ∷ ls) ≡ ls = refl in ap (λ z. test_linked ls (tested z.operator x (tree_of z.operand))) (sym e)

-- an expression by itself, in the context that it was found to have
pub alone_at : (s : Scope) (im : Images) (g : Graph) (e : pure.Expression) (w id : ℕ) (t : Bool) → w ≡ width_at s e → t ≡ sign_at s e → IsLowered s im g e w t id → IsLoweredAlone s im g e w id
unfolding width_at sign_at
alone_at s im g e w id t is_w is_t l = record { width = is_w; lowered = subst (λ q. IsLowered s im g e w q id) is_t l }

pub alone_width : (s : Scope) (im : Images) (g : Graph) (e : pure.Expression) (w id : ℕ) → IsLoweredAlone s im g e w id → w ≡ width_at s e
unfolding width_at
alone_width s im g e w id l = l.width

-- one is no wider than the context of its own width
pub own-within : (w v : ℕ) → w ≡ v → v ≤ w
own-within w v e = omega (arith, e)

-- what is read of a name is no wider than the context
pub read-within : (s : Scope) (n : Name) (x : pure.Selects) (u w : ℕ) → u ≡ selects_width s (s n) x → width_at s (pure.name n x) ≤ w → u ≤ w
unfolding width_at
read-within s n x u w e h = subst (λ k. k ≤ w) (sym e) h

-- and so are parts side by side
pub parts-within : (s : Scope) (im : Images) (g : Graph) (es : List Expression) (u id w : ℕ) → AreLowered s im g (expressions_of es) u id → parts_width s es ≤ w → u ≤ w
parts-within s im g es u id w m h = subst (λ k. k ≤ w) (sym (m.width ∙ widths-parts s es)) h

pub parts-count : (s : Scope) (im : Images) (g : Graph) (es : List Expression) (u id : ℕ) → AreLowered s im g (expressions_of es) u id → u ≡ parts_width s es
parts-count s im g es u id m = m.width ∙ widths-parts s es

-- counts of copies
pub count-is : (s : Scope) (x : pure.Expression) (m : ℕ) → m ≡ count_at s x → m ≡ natural_of (integer_of s no_values x)
unfolding count_at
count-is s x m e = e

few : (a b : ℕ) → a * b ≤ 128 → 1 ≤ b → a ≤ 128
few a b h k = let l : a * 1 ≤ a * b = mul-le-mul_left a k in omega (arith, h, l)

pub few-copies : (s : Scope) (e : Expression) (w : ℕ) (n : IsNarrow s (tree_of e)) (h : width_at s (tree_of e) ≤ w) (b : Box Expression Global) (a : Vec Expression Global) → e ≡ Replication b a → (x : Expression) → x ≡ b.value
    → (es : List Expression) → es ≡ a.items → count_at s (tree_of x) ≤ 128
few-copies s e w n h b a i x j es k =
    few (count_at s (tree_of x)) (parts_width s es) (arms.copies-most s no_values e w true 0 n h b a i x j (count_at s (tree_of x)) refl es k (parts_width s es) refl) (arms.repeated-some s no_values e w true 0 n h b a i es k)

-- ---- small facts that the calls of the walk ask for

pub sign-is : (s : Scope) (e : pure.Expression) (t : Bool) → t ≡ sign_at s e → t ≡ sign_of s e
unfolding sign_at
sign-is s e t h = h

pub few_up : (q : Bool) (b n : ℕ) → b ≡ cond q 0 (n - 1) → n ≤ 128 → b ≤ 128
few_up true b n e h = omega (arith, e)
few_up false b n e h = omega (arith, e, h)

pub few_down : (q : Bool) (b n : ℕ) → b ≡ cond q (n - 1) 0 → n ≤ 128 → b ≤ 128
few_down true b n e h = omega (arith, e, h)
few_down false b n e h = omega (arith, e)

plain-stays : (o : BinaryOperator) → is_shift o ≡ false → has_term o ≡ true → leaves_to_left o ≡ false
plain-stays Power h k = absurd (false≢true k)
plain-stays Multiply h k = refl
plain-stays Divide h k = refl
plain-stays Modulo h k = refl
plain-stays Add h k = refl
plain-stays Subtract h k = refl
plain-stays ShiftLeft h k = absurd (false≢true (sym h))
plain-stays ShiftRight h k = absurd (false≢true (sym h))
plain-stays ArithmeticShiftRight h k = absurd (false≢true (sym h))
plain-stays And h k = refl
plain-stays Xor h k = refl
plain-stays Xnor h k = refl
plain-stays Or h k = refl

pub plain-within : (s : Scope) (w : ℕ) (l : BinaryLink) → is_shift l.operator ≡ false → has_term l.operator ≡ true → IsLinkWithin s w l → width_at s (tree_of l.operand) ≤ w
plain-within s w l h k f = f (plain-stays l.operator h k)

pub plain-kind : (o : BinaryOperator) → is_shift o ≡ false → has_term o ≡ true → is_plain o ≡ true
plain-kind o h k = left (is_plain o) (is_shift o) h k where
  left : (a b : Bool) → b ≡ false → a || b ≡ true → a ≡ true
  left true b h k = refl
  left false b h k = absurd (false≢true (sym h ∙ k))

pub next_some : (o : TestOperator) (c v w : ℕ) → v ≡ 1 → c ≡ left_width o v w → 1 ≤ c
next_some o c v w h e = let l : v ≤ c = left-within o c v w e in omega (arith, h, l)

pub one_fits : (v : ℕ) → v ≡ 1 → v ≤ 128
one_fits v h = omega (arith, h)

pub alone_kept_on : (s : Scope) (im : Images) (g h : Graph) (e : pure.Expression) (w id : ℕ) → Grows g h → HasImages s im g → IsLoweredAlone s im g e w id → IsLoweredAlone s im h e w id
alone_kept_on s im g h e w id a k l = record { width = l.width; lowered = lowered_kept s im g h e w (sign_of s e) id a k l.lowered }

-- what calls of lower crates say, under the names that do not unfold
pub counted : (s : Scope) (e : pure.Expression) (z : ℤ) → z ≡ integer_of s no_values e → natural_of z ≡ count_at s e
unfolding count_at
counted s e z h = ap natural_of h

pub width-is : (s : Scope) (e : pure.Expression) (w : ℕ) → w ≡ width_of s e → w ≡ width_at s e
unfolding width_at
width-is s e w h = h

pub sign-said : (s : Scope) (e : pure.Expression) (t : Bool) → t ≡ sign_of s e → t ≡ sign_at s e
unfolding sign_at
sign-said s e t h = h

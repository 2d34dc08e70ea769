-- The widths of chains, over the lists of their links.
use Rattle.std.proofs.Common.{◌≡◌, ◌≤◌, ℕ, ◌*◌, ◌∙◌, refl, ap, sym, subst, max, cond, Bool, true, false, ◌||◌, List, [], ◌∷◌, arith}
use Rattle.std.specs.declared.boxed.Box.{Box}
use Rattle.std.specs.declared.vec.Vec.{Vec}
use Rattle.std.specs.declared.alloc.Global.{Global}
use Rattle.verilog_trees.specs.Syntax as pure
use Rattle.verilog_meaning.specs.Expression as meaning
use Rattle.verilog_meaning.specs.Expression.{Scope, width_of, widths_of}
use Rattle.v_syntax.specs.declared.tree.PrefixOperator.{PrefixOperator}
use Rattle.v_syntax.specs.declared.tree.PrefixOperator.TheVariants.{Plus}
use Rattle.v_syntax.specs.declared.tree.BinaryOperator.{BinaryOperator}
use Rattle.v_syntax.specs.declared.tree.BinaryOperator.TheVariants.{Power}
use Rattle.v_syntax.specs.declared.tree.TestOperator.{TestOperator}
use Rattle.v_syntax.specs.declared.tree.TestOperator.TheVariants.{Less}
use Rattle.v_syntax.specs.declared.tree.BinaryLink.{BinaryLink}
use Rattle.v_syntax.specs.declared.tree.TestLink.{TestLink}
use Rattle.v_syntax.specs.declared.tree.Choice.{Choice}
use Rattle.v_syntax.specs.declared.tree.Expression.{Expression, Concatenation, Replication, Prefix, Binary, Test, Conditional}
use Rattle.v_syntax.specs.Tree.{tree_of, prefixed, all_prefixed, combined, tested, expressions_of}
use Rattle.v_value.specs.Links.{is_reduction, has_reduction, has_no_link, leaves_to_left, links_width, choices_width}
use Rattle.v_syntax.specs.Chain.{linked, test_linked, chosen}
use Rattle.v_value.specs.Narrow.{IsWidth, IsNarrow}
use Rattle.v_value.specs.Evaluation.{count_at}
use Rattle.v_value.proofs.Narrows.{narrow_width}
use Rattle.v_value.proofs.Values.{most_right}
use Rattle.v_syntax.proofs.Trees.{tree_of-Concatenation, tree_of-Replication, tree_of-Binary, tree_of-Test, tree_of-Conditional}

width-combined : (s : Scope) (o : BinaryOperator) (x y : pure.Expression) → width_of s (combined o x y) ≡ cond (leaves_to_left o) (width_of s x) (max (width_of s x) (width_of s y))
width-combined s Power x y = refl
width-combined s _ x y = refl

pub width-linked : (s : Scope) (ls : List BinaryLink) (x : pure.Expression) → width_of s (linked ls x) ≡ links_width s (width_of s x) ls
width-linked s [] x = refl
width-linked s (l ∷ ls) x = width-linked s ls _ ∙ ap (λ w. links_width s w ls) (width-combined s l.operator x (tree_of l.operand))

width-tested : (s : Scope) (o : TestOperator) (x y : pure.Expression) → width_of s (tested o x y) ≡ 1
width-tested s Less x y = refl
width-tested s _ x y = refl

width-test_onto : (s : Scope) (ls : List TestLink) (x : pure.Expression) → width_of s x ≡ 1 → width_of s (test_linked ls x) ≡ 1
width-test_onto s [] x h = h
width-test_onto s (l ∷ ls) x h = width-test_onto s ls _ (width-tested s l.operator x (tree_of l.operand))

pub width-test_linked : (s : Scope) (ls : List TestLink) (x : pure.Expression) → width_of s (test_linked ls x) ≡ cond (has_no_link ls) (width_of s x) 1
width-test_linked s [] x = refl
width-test_linked s (l ∷ ls) x = width-test_onto s ls _ (width-tested s l.operator x (tree_of l.operand))

choices_width-max : (s : Scope) (cs : List Choice) (v w : ℕ) → choices_width s cs (max v w) ≡ max v (choices_width s cs w)
choices_width-max s [] v w = refl
choices_width-max s (c ∷ cs) v w =
    let u = width_of s (tree_of c.value) in
    let e : max (max v w) u ≡ max v (max w u) = omega arith in
    ap (choices_width s cs) e ∙ choices_width-max s cs v (max w u)

pub width-chosen : (s : Scope) (cs : List Choice) (y : pure.Expression) → width_of s (chosen cs y) ≡ choices_width s cs (width_of s y)
width-chosen s [] y = refl
width-chosen s (c ∷ cs) y =
    let u = width_of s (tree_of c.value) in
    let e : max (width_of s y) u ≡ max u (width_of s y) = omega arith in
    ap (max u) (width-chosen s cs y) ∙ sym (ap (choices_width s cs) e ∙ choices_width-max s cs u (width_of s y))

width-prefixed : (s : Scope) (o : PrefixOperator) (x : pure.Expression) → width_of s (prefixed o x) ≡ cond (is_reduction o) 1 (width_of s x)
width-prefixed s Plus x = refl
width-prefixed s _ x = refl

one-or : (a b : Bool) (w : ℕ) → cond a 1 (cond b 1 w) ≡ cond (a || b) 1 w
one-or true b w = refl
one-or false b w = refl

pub width-all_prefixed : (s : Scope) (os : List PrefixOperator) (x : pure.Expression) → width_of s (all_prefixed os x) ≡ cond (has_reduction os) 1 (width_of s x)
width-all_prefixed s [] x = refl
width-all_prefixed s (o ∷ os) x =
    width-prefixed s o (all_prefixed os x) ∙ ap (λ w. cond (is_reduction o) 1 w) (width-all_prefixed s os x) ∙ one-or (is_reduction o) (has_reduction os) (width_of s x)

-- the widths of the forms that hold chains
pub width-Concatenation : (s : Scope) (v : Vec Expression Global) → width_of s (tree_of (Concatenation v)) ≡ widths_of s (expressions_of v.items)
width-Concatenation s v = ap (width_of s) (tree_of-Concatenation v)

pub width-Prefix : (s : Scope) (os : Vec PrefixOperator Global) (b : Box Expression Global) → width_of s (tree_of (Prefix os b)) ≡ cond (has_reduction os.items) 1 (width_of s (tree_of b.value))
width-Prefix s os b = width-all_prefixed s os.items (tree_of b.value)

pub width-Binary : (s : Scope) (b : Box Expression Global) (v : Vec BinaryLink Global) → width_of s (tree_of (Binary b v)) ≡ links_width s (width_of s (tree_of b.value)) v.items
width-Binary s b v = ap (width_of s) (tree_of-Binary b v) ∙ width-linked s v.items (tree_of b.value)

pub width-Test : (s : Scope) (b : Box Expression Global) (v : Vec TestLink Global) → width_of s (tree_of (Test b v)) ≡ cond (has_no_link v.items) (width_of s (tree_of b.value)) 1
width-Test s b v = ap (width_of s) (tree_of-Test b v) ∙ width-test_linked s v.items (tree_of b.value)

pub width-Conditional : (s : Scope) (v : Vec Choice Global) (b : Box Expression Global) → width_of s (tree_of (Conditional v b)) ≡ choices_width s v.items (width_of s (tree_of b.value))
width-Conditional s v b = ap (width_of s) (tree_of-Conditional v b) ∙ width-chosen s v.items (tree_of b.value)

-- What a program returns for such a form: e is the expression, x the operand and ls the chain as its calls were given them,
-- w what the call on x returned, and r the result.
module _ (s : Scope) (e : Expression) (x : Expression) (w r : ℕ) (of_x : w ≡ width_of s (tree_of x)) where
  pub at-Prefix : (os : Vec PrefixOperator Global) (b : Box Expression Global) → e ≡ Prefix os b → x ≡ b.value → (ls : List PrefixOperator) → ls ≡ os.items → r ≡ cond (has_reduction ls) 1 w → r ≡ width_of s (tree_of e)
  at-Prefix os b i j ls k h =
      h ∙ ap (λ l. cond (has_reduction l) 1 w) k ∙ ap (cond (has_reduction os.items) 1) (of_x ∙ ap (λ y. width_of s (tree_of y)) j) ∙ sym (ap (λ y. width_of s (tree_of y)) i ∙ width-Prefix s os b)

  pub at-Binary : (b : Box Expression Global) (v : Vec BinaryLink Global) → e ≡ Binary b v → x ≡ b.value → (ls : List BinaryLink) → ls ≡ v.items → r ≡ links_width s w ls → r ≡ width_of s (tree_of e)
  at-Binary b v i j ls k h =
      h ∙ ap (links_width s w) k ∙ ap (λ u. links_width s u v.items) (of_x ∙ ap (λ y. width_of s (tree_of y)) j) ∙ sym (ap (λ y. width_of s (tree_of y)) i ∙ width-Binary s b v)

  pub at-Test : (b : Box Expression Global) (v : Vec TestLink Global) → e ≡ Test b v → x ≡ b.value → (ls : List TestLink) → ls ≡ v.items → r ≡ cond (has_no_link ls) w 1 → r ≡ width_of s (tree_of e)
  at-Test b v i j ls k h =
      h ∙ ap (λ l. cond (has_no_link l) w 1) k ∙ ap (λ u. cond (has_no_link v.items) u 1) (of_x ∙ ap (λ y. width_of s (tree_of y)) j) ∙ sym (ap (λ y. width_of s (tree_of y)) i ∙ width-Test s b v)

  pub at-Conditional : (v : Vec Choice Global) (b : Box Expression Global) → e ≡ Conditional v b → x ≡ b.value → (cs : List Choice) → cs ≡ v.items → r ≡ choices_width s cs w → r ≡ width_of s (tree_of e)
  at-Conditional v b i j cs k h =
      h ∙ ap (λ l. choices_width s l w) k ∙ ap (choices_width s v.items) (of_x ∙ ap (λ y. width_of s (tree_of y)) j) ∙ sym (ap (λ y. width_of s (tree_of y)) i ∙ width-Conditional s v b)

pub at-Concatenation : (s : Scope) (e : Expression) (r : ℕ) (v : Vec Expression Global) → e ≡ Concatenation v → (es : List Expression) → es ≡ v.items → r ≡ widths_of s (expressions_of es) → r ≡ width_of s (tree_of e)
at-Concatenation s e r v i es k h = h ∙ ap (λ l. widths_of s (expressions_of l)) k ∙ sym (ap (λ y. width_of s (tree_of y)) i ∙ width-Concatenation s v)

-- replications: x is the count, m its number, u the width of the parts
count-is : (s : Scope) (k : pure.Expression) → meaning.natural_of (meaning.integer_of s meaning.no_values k) ≡ count_at s k
unfolding count_at
count-is s k = refl

width-Replication : (s : Scope) (b : Box Expression Global) (v : Vec Expression Global) → width_of s (tree_of (Replication b v)) ≡ count_at s (tree_of b.value) * widths_of s (expressions_of v.items)
width-Replication s b v = ap (width_of s) (tree_of-Replication b v) ∙ ap (λ m. m * widths_of s (expressions_of v.items)) (count-is s (tree_of b.value))

module _ (s : Scope) (e : Expression) (b : Box Expression Global) (v : Vec Expression Global) (i : e ≡ Replication b v) (x : Expression) (j : x ≡ b.value) (m : ℕ) (is_m : m ≡ count_at s (tree_of x)) (es : List Expression) (k : es ≡ v.items) (u : ℕ) (is_u : u ≡ widths_of s (expressions_of es)) where
  copies-width : m * u ≡ width_of s (tree_of e)
  copies-width =
      ap (λ z. z * u) (is_m ∙ ap (λ z. count_at s (tree_of z)) j) ∙ ap (λ z. count_at s (tree_of b.value) * z) (is_u ∙ ap (λ l. widths_of s (expressions_of l)) k)
      ∙ sym (ap (λ y. width_of s (tree_of y)) i ∙ width-Replication s b v)

  pub at-Replication : (r : ℕ) → r ≡ m * u → r ≡ width_of s (tree_of e)
  at-Replication r g = g ∙ copies-width

pub copies-most : (s : Scope) (e : Expression) → IsNarrow s (tree_of e) → (b : Box Expression Global) (v : Vec Expression Global) → e ≡ Replication b v → (x : Expression) → x ≡ b.value → (m : ℕ) → m ≡ count_at s (tree_of x) →
    (es : List Expression) → es ≡ v.items → (u : ℕ) → u ≡ widths_of s (expressions_of es) → m * u ≤ 128
copies-most s e n b v i x j m is_m es k u is_u = subst (λ z. z ≤ 128) (sym (copies-width s e b v i x j m is_m es k u is_u)) (narrow_width s (tree_of e) n).1

pub repeated-most : (s : Scope) (e : Expression) → IsNarrow s (tree_of e) → (b : Box Expression Global) (v : Vec Expression Global) → e ≡ Replication b v → (es : List Expression) → es ≡ v.items → widths_of s (expressions_of es) ≤ 128
repeated-most s e n b v i es k =
    let bounds : IsWidth (count_at s (tree_of b.value) * widths_of s (expressions_of v.items)) =
    subst IsWidth (ap (λ y. width_of s (tree_of y)) i ∙ width-Replication s b v) (narrow_width s (tree_of e) n) in
    let more : widths_of s (expressions_of v.items) ≤ count_at s (tree_of b.value) * widths_of s (expressions_of v.items) = most_right _ _ bounds.0 in
    subst (λ l. widths_of s (expressions_of l) ≤ 128) (sym k) (omega (arith, more, bounds.1))

-- The test of an expression from the tests of its parts: the facts that a program's steps give, form by form.
use Rattle.std.proofs.Common.{◌≡◌, ◌∙◌, ◌*◌, refl, ap, sym, ℕ, Bool, true, false, cond, ◌&&◌, List, [], ◌∷◌}
use Rattle.std.specs.declared.boxed.Box.{Box}
use Rattle.std.specs.declared.vec.Vec.{Vec}
use Rattle.std.specs.declared.alloc.Global.{Global}
use Rattle.std.specs.Borrow.{Bor}
use Rattle.verilog_trees.specs.Syntax as pure
use Rattle.verilog_meaning.specs.Expression.{Scope, Object, width_of, widths_of, object_width, is_memory, no_values}
use Rattle.v_syntax.specs.declared.tree.Number.{Number as CodeNumber}
use Rattle.v_syntax.specs.declared.tree.PrefixOperator.{PrefixOperator}
use Rattle.v_syntax.specs.declared.tree.PrefixOperator.TheVariants.{Plus}
use Rattle.v_syntax.specs.declared.tree.BinaryOperator.{BinaryOperator}
use Rattle.v_syntax.specs.declared.tree.BinaryOperator.TheVariants.{Power}
use Rattle.v_syntax.specs.declared.tree.TestOperator.{TestOperator}
use Rattle.v_syntax.specs.declared.tree.TestOperator.TheVariants.{Less}
use Rattle.v_syntax.specs.declared.tree.BinaryLink.{BinaryLink}
use Rattle.v_syntax.specs.declared.tree.TestLink.{TestLink}
use Rattle.v_syntax.specs.declared.tree.Choice.{Choice}
use Rattle.v_syntax.specs.declared.tree.Expression.{Expression, Number, Name, Concatenation, Replication, AsSigned, AsUnsigned, Prefix, Binary, Test, Conditional}
use Rattle.v_syntax.specs.declared.tree.Select.{Select, Index, Part, PartUp, PartDown}
use Rattle.v_syntax.specs.declared.tree.Selects.{Selects, Whole, One, Two}
use Rattle.v_syntax.specs.Tree.{tree_of, prefixed, all_prefixed, combined, tested, expressions_of, select_of, selects_of}
use Rattle.v_value.specs.Evaluation.{count_at, taken_at}
use Rattle.v_syntax.specs.Chain.{linked, test_linked, chosen}
use Rattle.v_value.proofs.Selected.{count-is}
use Rattle.v_syntax.proofs.Trees.{tree_of-Concatenation, tree_of-Replication, tree_of-Binary, tree_of-Test, tree_of-Conditional}
use Rattle.v_narrow.proofs.Decided.{whole-same}
use Rattle.v_narrow.specs.Test.{is_width, number_test, is_object_narrow, narrow_test, all_test, select_test, narrow_at, select_narrow_at, selects_narrow_at, parts_test, links_test, tests_test, choices_test}

and-true : (b : Bool) → b && true ≡ b
and-true true = refl
and-true false = refl

and-assoc : (a b c : Bool) → (a && b) && c ≡ a && (b && c)
and-assoc true b c = refl
and-assoc false b c = refl

combined-test : (t : Bool) (s : Scope) (o : BinaryOperator) (x y : pure.Expression) → narrow_at t s (combined o x y) ≡ narrow_at t s x && narrow_at t s y
unfolding narrow_at
combined-test t s Power x y = refl
combined-test t s _ x y = refl

linked-test : (t : Bool) (s : Scope) (ls : List BinaryLink) (x : pure.Expression) → narrow_at t s (linked ls x) ≡ narrow_at t s x && links_test t s ls
linked-test t s [] x = sym (and-true _)
linked-test t s (l ∷ ls) x =
    linked-test t s ls _ ∙ ap (λ b. b && links_test t s ls) (combined-test t s l.operator x (tree_of l.operand)) ∙ and-assoc (narrow_at t s x) _ _

tested-test : (t : Bool) (s : Scope) (o : TestOperator) (x y : pure.Expression) → narrow_at t s (tested o x y) ≡ narrow_at t s x && narrow_at t s y
unfolding narrow_at
tested-test t s Less x y = refl
tested-test t s _ x y = refl

test_linked-test : (t : Bool) (s : Scope) (ls : List TestLink) (x : pure.Expression) → narrow_at t s (test_linked ls x) ≡ narrow_at t s x && tests_test t s ls
test_linked-test t s [] x = sym (and-true _)
test_linked-test t s (l ∷ ls) x =
    test_linked-test t s ls _ ∙ ap (λ b. b && tests_test t s ls) (tested-test t s l.operator x (tree_of l.operand)) ∙ and-assoc (narrow_at t s x) _ _

conditional-test : (t : Bool) (s : Scope) (c x y : pure.Expression) → narrow_at t s (pure.conditional c x y) ≡ (narrow_at t s c && narrow_at t s x) && narrow_at t s y
unfolding narrow_at
conditional-test t s c x y = refl

chosen-test : (t : Bool) (s : Scope) (cs : List Choice) (y : pure.Expression) → narrow_at t s (chosen cs y) ≡ choices_test t s cs && narrow_at t s y
chosen-test t s [] y = refl
chosen-test t s (c ∷ cs) y =
    conditional-test t s (tree_of c.condition) (tree_of c.value) (chosen cs y)
    ∙ ap (λ b. (narrow_at t s (tree_of c.condition) && narrow_at t s (tree_of c.value)) && b) (chosen-test t s cs y)
    ∙ sym (and-assoc (narrow_at t s (tree_of c.condition) && narrow_at t s (tree_of c.value)) _ _)

prefixed-test : (t : Bool) (s : Scope) (o : PrefixOperator) (x : pure.Expression) → narrow_at t s (prefixed o x) ≡ narrow_at t s x
unfolding narrow_at
prefixed-test t s Plus x = refl
prefixed-test t s _ x = refl

all_prefixed-test : (t : Bool) (s : Scope) (os : List PrefixOperator) (x : pure.Expression) → narrow_at t s (all_prefixed os x) ≡ narrow_at t s x
all_prefixed-test t s [] x = refl
all_prefixed-test t s (o ∷ os) x = prefixed-test t s o (all_prefixed os x) ∙ all_prefixed-test t s os x

pub all_parts : (t : Bool) (s : Scope) (es : List Expression) → all_test t s (expressions_of es) ≡ parts_test t s es
unfolding narrow_at
all_parts t s [] = refl
all_parts t s (e ∷ es) = ap (λ b. narrow_test t s (tree_of e) && b) (all_parts t s es)

joined-test : (t : Bool) (s : Scope) (es : List Expression) → narrow_at t s (pure.concatenation (expressions_of es)) ≡ parts_test t s es && is_width (widths_of s (expressions_of es))
unfolding narrow_at
joined-test t s es = ap (λ b. b && is_width (widths_of s (expressions_of es))) (all_parts t s es)

repeated-test : (t : Bool) (s : Scope) (k : pure.Expression) (es : List Expression)
    → narrow_at t s (pure.replication k (expressions_of es)) ≡ (t && (narrow_at t s k && parts_test t s es)) && is_width (count_at s k * widths_of s (expressions_of es))
unfolding narrow_at count_at
repeated-test t s k es = ap (λ b. (t && (narrow_test t s k && b)) && is_width (width_of s (pure.replication k (expressions_of es)))) (all_parts t s es)

-- e is the expression, and r the result
module _ (t : Bool) (s : Scope) (e : Expression) (r : Bool) where
  at : (u : pure.Expression) (x : Bool) → tree_of e ≡ u → narrow_at t s u ≡ x → r ≡ x → r ≡ narrow_at t s (tree_of e)
  at u x i j k = k ∙ sym (ap (narrow_at t s) i ∙ j)

  pub at-Number : (k : CodeNumber) → e ≡ Number k → r ≡ number_test k.width k.value → r ≡ narrow_at t s (tree_of e)
  unfolding narrow_at
  at-Number k i h = at _ _ (ap tree_of i) refl h

  pub at-Name : (m : Bor (List ℕ)) (x : Selects) → e ≡ Name m x → r ≡ selects_narrow_at t s (s m.now) (selects_of x) → r ≡ narrow_at t s (tree_of e)
  unfolding narrow_at selects_narrow_at
  at-Name m x i h = at _ _ (ap tree_of i) refl h

  pub at-Concatenation : (v : Vec Expression Global) → e ≡ Concatenation v → (es : List Expression) → es ≡ v.items → r ≡ parts_test t s es && is_width (widths_of s (expressions_of es)) → r ≡ narrow_at t s (tree_of e)
  at-Concatenation v i es j h =
      at _ _ (ap tree_of i ∙ tree_of-Concatenation v) (joined-test t s v.items) (h ∙ ap (λ l. parts_test t s l && is_width (widths_of s (expressions_of l))) j)

  -- u and w are what the tests of the count and the parts returned; each of these two was handed on twice
  pub at-Replication : (b : Box Expression Global) (v : Vec Expression Global) → e ≡ Replication b v → (k : Expression) → k ≡ b.value → (es : List Expression) → es ≡ v.items
      → (m : Expression) → m ≡ b.value → (ds : List Expression) → ds ≡ v.items → (u w : Bool) → u ≡ narrow_at t s (tree_of m) → w ≡ parts_test t s ds
      → r ≡ (t && (u && w)) && is_width (count_at s (tree_of k) * widths_of s (expressions_of es)) → r ≡ narrow_at t s (tree_of e)
  at-Replication b v i k j es l m j2 ds l2 u w is_u is_w h =
      at _ _ (ap tree_of i ∙ tree_of-Replication b v) (repeated-test t s (tree_of b.value) v.items)
      (h ∙ ap (λ x. (t && (x && w)) && is_width (count_at s (tree_of k) * widths_of s (expressions_of es))) (is_u ∙ ap (λ x. narrow_at t s (tree_of x)) j2)
      ∙ ap (λ x. (t && (narrow_at t s (tree_of b.value) && x)) && is_width (count_at s (tree_of k) * widths_of s (expressions_of es))) (is_w ∙ ap (parts_test t s) l2)
      ∙ ap (λ x. (t && (narrow_at t s (tree_of b.value) && parts_test t s v.items)) && is_width (count_at s (tree_of x) * widths_of s (expressions_of es))) j
      ∙ ap (λ x. (t && (narrow_at t s (tree_of b.value) && parts_test t s v.items)) && is_width (count_at s (tree_of b.value) * widths_of s (expressions_of x))) l)

  -- x is the operand or first operand, and w what its test returned
  module _ (x : Expression) (w : Bool) (of_x : w ≡ narrow_at t s (tree_of x)) where
    first : (b : Box Expression Global) → x ≡ b.value → w ≡ narrow_at t s (tree_of b.value)
    first b j = of_x ∙ ap (λ y. narrow_at t s (tree_of y)) j

    pub at-AsSigned : (b : Box Expression Global) → e ≡ AsSigned b → x ≡ b.value → r ≡ w → r ≡ narrow_at t s (tree_of e)
    unfolding narrow_at
    at-AsSigned b i j h = at _ _ (ap tree_of i) refl (h ∙ first b j)

    pub at-AsUnsigned : (b : Box Expression Global) → e ≡ AsUnsigned b → x ≡ b.value → r ≡ w → r ≡ narrow_at t s (tree_of e)
    unfolding narrow_at
    at-AsUnsigned b i j h = at _ _ (ap tree_of i) refl (h ∙ first b j)

    pub at-Prefix : (os : Vec PrefixOperator Global) (b : Box Expression Global) → e ≡ Prefix os b → x ≡ b.value → r ≡ w → r ≡ narrow_at t s (tree_of e)
    at-Prefix os b i j h = at _ _ (ap tree_of i) (all_prefixed-test t s os.items (tree_of b.value)) (h ∙ first b j)

    pub at-Binary : (b : Box Expression Global) (v : Vec BinaryLink Global) → e ≡ Binary b v → x ≡ b.value → (ls : List BinaryLink) → ls ≡ v.items → r ≡ w && links_test t s ls → r ≡ narrow_at t s (tree_of e)
    at-Binary b v i j ls k h =
        at _ _ (ap tree_of i ∙ tree_of-Binary b v) (linked-test t s v.items (tree_of b.value)) (h ∙ ap (λ l. w && links_test t s l) k ∙ ap (λ u. u && links_test t s v.items) (first b j))

    pub at-Test : (b : Box Expression Global) (v : Vec TestLink Global) → e ≡ Test b v → x ≡ b.value → (ls : List TestLink) → ls ≡ v.items → r ≡ w && tests_test t s ls → r ≡ narrow_at t s (tree_of e)
    at-Test b v i j ls k h =
        at _ _ (ap tree_of i ∙ tree_of-Test b v) (test_linked-test t s v.items (tree_of b.value)) (h ∙ ap (λ l. w && tests_test t s l) k ∙ ap (λ u. u && tests_test t s v.items) (first b j))

    pub at-Conditional : (v : Vec Choice Global) (b : Box Expression Global) → e ≡ Conditional v b → x ≡ b.value → (cs : List Choice) → cs ≡ v.items → r ≡ choices_test t s cs && w → r ≡ narrow_at t s (tree_of e)
    at-Conditional v b i j cs k h =
        at _ _ (ap tree_of i ∙ tree_of-Conditional v b) (chosen-test t s v.items (tree_of b.value)) (h ∙ ap (λ l. choices_test t s l && w) k ∙ ap (λ u. choices_test t s v.items && u) (first b j))

-- x is the select, and r the result
module _ (t : Bool) (s : Scope) (x : Select) (r : Bool) where
  pub at-Index : (b : Box Expression Global) → x ≡ Index b → (e : Expression) → e ≡ b.value → r ≡ narrow_at t s (tree_of e) → r ≡ select_narrow_at t s (select_of x)
  unfolding narrow_at select_narrow_at
  at-Index b i e j h = h ∙ ap (λ y. narrow_at t s (tree_of y)) j ∙ sym (ap (λ y. select_narrow_at t s (select_of y)) i)

  -- e and f stand in the select, and u and w are what their tests returned
  module _ (a b : Box Expression Global) (e f : Expression) (j : e ≡ a.value) (k : f ≡ b.value) (u w : Bool) (is_u : u ≡ narrow_at t s (tree_of e)) (is_w : w ≡ narrow_at t s (tree_of f)) (h : r ≡ t && (u && w)) where
    all : r ≡ t && (narrow_at t s (tree_of a.value) && narrow_at t s (tree_of b.value))
    all = h ∙ ap (λ z. t && (z && w)) (is_u ∙ ap (λ y. narrow_at t s (tree_of y)) j)
        ∙ ap (λ z. t && (narrow_at t s (tree_of a.value) && z)) (is_w ∙ ap (λ y. narrow_at t s (tree_of y)) k)

    pub at-Part : x ≡ Part a b → r ≡ select_narrow_at t s (select_of x)
    unfolding narrow_at select_narrow_at
    at-Part i = all ∙ sym (ap (λ y. select_narrow_at t s (select_of y)) i)

    pub at-PartUp : x ≡ PartUp a b → r ≡ select_narrow_at t s (select_of x)
    unfolding narrow_at select_narrow_at
    at-PartUp i = all ∙ sym (ap (λ y. select_narrow_at t s (select_of y)) i)

    pub at-PartDown : x ≡ PartDown a b → r ≡ select_narrow_at t s (select_of x)
    unfolding narrow_at select_narrow_at
    at-PartDown i = all ∙ sym (ap (λ y. select_narrow_at t s (select_of y)) i)

one-test : (t : Bool) (s : Scope) (o : Object) (y : pure.Select) → select_narrow_at t s y && is_width (cond (is_memory o) (object_width o) (taken_at s y)) ≡ selects_narrow_at t s o (pure.one y)
unfolding select_narrow_at selects_narrow_at
one-test t s o y = ap (λ n. select_test t s y && is_width (cond (is_memory o) (object_width o) n)) (sym (count-is s no_values o y))

two-test : (t : Bool) (s : Scope) (o : Object) (y z : pure.Select) → (select_narrow_at t s y && select_narrow_at t s z) && is_width (taken_at s z) ≡ selects_narrow_at t s o (pure.two y z)
unfolding select_narrow_at selects_narrow_at
two-test t s o y z = ap (λ n. (select_test t s y && select_test t s z) && is_width n) (sym (count-is s no_values o z))

-- x are the selects, and r the result
module _ (t : Bool) (s : Scope) (o : Object) (x : Selects) (r : Bool) where
  pub at-Whole : x ≡ Whole → r ≡ is_object_narrow o → r ≡ selects_narrow_at t s o (selects_of x)
  unfolding selects_narrow_at
  at-Whole i h = h ∙ whole-same o ∙ sym (ap (λ y. selects_narrow_at t s o (selects_of y)) i)

  -- u and w are what the tests of the selects returned
  pub at-One : (y : Select) → x ≡ One y → (u : Bool) → u ≡ select_narrow_at t s (select_of y)
      → r ≡ u && is_width (cond (is_memory o) (object_width o) (taken_at s (select_of y))) → r ≡ selects_narrow_at t s o (selects_of x)
  at-One y i u is_u h =
      h ∙ ap (λ b. b && is_width (cond (is_memory o) (object_width o) (taken_at s (select_of y)))) is_u
      ∙ one-test t s o (select_of y) ∙ sym (ap (λ z. selects_narrow_at t s o (selects_of z)) i)

  pub at-Two : (y z : Select) → x ≡ Two y z → (u w : Bool) → u ≡ select_narrow_at t s (select_of y) → w ≡ select_narrow_at t s (select_of z)
      → r ≡ (u && w) && is_width (taken_at s (select_of z)) → r ≡ selects_narrow_at t s o (selects_of x)
  at-Two y z i u w is_u is_w h =
      h ∙ ap (λ b. (b && w) && is_width (taken_at s (select_of z))) is_u
      ∙ ap (λ b. (select_narrow_at t s (select_of y) && b) && is_width (taken_at s (select_of z))) is_w
      ∙ two-test t s o (select_of y) (select_of z) ∙ sym (ap (λ u. selects_narrow_at t s o (selects_of u)) i)

-- What follows for the parts of a narrow expression, and the bounds of its width.
use Rattle.std.proofs.Common.{◌≡◌, ◌∙◌, ap, subst, max, List, [], ◌∷◌, arith}
use Rattle.std.specs.declared.boxed.Box.{Box}
use Rattle.std.specs.declared.vec.Vec.{Vec}
use Rattle.std.specs.declared.alloc.Global.{Global}
use Rattle.verilog_trees.specs.Syntax as pure
use Rattle.verilog_trees.specs.Syntax.{number, name, concatenation, replication, as_signed, as_unsigned, unary, reduction, binary, shift, power, comparison, logical, conditional}
use Rattle.verilog_meaning.specs.Expression.{Scope, width_of, widths_of}
use Rattle.v_syntax.specs.declared.tree.PrefixOperator.{PrefixOperator}
use Rattle.v_syntax.specs.declared.tree.PrefixOperator.TheVariants.{Plus}
use Rattle.v_syntax.specs.declared.tree.BinaryOperator.{BinaryOperator}
use Rattle.v_syntax.specs.declared.tree.BinaryOperator.TheVariants.{Power}
use Rattle.v_syntax.specs.declared.tree.TestOperator.{TestOperator}
use Rattle.v_syntax.specs.declared.tree.TestOperator.TheVariants.{Less}
use Rattle.v_syntax.specs.declared.tree.BinaryLink.{BinaryLink}
use Rattle.v_syntax.specs.declared.tree.TestLink.{TestLink}
use Rattle.v_syntax.specs.declared.tree.Choice.{Choice}
use Rattle.v_syntax.specs.declared.tree.Expression.{Expression, Concatenation, Replication, Prefix, Binary, Test, Conditional}
use Rattle.v_syntax.specs.Tree.{tree_of, prefixed, all_prefixed, combined, tested, expressions_of}
use Rattle.v_value.specs.Narrow.{IsWidth, IsNarrow, AreNarrow}
use Rattle.v_value.specs.Links.{AreLinksNarrow, AreTestsNarrow, AreChoicesNarrow}
use Rattle.v_syntax.specs.Chain.{linked, test_linked, chosen}
use Rattle.v_syntax.proofs.Trees.{tree_of-Concatenation, tree_of-Replication, tree_of-Binary, tree_of-Test, tree_of-Conditional}

widest : (v w : _) → IsWidth v → IsWidth w → IsWidth (max v w)
widest v w h k = (omega (arith, h.0), omega (arith, h.1, k.1))

-- A narrow expression has 1 to 128 bits.
pub narrow_width : (s : Scope) (e : pure.Expression) → IsNarrow s e → IsWidth (width_of s e)
narrow_width s (number k) h = h.0
narrow_width s (name n x) h = h.0
narrow_width s (concatenation es) h = h.0
narrow_width s (replication k es) h = h.0
narrow_width s (as_signed x) h = narrow_width s x h
narrow_width s (as_unsigned x) h = narrow_width s x h
narrow_width s (unary op x) h = narrow_width s x h
narrow_width s (reduction op x) h = (omega arith, omega arith)
narrow_width s (binary op x y) h = widest _ _ (narrow_width s x h.0) (narrow_width s y h.1)
narrow_width s (shift op x n) h = narrow_width s x h.0
narrow_width s (power x n) h = narrow_width s x h.0
narrow_width s (comparison op x y) h = (omega arith, omega arith)
narrow_width s (logical op x y) h = (omega arith, omega arith)
narrow_width s (conditional c x y) h = widest _ _ (narrow_width s x h.1) (narrow_width s y h.2)

narrow-combined : (s : Scope) (o : BinaryOperator) (x y : pure.Expression) → IsNarrow s (combined o x y) → IsNarrow s x × IsNarrow s y
narrow-combined s Power x y h = h
narrow-combined s _ x y h = h

pub narrow-linked : (s : Scope) (ls : List BinaryLink) (x : pure.Expression) → IsNarrow s (linked ls x) → IsNarrow s x × AreLinksNarrow s ls
narrow-linked s [] x h = (h, tt)
narrow-linked s (l ∷ ls) x h =
    let g = narrow-linked s ls _ h in
    let f = narrow-combined s l.operator x (tree_of l.operand) g.0 in
    (f.0, (f.1, g.1))

narrow-tested : (s : Scope) (o : TestOperator) (x y : pure.Expression) → IsNarrow s (tested o x y) → IsNarrow s x × IsNarrow s y
narrow-tested s Less x y h = h
narrow-tested s _ x y h = h

pub narrow-test_linked : (s : Scope) (ls : List TestLink) (x : pure.Expression) → IsNarrow s (test_linked ls x) → IsNarrow s x × AreTestsNarrow s ls
narrow-test_linked s [] x h = (h, tt)
narrow-test_linked s (l ∷ ls) x h =
    let g = narrow-test_linked s ls _ h in
    let f = narrow-tested s l.operator x (tree_of l.operand) g.0 in
    (f.0, (f.1, g.1))

pub narrow-chosen : (s : Scope) (cs : List Choice) (y : pure.Expression) → IsNarrow s (chosen cs y) → AreChoicesNarrow s cs × IsNarrow s y
narrow-chosen s [] y h = (tt, h)
narrow-chosen s (c ∷ cs) y h =
    let g = narrow-chosen s cs y h.2 in
    ((h.0, h.1, g.0), g.1)

narrow-prefixed : (s : Scope) (o : PrefixOperator) (x : pure.Expression) → IsNarrow s (prefixed o x) → IsNarrow s x
narrow-prefixed s Plus x h = h
narrow-prefixed s _ x h = h

pub narrow-all_prefixed : (s : Scope) (os : List PrefixOperator) (x : pure.Expression) → IsNarrow s (all_prefixed os x) → IsNarrow s x
narrow-all_prefixed s [] x h = h
narrow-all_prefixed s (o ∷ os) x h = narrow-all_prefixed s os x (narrow-prefixed s o (all_prefixed os x) h)

-- what the forms that hold chains say of their parts
module _ (s : Scope) (e : Expression) (h : IsNarrow s (tree_of e)) where
  pub of-Concatenation : (v : Vec Expression Global) → e ≡ Concatenation v → IsWidth (widths_of s (expressions_of v.items)) × AreNarrow s (expressions_of v.items)
  of-Concatenation v i = subst (IsNarrow s) (ap tree_of i ∙ tree_of-Concatenation v) h

  pub of-Replication : (b : Box Expression Global) (v : Vec Expression Global) → e ≡ Replication b v → IsNarrow s (replication (tree_of b.value) (expressions_of v.items))
  of-Replication b v i = subst (IsNarrow s) (ap tree_of i ∙ tree_of-Replication b v) h

  pub of-Prefix : (os : Vec PrefixOperator Global) (b : Box Expression Global) → e ≡ Prefix os b → IsNarrow s (tree_of b.value)
  of-Prefix os b i = narrow-all_prefixed s os.items (tree_of b.value) (subst (IsNarrow s) (ap tree_of i) h)

  pub of-Binary : (b : Box Expression Global) (v : Vec BinaryLink Global) → e ≡ Binary b v → IsNarrow s (tree_of b.value) × AreLinksNarrow s v.items
  of-Binary b v i = narrow-linked s v.items (tree_of b.value) (subst (IsNarrow s) (ap tree_of i ∙ tree_of-Binary b v) h)

  pub of-Test : (b : Box Expression Global) (v : Vec TestLink Global) → e ≡ Test b v → IsNarrow s (tree_of b.value) × AreTestsNarrow s v.items
  of-Test b v i = narrow-test_linked s v.items (tree_of b.value) (subst (IsNarrow s) (ap tree_of i ∙ tree_of-Test b v) h)

  pub of-Conditional : (v : Vec Choice Global) (b : Box Expression Global) → e ≡ Conditional v b → AreChoicesNarrow s v.items × IsNarrow s (tree_of b.value)
  of-Conditional v b i = narrow-chosen s v.items (tree_of b.value) (subst (IsNarrow s) (ap tree_of i ∙ tree_of-Conditional v b) h)

-- The signs of chains, over the lists of their links.
use Rattle.std.proofs.Common.{◌≡◌, ◌∙◌, refl, ap, sym, Bool, true, false, not, ◌&&◌, ◌||◌, List, [], ◌∷◌}
use Rattle.verilog_trees.specs.Syntax as pure
use Rattle.verilog_meaning.specs.Expression.{Scope, sign_of}
use Rattle.v_syntax.specs.declared.tree.PrefixOperator.{PrefixOperator}
use Rattle.v_syntax.specs.declared.tree.PrefixOperator.TheVariants.{Plus}
use Rattle.v_syntax.specs.declared.tree.BinaryOperator.{BinaryOperator}
use Rattle.v_syntax.specs.declared.tree.BinaryOperator.TheVariants.{Power, ShiftLeft, ShiftRight, ArithmeticShiftRight}
use Rattle.v_syntax.specs.declared.tree.TestOperator.{TestOperator}
use Rattle.v_syntax.specs.declared.tree.TestOperator.TheVariants.{Less}
use Rattle.v_syntax.specs.declared.tree.BinaryLink.{BinaryLink}
use Rattle.v_syntax.specs.declared.tree.TestLink.{TestLink}
use Rattle.v_syntax.specs.declared.tree.Choice.{Choice}
use Rattle.std.specs.declared.boxed.Box.{Box}
use Rattle.std.specs.declared.vec.Vec.{Vec}
use Rattle.std.specs.declared.alloc.Global.{Global}
use Rattle.v_syntax.specs.declared.tree.Expression.{Expression, Prefix, Binary, Test, Conditional}
use Rattle.v_syntax.proofs.Trees.{tree_of-Binary, tree_of-Test, tree_of-Conditional}
use Rattle.v_syntax.specs.Tree.{tree_of, prefixed, all_prefixed, combined, tested}
use Rattle.v_value.specs.Links.{is_reduction, has_reduction, has_no_link, leaves_to_left, links_signed, choices_signed}
use Rattle.v_syntax.specs.Chain.{linked, test_linked, chosen}

and-true : (b : Bool) → b && true ≡ b
and-true true = refl
and-true false = refl

and-false : (b : Bool) → b && false ≡ false
and-false true = refl
and-false false = refl

and-assoc : (a b c : Bool) → (a && b) && c ≡ a && (b && c)
and-assoc true b c = refl
and-assoc false b c = refl

and-comm : (a b : Bool) → a && b ≡ b && a
and-comm true b = sym (and-true b)
and-comm false b = sym (and-false b)

sign-combined : (s : Scope) (o : BinaryOperator) (x y : pure.Expression) → sign_of s (combined o x y) ≡ sign_of s x && (leaves_to_left o || sign_of s y)
sign-combined s Power x y = sym (and-true _)
sign-combined s ShiftLeft x y = sym (and-true _)
sign-combined s ShiftRight x y = sym (and-true _)
sign-combined s ArithmeticShiftRight x y = sym (and-true _)
sign-combined s _ x y = refl

pub sign-linked : (s : Scope) (ls : List BinaryLink) (x : pure.Expression) → sign_of s (linked ls x) ≡ sign_of s x && links_signed s ls
sign-linked s [] x = sym (and-true _)
sign-linked s (l ∷ ls) x =
    sign-linked s ls _ ∙ ap (λ b. b && links_signed s ls) (sign-combined s l.operator x (tree_of l.operand)) ∙ and-assoc (sign_of s x) _ _

sign-tested : (s : Scope) (o : TestOperator) (x y : pure.Expression) → sign_of s (tested o x y) ≡ false
sign-tested s Less x y = refl
sign-tested s _ x y = refl

sign-test_onto : (s : Scope) (ls : List TestLink) (x : pure.Expression) → sign_of s x ≡ false → sign_of s (test_linked ls x) ≡ false
sign-test_onto s [] x h = h
sign-test_onto s (l ∷ ls) x h = sign-test_onto s ls _ (sign-tested s l.operator x (tree_of l.operand))

pub sign-test_linked : (s : Scope) (l : TestLink) (ls : List TestLink) (x : pure.Expression) → sign_of s (test_linked (l ∷ ls) x) ≡ false
sign-test_linked s l ls x = sign-test_onto s ls _ (sign-tested s l.operator x (tree_of l.operand))

pub sign-chosen : (s : Scope) (cs : List Choice) (y : pure.Expression) → sign_of s (chosen cs y) ≡ choices_signed s cs && sign_of s y
sign-chosen s [] y = refl
sign-chosen s (c ∷ cs) y =
    ap (λ b. sign_of s (tree_of c.value) && b) (sign-chosen s cs y) ∙ sym (and-assoc (sign_of s (tree_of c.value)) _ _)

sign-prefixed : (s : Scope) (o : PrefixOperator) (x : pure.Expression) → sign_of s (prefixed o x) ≡ not (is_reduction o) && sign_of s x
sign-prefixed s Plus x = refl
sign-prefixed s _ x = refl

pub sign-all_prefixed : (s : Scope) (os : List PrefixOperator) (x : pure.Expression) → sign_of s (all_prefixed os x) ≡ not (has_reduction os) && sign_of s x
sign-all_prefixed s [] x = refl
sign-all_prefixed s (o ∷ os) x =
    sign-prefixed s o (all_prefixed os x) ∙ ap (λ b. not (is_reduction o) && b) (sign-all_prefixed s os x) ∙ not-or (is_reduction o) (has_reduction os) (sign_of s x)
  where
    not-or : (a b c : Bool) → not a && (not b && c) ≡ not (a || b) && c
    not-or true b c = refl
    not-or false b c = refl

-- the signs of the forms that hold chains
pub sign-Prefix : (s : Scope) (os : Vec PrefixOperator Global) (b : Box Expression Global) → sign_of s (tree_of (Prefix os b)) ≡ not (has_reduction os.items) && sign_of s (tree_of b.value)
sign-Prefix s os b = sign-all_prefixed s os.items (tree_of b.value)

pub sign-Binary : (s : Scope) (b : Box Expression Global) (v : Vec BinaryLink Global) → sign_of s (tree_of (Binary b v)) ≡ sign_of s (tree_of b.value) && links_signed s v.items
sign-Binary s b v = ap (sign_of s) (tree_of-Binary b v) ∙ sign-linked s v.items (tree_of b.value)

sign-tests : (s : Scope) (ls : List TestLink) (x : pure.Expression) → sign_of s (test_linked ls x) ≡ has_no_link ls && sign_of s x
sign-tests s [] x = refl
sign-tests s (l ∷ ls) x = sign-test_linked s l ls x

pub sign-Test : (s : Scope) (b : Box Expression Global) (v : Vec TestLink Global) → sign_of s (tree_of (Test b v)) ≡ has_no_link v.items && sign_of s (tree_of b.value)
sign-Test s b v = ap (sign_of s) (tree_of-Test b v) ∙ sign-tests s v.items (tree_of b.value)

pub sign-Conditional : (s : Scope) (v : Vec Choice Global) (b : Box Expression Global) → sign_of s (tree_of (Conditional v b)) ≡ choices_signed s v.items && sign_of s (tree_of b.value)
sign-Conditional s v b = ap (sign_of s) (tree_of-Conditional v b) ∙ sign-chosen s v.items (tree_of b.value)

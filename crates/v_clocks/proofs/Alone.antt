-- Expressions that are the whole of a name, over the code's flat trees.
use Rattle.std.proofs.Common.{◌≡◌, ◌∙◌, refl, ap, sym, Bool, false, ◌&&◌, List, [], ◌∷◌}
use Rattle.std.specs.Prelude.{ℕ}
use Rattle.std.specs.declared.boxed.Box.{Box}
use Rattle.std.specs.declared.vec.Vec.{Vec}
use Rattle.std.specs.declared.alloc.Global.{Global}
use Rattle.std.specs.Borrow.{Bor}
use Rattle.verilog_trees.specs.Syntax as pure
use Rattle.v_syntax.specs.declared.tree.Number.{Number as CodeNumber}
use Rattle.v_syntax.specs.declared.tree.PrefixOperator.{PrefixOperator}
use Rattle.v_syntax.specs.declared.tree.PrefixOperator.TheVariants.{Plus, Minus, Complement, IsZero, AllOnes, NotAllOnes, AnyOne, NoOne, OddOnes, EvenOnes}
use Rattle.v_syntax.specs.declared.tree.BinaryOperator.{BinaryOperator}
use Rattle.v_syntax.specs.declared.tree.BinaryOperator.TheVariants.{Power, Multiply, Divide, Modulo, Add, Subtract, ShiftLeft, ShiftRight, ArithmeticShiftRight, And, Xor, Xnor, Or}
use Rattle.v_syntax.specs.declared.tree.TestOperator.{TestOperator}
use Rattle.v_syntax.specs.declared.tree.TestOperator.TheVariants.{Less, LessOrEqual, Greater, GreaterOrEqual, Equal, NotEqual, Both, Either}
use Rattle.v_syntax.specs.declared.tree.BinaryLink.{BinaryLink}
use Rattle.v_syntax.specs.declared.tree.TestLink.{TestLink}
use Rattle.v_syntax.specs.declared.tree.Choice.{Choice}
use Rattle.v_syntax.specs.declared.tree.Selects.{Selects}
use Rattle.v_syntax.specs.declared.tree.Expression.{Expression, Number, Name, Concatenation, Replication, AsSigned, AsUnsigned, Prefix, Binary, Test, Conditional}
use Rattle.v_syntax.specs.Tree.{tree_of, selects_of, all_prefixed, prefixed, combined, tested}
use Rattle.v_syntax.specs.Chain.{linked, test_linked, chosen}
use Rattle.v_syntax.proofs.Trees.{tree_of-Binary, tree_of-Test, tree_of-Conditional}
use Rattle.v_clocks.specs.Uses.{are_whole, is_whole, is_whole_name}
use Rattle.v_clocks.specs.Views.{are_none}

-- ---- chains: with a link they are not the whole of a name

pub prefixed-none : (o : PrefixOperator) (x : pure.Expression) → is_whole (prefixed o x) ≡ false
prefixed-none Plus x = refl
prefixed-none Minus x = refl
prefixed-none Complement x = refl
prefixed-none IsZero x = refl
prefixed-none AllOnes x = refl
prefixed-none NotAllOnes x = refl
prefixed-none AnyOne x = refl
prefixed-none NoOne x = refl
prefixed-none OddOnes x = refl
prefixed-none EvenOnes x = refl

pub combined-none : (o : BinaryOperator) (x y : pure.Expression) → is_whole (combined o x y) ≡ false
combined-none Power x y = refl
combined-none Multiply x y = refl
combined-none Divide x y = refl
combined-none Modulo x y = refl
combined-none Add x y = refl
combined-none Subtract x y = refl
combined-none ShiftLeft x y = refl
combined-none ShiftRight x y = refl
combined-none ArithmeticShiftRight x y = refl
combined-none And x y = refl
combined-none Xor x y = refl
combined-none Xnor x y = refl
combined-none Or x y = refl

pub tested-none : (o : TestOperator) (x y : pure.Expression) → is_whole (tested o x y) ≡ false
tested-none Less x y = refl
tested-none LessOrEqual x y = refl
tested-none Greater x y = refl
tested-none GreaterOrEqual x y = refl
tested-none Equal x y = refl
tested-none NotEqual x y = refl
tested-none Both x y = refl
tested-none Either x y = refl

pub linked-none : (ls : List BinaryLink) (x : pure.Expression) → is_whole x ≡ false → is_whole (linked ls x) ≡ false
linked-none [] x h = h
linked-none (l ∷ ls) x h = linked-none ls (combined l.operator x (tree_of l.operand)) (combined-none l.operator x (tree_of l.operand))

pub test_linked-none : (ls : List TestLink) (x : pure.Expression) → is_whole x ≡ false → is_whole (test_linked ls x) ≡ false
test_linked-none [] x h = h
test_linked-none (l ∷ ls) x h = test_linked-none ls (tested l.operator x (tree_of l.operand)) (tested-none l.operator x (tree_of l.operand))

none-so : (e : pure.Expression) → is_whole e ≡ false → false ≡ is_whole_name e
unfolding is_whole_name
none-so e h = sym h

whole-prefixed : (os : List PrefixOperator) (x : pure.Expression) → (are_none os && is_whole_name x) ≡ is_whole_name (all_prefixed os x)
whole-prefixed [] x = refl
whole-prefixed (o ∷ os) x = none-so (prefixed o (all_prefixed os x)) (prefixed-none o (all_prefixed os x))

whole-linked : (ls : List BinaryLink) (x : pure.Expression) → (are_none ls && is_whole_name x) ≡ is_whole_name (linked ls x)
whole-linked [] x = refl
whole-linked (l ∷ ls) x =
    none-so (linked ls (combined l.operator x (tree_of l.operand))) (linked-none ls (combined l.operator x (tree_of l.operand)) (combined-none l.operator x (tree_of l.operand)))

whole-test_linked : (ls : List TestLink) (x : pure.Expression) → (are_none ls && is_whole_name x) ≡ is_whole_name (test_linked ls x)
whole-test_linked [] x = refl
whole-test_linked (l ∷ ls) x =
    none-so (test_linked ls (tested l.operator x (tree_of l.operand))) (test_linked-none ls (tested l.operator x (tree_of l.operand)) (tested-none l.operator x (tree_of l.operand)))

whole-chosen : (cs : List Choice) (x : pure.Expression) → (are_none cs && is_whole_name x) ≡ is_whole_name (chosen cs x)
whole-chosen [] x = refl
whole-chosen (c ∷ cs) x = none-so (chosen (c ∷ cs) x) refl

-- ---- e is the expression, and r whether it is the whole of a name

module _ (e : Expression) (r : Bool) where
  pub at-Name : (m : Bor (List ℕ)) (x : Selects) → e ≡ Name m x → r ≡ are_whole (selects_of x) → r ≡ is_whole_name (tree_of e)
  unfolding is_whole_name
  at-Name m x i h = h ∙ sym (ap (λ z. is_whole_name (tree_of z)) i)

  module _ (h : r ≡ false) where
    pub at-Number : (k : CodeNumber) → e ≡ Number k → r ≡ is_whole_name (tree_of e)
    unfolding is_whole_name
    at-Number k i = h ∙ sym (ap (λ z. is_whole_name (tree_of z)) i)

    pub at-Concatenation : (v : Vec Expression Global) → e ≡ Concatenation v → r ≡ is_whole_name (tree_of e)
    unfolding is_whole_name
    at-Concatenation v i = h ∙ sym (ap (λ z. is_whole_name (tree_of z)) i)

    pub at-Replication : (b : Box Expression Global) (v : Vec Expression Global) → e ≡ Replication b v → r ≡ is_whole_name (tree_of e)
    unfolding is_whole_name
    at-Replication b v i = h ∙ sym (ap (λ z. is_whole_name (tree_of z)) i)

    pub at-AsSigned : (b : Box Expression Global) → e ≡ AsSigned b → r ≡ is_whole_name (tree_of e)
    unfolding is_whole_name
    at-AsSigned b i = h ∙ sym (ap (λ z. is_whole_name (tree_of z)) i)

    pub at-AsUnsigned : (b : Box Expression Global) → e ≡ AsUnsigned b → r ≡ is_whole_name (tree_of e)
    unfolding is_whole_name
    at-AsUnsigned b i = h ∙ sym (ap (λ z. is_whole_name (tree_of z)) i)

  -- x is the operand, and k whether it is the whole of a name
  module _ (b : Box Expression Global) (x : Expression) (j : x ≡ b.value) (k : Bool) (is_k : k ≡ is_whole_name (tree_of x)) where
    operand : k ≡ is_whole_name (tree_of b.value)
    operand = is_k ∙ ap (λ z. is_whole_name (tree_of z)) j

    pub at-Prefix : (v : Vec PrefixOperator Global) → e ≡ Prefix v b → (os : List PrefixOperator) → os ≡ v.items → r ≡ (are_none os && k) → r ≡ is_whole_name (tree_of e)
    at-Prefix v i os l h =
        h ∙ ap (λ z. are_none z && k) l ∙ ap (λ z. are_none v.items && z) operand ∙ whole-prefixed v.items (tree_of b.value) ∙ sym (ap (λ z. is_whole_name (tree_of z)) i)

    pub at-Binary : (v : Vec BinaryLink Global) → e ≡ Binary b v → (ls : List BinaryLink) → ls ≡ v.items → r ≡ (are_none ls && k) → r ≡ is_whole_name (tree_of e)
    at-Binary v i ls l h =
        h ∙ ap (λ z. are_none z && k) l ∙ ap (λ z. are_none v.items && z) operand ∙ whole-linked v.items (tree_of b.value) ∙ sym (ap is_whole_name (ap tree_of i ∙ tree_of-Binary b v))

    pub at-Test : (v : Vec TestLink Global) → e ≡ Test b v → (ls : List TestLink) → ls ≡ v.items → r ≡ (are_none ls && k) → r ≡ is_whole_name (tree_of e)
    at-Test v i ls l h =
        h ∙ ap (λ z. are_none z && k) l ∙ ap (λ z. are_none v.items && z) operand ∙ whole-test_linked v.items (tree_of b.value) ∙ sym (ap is_whole_name (ap tree_of i ∙ tree_of-Test b v))

    pub at-Conditional : (v : Vec Choice Global) → e ≡ Conditional v b → (cs : List Choice) → cs ≡ v.items → r ≡ (are_none cs && k) → r ≡ is_whole_name (tree_of e)
    at-Conditional v i cs l h =
        h ∙ ap (λ z. are_none z && k) l ∙ ap (λ z. are_none v.items && z) operand ∙ whole-chosen v.items (tree_of b.value) ∙ sym (ap is_whole_name (ap tree_of i ∙ tree_of-Conditional v b))

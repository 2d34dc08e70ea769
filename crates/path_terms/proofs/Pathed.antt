-- The term of a name that stands whole as an expression.
use Rattle.std.proofs.Common.{◌≡◌, ◌∙◌, refl, ap, sym, ℕ, cond, List, [], ◌∷◌, Option, None}
use Rattle.std.specs.declared.boxed.Box.{Box}
use Rattle.std.specs.declared.vec.Vec.{Vec}
use Rattle.std.specs.declared.alloc.Global.{Global}
use Rattle.std.specs.Borrow.{Bor}
use Rattle.verilog_trees.specs.Syntax as pure
use Rattle.v_syntax.specs.declared.tree.Number.{Number as CodeNumber}
use Rattle.v_syntax.specs.declared.tree.PrefixOperator.{PrefixOperator}
use Rattle.v_syntax.specs.declared.tree.PrefixOperator.TheVariants.{Plus, Minus, Complement, IsZero, AllOnes, NotAllOnes, AnyOne, NoOne, OddOnes, EvenOnes}
use Rattle.v_syntax.specs.declared.tree.BinaryOperator.{BinaryOperator}
use Rattle.v_syntax.specs.declared.tree.BinaryOperator.TheVariants.{Power, Multiply, Divide, Modulo, Add, Subtract, ShiftLeft, ShiftRight, ArithmeticShiftRight, And, Xor, Xnor, Or}
use Rattle.v_syntax.specs.declared.tree.TestOperator.{TestOperator}
use Rattle.v_syntax.specs.declared.tree.TestOperator.TheVariants.{Less, LessOrEqual, Greater, GreaterOrEqual, Equal, NotEqual, Both, Either}
use Rattle.v_syntax.specs.declared.tree.BinaryLink.{BinaryLink}
use Rattle.v_syntax.specs.declared.tree.TestLink.{TestLink}
use Rattle.v_syntax.specs.declared.tree.Choice.{Choice}
use Rattle.v_syntax.specs.declared.tree.Selects.{Selects}
use Rattle.v_syntax.specs.declared.tree.Expression.{Expression, Number, Name, Concatenation, Replication, AsSigned, AsUnsigned, Prefix, Binary, Test, Conditional}
use Rattle.v_syntax.specs.Tree.{tree_of, all_prefixed, prefixed, combined, tested}
use Rattle.v_syntax.specs.Chain.{linked, test_linked, chosen}
use Rattle.v_syntax.proofs.Trees.{tree_of-Binary, tree_of-Test, tree_of-Conditional}
use Rattle.v_lower.specs.Lowered.{Images}
use Rattle.path_terms.specs.Mapped.{named_term, stands_alone}

module _ (a : Images) where
  -- ---- chains

  prefixed-none : (o : PrefixOperator) (x : pure.Expression) → named_term a (prefixed o x) ≡ None
  prefixed-none Plus x = refl
  prefixed-none Minus x = refl
  prefixed-none Complement x = refl
  prefixed-none IsZero x = refl
  prefixed-none AllOnes x = refl
  prefixed-none NotAllOnes x = refl
  prefixed-none AnyOne x = refl
  prefixed-none NoOne x = refl
  prefixed-none OddOnes x = refl
  prefixed-none EvenOnes x = refl

  combined-none : (o : BinaryOperator) (x y : pure.Expression) → named_term a (combined o x y) ≡ None
  combined-none Power x y = refl
  combined-none Multiply x y = refl
  combined-none Divide x y = refl
  combined-none Modulo x y = refl
  combined-none Add x y = refl
  combined-none Subtract x y = refl
  combined-none ShiftLeft x y = refl
  combined-none ShiftRight x y = refl
  combined-none ArithmeticShiftRight x y = refl
  combined-none And x y = refl
  combined-none Xor x y = refl
  combined-none Xnor x y = refl
  combined-none Or x y = refl

  tested-none : (o : TestOperator) (x y : pure.Expression) → named_term a (tested o x y) ≡ None
  tested-none Less x y = refl
  tested-none LessOrEqual x y = refl
  tested-none Greater x y = refl
  tested-none GreaterOrEqual x y = refl
  tested-none Equal x y = refl
  tested-none NotEqual x y = refl
  tested-none Both x y = refl
  tested-none Either x y = refl

  linked-none : (ls : List BinaryLink) (x : pure.Expression) → named_term a x ≡ None → named_term a (linked ls x) ≡ None
  linked-none [] x h = h
  linked-none (l ∷ ls) x h = linked-none ls (combined l.operator x (tree_of l.operand)) (combined-none l.operator x (tree_of l.operand))

  test_linked-none : (ls : List TestLink) (x : pure.Expression) → named_term a x ≡ None → named_term a (test_linked ls x) ≡ None
  test_linked-none [] x h = h
  test_linked-none (l ∷ ls) x h = test_linked-none ls (tested l.operator x (tree_of l.operand)) (tested-none l.operator x (tree_of l.operand))

  term-prefixed : (os : List PrefixOperator) (x : pure.Expression) → cond (stands_alone os) (named_term a x) None ≡ named_term a (all_prefixed os x)
  term-prefixed [] x = refl
  term-prefixed (o ∷ os) x = sym (prefixed-none o (all_prefixed os x))

  term-linked : (ls : List BinaryLink) (x : pure.Expression) → cond (stands_alone ls) (named_term a x) None ≡ named_term a (linked ls x)
  term-linked [] x = refl
  term-linked (l ∷ ls) x = sym (linked-none ls (combined l.operator x (tree_of l.operand)) (combined-none l.operator x (tree_of l.operand)))

  term-test_linked : (ls : List TestLink) (x : pure.Expression) → cond (stands_alone ls) (named_term a x) None ≡ named_term a (test_linked ls x)
  term-test_linked [] x = refl
  term-test_linked (l ∷ ls) x = sym (test_linked-none ls (tested l.operator x (tree_of l.operand)) (tested-none l.operator x (tree_of l.operand)))

  term-chosen : (cs : List Choice) (x : pure.Expression) → cond (stands_alone cs) (named_term a x) None ≡ named_term a (chosen cs x)
  term-chosen [] x = refl
  term-chosen (c ∷ cs) x = refl

  -- e is the expression, and r the term of the name that it is, if it is one
  module _ (e : Expression) (r : Option ℕ) where
    pub at-Name : (m : Bor (List ℕ)) (x : Selects) → e ≡ Name m x → r ≡ a m.now → r ≡ named_term a (tree_of e)
    at-Name m x i h = h ∙ sym (ap (λ z. named_term a (tree_of z)) i)

    module _ (h : r ≡ None) where
      pub at-Number : (k : CodeNumber) → e ≡ Number k → r ≡ named_term a (tree_of e)
      at-Number k i = h ∙ sym (ap (λ z. named_term a (tree_of z)) i)

      pub at-Concatenation : (v : Vec Expression Global) → e ≡ Concatenation v → r ≡ named_term a (tree_of e)
      at-Concatenation v i = h ∙ sym (ap (λ z. named_term a (tree_of z)) i)

      pub at-Replication : (b : Box Expression Global) (v : Vec Expression Global) → e ≡ Replication b v → r ≡ named_term a (tree_of e)
      at-Replication b v i = h ∙ sym (ap (λ z. named_term a (tree_of z)) i)

      pub at-AsSigned : (b : Box Expression Global) → e ≡ AsSigned b → r ≡ named_term a (tree_of e)
      at-AsSigned b i = h ∙ sym (ap (λ z. named_term a (tree_of z)) i)

      pub at-AsUnsigned : (b : Box Expression Global) → e ≡ AsUnsigned b → r ≡ named_term a (tree_of e)
      at-AsUnsigned b i = h ∙ sym (ap (λ z. named_term a (tree_of z)) i)

    -- x is the operand, and k its term
    module _ (b : Box Expression Global) (x : Expression) (j : x ≡ b.value) (k : Option ℕ) (is_k : k ≡ named_term a (tree_of x)) where
      operand : k ≡ named_term a (tree_of b.value)
      operand = is_k ∙ ap (λ z. named_term a (tree_of z)) j

      pub at-Prefix : (v : Vec PrefixOperator Global) → e ≡ Prefix v b → (os : List PrefixOperator) → os ≡ v.items → r ≡ cond (stands_alone os) k None → r ≡ named_term a (tree_of e)
      at-Prefix v i os l h =
          h ∙ ap (λ z. cond (stands_alone z) k None) l ∙ ap (λ z. cond (stands_alone v.items) z None) operand ∙ term-prefixed v.items (tree_of b.value) ∙ sym (ap (λ z. named_term a (tree_of z)) i)

      pub at-Binary : (v : Vec BinaryLink Global) → e ≡ Binary b v → (ls : List BinaryLink) → ls ≡ v.items → r ≡ cond (stands_alone ls) k None → r ≡ named_term a (tree_of e)
      at-Binary v i ls l h =
          h ∙ ap (λ z. cond (stands_alone z) k None) l ∙ ap (λ z. cond (stands_alone v.items) z None) operand ∙ term-linked v.items (tree_of b.value)
          ∙ sym (ap (named_term a) (ap tree_of i ∙ tree_of-Binary b v))

      pub at-Test : (v : Vec TestLink Global) → e ≡ Test b v → (ls : List TestLink) → ls ≡ v.items → r ≡ cond (stands_alone ls) k None → r ≡ named_term a (tree_of e)
      at-Test v i ls l h =
          h ∙ ap (λ z. cond (stands_alone z) k None) l ∙ ap (λ z. cond (stands_alone v.items) z None) operand ∙ term-test_linked v.items (tree_of b.value)
          ∙ sym (ap (named_term a) (ap tree_of i ∙ tree_of-Test b v))

      pub at-Conditional : (v : Vec Choice Global) → e ≡ Conditional v b → (cs : List Choice) → cs ≡ v.items → r ≡ cond (stands_alone cs) k None → r ≡ named_term a (tree_of e)
      at-Conditional v i cs l h =
          h ∙ ap (λ z. cond (stands_alone z) k None) l ∙ ap (λ z. cond (stands_alone v.items) z None) operand ∙ term-chosen v.items (tree_of b.value)
          ∙ sym (ap (named_term a) (ap tree_of i ∙ tree_of-Conditional v b))

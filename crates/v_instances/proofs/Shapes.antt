-- Expressions that are targets as well, over the code's flat trees.
use Rattle.std.proofs.Common.{◌≡◌, ◌∙◌, refl, ap, sym, Bool, true, false, ◌&&◌, List, [], ◌∷◌, Option, Some, None, option_map}
use Rattle.std.specs.Prelude.{ℕ, is_some, option_and_then}
use Rattle.std.specs.declared.boxed.Box.{Box}
use Rattle.std.specs.declared.vec.Vec.{Vec}
use Rattle.std.specs.declared.alloc.Global.{Global}
use Rattle.std.specs.Borrow.{Bor}
use Rattle.verilog_trees.specs.Syntax as pure
use Rattle.verilog_meaning.specs.Settled.{as_target, all_as_targets}
use Rattle.v_syntax.specs.declared.tree.Number.{Number as CodeNumber}
use Rattle.v_syntax.specs.declared.tree.PrefixOperator.{PrefixOperator}
use Rattle.v_syntax.specs.declared.tree.PrefixOperator.TheVariants.{Plus, Minus, Complement, IsZero, AllOnes, NotAllOnes, AnyOne, NoOne, OddOnes, EvenOnes}
use Rattle.v_syntax.specs.declared.tree.BinaryOperator.{BinaryOperator}
use Rattle.v_syntax.specs.declared.tree.BinaryOperator.TheVariants.{Power, Multiply, Divide, Modulo, Add, Subtract, ShiftLeft, ShiftRight, ArithmeticShiftRight, And, Xor, Xnor, Or}
use Rattle.v_syntax.specs.declared.tree.TestOperator.{TestOperator}
use Rattle.v_syntax.specs.declared.tree.TestOperator.TheVariants.{Less, LessOrEqual, Greater, GreaterOrEqual, Equal, NotEqual, Both, Either}
use Rattle.v_syntax.specs.declared.tree.BinaryLink.{BinaryLink}
use Rattle.v_syntax.specs.declared.tree.TestLink.{TestLink}
use Rattle.v_syntax.specs.declared.tree.Choice.{Choice}
use Rattle.v_syntax.specs.declared.tree.Selects.{Selects}
use Rattle.v_syntax.specs.declared.tree.Expression.{Expression, Number, Name, Concatenation, Replication, AsSigned, AsUnsigned, Prefix, Binary, Test, Conditional}
use Rattle.v_syntax.specs.Tree.{tree_of, all_prefixed, prefixed, combined, tested, expressions_of}
use Rattle.v_syntax.specs.Chain.{linked, test_linked, chosen}
use Rattle.v_syntax.proofs.Trees.{tree_of-Concatenation, tree_of-Binary, tree_of-Test, tree_of-Conditional}
use Rattle.v_instances.specs.Connections.{is_target, are_targets, are_none}

-- ---- chains: with a link they are no target

pub prefixed-none : (o : PrefixOperator) (x : pure.Expression) → as_target (prefixed o x) ≡ None
prefixed-none Plus x = refl
prefixed-none Minus x = refl
prefixed-none Complement x = refl
prefixed-none IsZero x = refl
prefixed-none AllOnes x = refl
prefixed-none NotAllOnes x = refl
prefixed-none AnyOne x = refl
prefixed-none NoOne x = refl
prefixed-none OddOnes x = refl
prefixed-none EvenOnes x = refl

pub combined-none : (o : BinaryOperator) (x y : pure.Expression) → as_target (combined o x y) ≡ None
combined-none Power x y = refl
combined-none Multiply x y = refl
combined-none Divide x y = refl
combined-none Modulo x y = refl
combined-none Add x y = refl
combined-none Subtract x y = refl
combined-none ShiftLeft x y = refl
combined-none ShiftRight x y = refl
combined-none ArithmeticShiftRight x y = refl
combined-none And x y = refl
combined-none Xor x y = refl
combined-none Xnor x y = refl
combined-none Or x y = refl

pub tested-none : (o : TestOperator) (x y : pure.Expression) → as_target (tested o x y) ≡ None
tested-none Less x y = refl
tested-none LessOrEqual x y = refl
tested-none Greater x y = refl
tested-none GreaterOrEqual x y = refl
tested-none Equal x y = refl
tested-none NotEqual x y = refl
tested-none Both x y = refl
tested-none Either x y = refl

pub linked-none : (ls : List BinaryLink) (x : pure.Expression) → as_target x ≡ None → as_target (linked ls x) ≡ None
linked-none [] x h = h
linked-none (l ∷ ls) x h = linked-none ls (combined l.operator x (tree_of l.operand)) (combined-none l.operator x (tree_of l.operand))

pub test_linked-none : (ls : List TestLink) (x : pure.Expression) → as_target x ≡ None → as_target (test_linked ls x) ≡ None
test_linked-none [] x h = h
test_linked-none (l ∷ ls) x h = test_linked-none ls (tested l.operator x (tree_of l.operand)) (tested-none l.operator x (tree_of l.operand))

none-so : (e : pure.Expression) → as_target e ≡ None → false ≡ is_target e
unfolding is_target
none-so e h = sym (ap is_some h)

target-prefixed : (os : List PrefixOperator) (x : pure.Expression) → (are_none os && is_target x) ≡ is_target (all_prefixed os x)
target-prefixed [] x = refl
target-prefixed (o ∷ os) x = none-so (prefixed o (all_prefixed os x)) (prefixed-none o (all_prefixed os x))

target-linked : (ls : List BinaryLink) (x : pure.Expression) → (are_none ls && is_target x) ≡ is_target (linked ls x)
target-linked [] x = refl
target-linked (l ∷ ls) x =
    none-so (linked ls (combined l.operator x (tree_of l.operand))) (linked-none ls (combined l.operator x (tree_of l.operand)) (combined-none l.operator x (tree_of l.operand)))

target-test_linked : (ls : List TestLink) (x : pure.Expression) → (are_none ls && is_target x) ≡ is_target (test_linked ls x)
target-test_linked [] x = refl
target-test_linked (l ∷ ls) x =
    none-so (test_linked ls (tested l.operator x (tree_of l.operand))) (test_linked-none ls (tested l.operator x (tree_of l.operand)) (tested-none l.operator x (tree_of l.operand)))

target-chosen : (cs : List Choice) (x : pure.Expression) → (are_none cs && is_target x) ≡ is_target (chosen cs x)
target-chosen [] x = refl
target-chosen (c ∷ cs) x = none-so (chosen (c ∷ cs) x) refl

-- ---- parts side by side

both-some : {A B C : Type 0} (f : A → B → C) (x : Option A) (y : Option B) → is_some (option_and_then (λ t. option_map (f t) y) x) ≡ (is_some x && is_some y)
both-some f None y = refl
both-some f (Some t) None = refl
both-some f (Some t) (Some u) = refl

some-mapped : {A B : Type 0} (f : A → B) (x : Option A) → is_some x ≡ is_some (option_map f x)
some-mapped f None = refl
some-mapped f (Some t) = refl

parts-so : (es : List Expression) → are_targets es ≡ is_some (all_as_targets (expressions_of es))
unfolding is_target
parts-so [] = refl
parts-so (e ∷ es) =
    ap (λ b. is_some (as_target (tree_of e)) && b) (parts-so es) ∙ sym (both-some pure.target (as_target (tree_of e)) (all_as_targets (expressions_of es)))

target-parts : (es : List Expression) → are_targets es ≡ is_target (pure.concatenation (expressions_of es))
unfolding is_target
target-parts es = parts-so es ∙ some-mapped pure.joined (all_as_targets (expressions_of es))

-- ---- e is the expression, and r whether it is a target

module _ (e : Expression) (r : Bool) where
  pub at-Name : r ≡ true → (m : Bor (List ℕ)) (x : Selects) → e ≡ Name m x → r ≡ is_target (tree_of e)
  unfolding is_target
  at-Name h m x i = h ∙ sym (ap (λ z. is_target (tree_of z)) i)

  pub at-Concatenation : (v : Vec Expression Global) → e ≡ Concatenation v → (es : List Expression) → es ≡ v.items → r ≡ are_targets es → r ≡ is_target (tree_of e)
  at-Concatenation v i es j h = h ∙ ap are_targets j ∙ target-parts v.items ∙ sym (ap is_target (ap tree_of i ∙ tree_of-Concatenation v))

  module _ (h : r ≡ false) where
    pub at-Number : (k : CodeNumber) → e ≡ Number k → r ≡ is_target (tree_of e)
    unfolding is_target
    at-Number k i = h ∙ sym (ap (λ z. is_target (tree_of z)) i)

    pub at-Replication : (b : Box Expression Global) (v : Vec Expression Global) → e ≡ Replication b v → r ≡ is_target (tree_of e)
    unfolding is_target
    at-Replication b v i = h ∙ sym (ap (λ z. is_target (tree_of z)) i)

    pub at-AsSigned : (b : Box Expression Global) → e ≡ AsSigned b → r ≡ is_target (tree_of e)
    unfolding is_target
    at-AsSigned b i = h ∙ sym (ap (λ z. is_target (tree_of z)) i)

    pub at-AsUnsigned : (b : Box Expression Global) → e ≡ AsUnsigned b → r ≡ is_target (tree_of e)
    unfolding is_target
    at-AsUnsigned b i = h ∙ sym (ap (λ z. is_target (tree_of z)) i)

  -- x is the operand, and k whether it is a target
  module _ (b : Box Expression Global) (x : Expression) (j : x ≡ b.value) (k : Bool) (is_k : k ≡ is_target (tree_of x)) where
    operand : k ≡ is_target (tree_of b.value)
    operand = is_k ∙ ap (λ z. is_target (tree_of z)) j

    pub at-Prefix : (v : Vec PrefixOperator Global) → e ≡ Prefix v b → (os : List PrefixOperator) → os ≡ v.items → r ≡ (are_none os && k) → r ≡ is_target (tree_of e)
    at-Prefix v i os l h =
        h ∙ ap (λ z. are_none z && k) l ∙ ap (λ z. are_none v.items && z) operand ∙ target-prefixed v.items (tree_of b.value) ∙ sym (ap (λ z. is_target (tree_of z)) i)

    pub at-Binary : (v : Vec BinaryLink Global) → e ≡ Binary b v → (ls : List BinaryLink) → ls ≡ v.items → r ≡ (are_none ls && k) → r ≡ is_target (tree_of e)
    at-Binary v i ls l h =
        h ∙ ap (λ z. are_none z && k) l ∙ ap (λ z. are_none v.items && z) operand ∙ target-linked v.items (tree_of b.value) ∙ sym (ap is_target (ap tree_of i ∙ tree_of-Binary b v))

    pub at-Test : (v : Vec TestLink Global) → e ≡ Test b v → (ls : List TestLink) → ls ≡ v.items → r ≡ (are_none ls && k) → r ≡ is_target (tree_of e)
    at-Test v i ls l h =
        h ∙ ap (λ z. are_none z && k) l ∙ ap (λ z. are_none v.items && z) operand ∙ target-test_linked v.items (tree_of b.value) ∙ sym (ap is_target (ap tree_of i ∙ tree_of-Test b v))

    pub at-Conditional : (v : Vec Choice Global) → e ≡ Conditional v b → (cs : List Choice) → cs ≡ v.items → r ≡ (are_none cs && k) → r ≡ is_target (tree_of e)
    at-Conditional v i cs l h =
        h ∙ ap (λ z. are_none z && k) l ∙ ap (λ z. are_none v.items && z) operand ∙ target-chosen v.items (tree_of b.value) ∙ sym (ap is_target (ap tree_of i ∙ tree_of-Conditional v b))

-- Expressions that are numbers as a whole, and items of a case.
use Rattle.std.proofs.Common.{◌≡◌, ◌∙◌, refl, ap, sym, Bool, true, false, cond, not, ◌&&◌, List, [], ◌∷◌, Option, Some, None, is_some}
use Rattle.std.specs.Prelude.{ℕ, ℤ, unwrap_or}
use Rattle.std.proofs.lemmas.Bool.{false≢true}
use Rattle.std.specs.declared.boxed.Box.{Box}
use Rattle.std.specs.declared.vec.Vec.{Vec}
use Rattle.std.specs.declared.alloc.Global.{Global}
use Rattle.std.specs.Borrow.{Bor}
use Rattle.verilog_trees.specs.Syntax as pure
use Rattle.verilog_trees.specs.Syntax.{number, name, concatenation, replication, as_signed, as_unsigned, unary, reduction, binary, shift, power, comparison, logical, conditional, CaseKind, exact_case, wild_case}
use Rattle.verilog_meaning.specs.Expression.{Scope}
use Rattle.verilog_rules.specs.Expression as rules
use Rattle.verilog_designs.specs.Expressions as designs
use Rattle.v_syntax.specs.declared.tree.Number.{Number as CodeNumber}
use Rattle.v_syntax.specs.declared.tree.PrefixOperator.{PrefixOperator}
use Rattle.v_syntax.specs.declared.tree.PrefixOperator.TheVariants.{Plus, Minus, Complement, IsZero, AllOnes, NotAllOnes, AnyOne, NoOne, OddOnes, EvenOnes}
use Rattle.v_syntax.specs.declared.tree.BinaryOperator.{BinaryOperator}
use Rattle.v_syntax.specs.declared.tree.BinaryOperator.TheVariants.{Power, Multiply, Divide, Modulo, Add, Subtract, ShiftLeft, ShiftRight, ArithmeticShiftRight, And, Xor, Xnor, Or}
use Rattle.v_syntax.specs.declared.tree.TestOperator.{TestOperator}
use Rattle.v_syntax.specs.declared.tree.TestOperator.TheVariants.{Less, LessOrEqual, Greater, GreaterOrEqual, Equal, NotEqual, Both, Either}
use Rattle.v_syntax.specs.declared.tree.BinaryLink.{BinaryLink}
use Rattle.v_syntax.specs.declared.tree.TestLink.{TestLink}
use Rattle.v_syntax.specs.declared.tree.Choice.{Choice}
use Rattle.v_syntax.specs.declared.tree.Selects.{Selects}
use Rattle.v_syntax.specs.declared.tree.Expression.{Expression, Number, Name, Concatenation, Replication, AsSigned, AsUnsigned, Prefix, Binary, Test, Conditional}
use Rattle.v_syntax.specs.Tree.{tree_of, number_of, all_prefixed, prefixed, combined, tested}
use Rattle.v_syntax.specs.Chain.{linked, test_linked, chosen}
use Rattle.v_syntax.proofs.Trees.{tree_of-Binary, tree_of-Test, tree_of-Conditional}
use Rattle.v_size.specs.declared.rule.Broken.{Broken}
use Rattle.v_size.specs.Rule.{coded, both}
use Rattle.v_rules.specs.Judging.{bound_at, number_in, number_alone, are_none, judged_number, value_at}

-- ---- chains

prefixed-none : (o : PrefixOperator) (x : pure.Expression) → number_in (prefixed o x) ≡ None
prefixed-none Plus x = refl
prefixed-none Minus x = refl
prefixed-none Complement x = refl
prefixed-none IsZero x = refl
prefixed-none AllOnes x = refl
prefixed-none NotAllOnes x = refl
prefixed-none AnyOne x = refl
prefixed-none NoOne x = refl
prefixed-none OddOnes x = refl
prefixed-none EvenOnes x = refl

combined-none : (o : BinaryOperator) (x y : pure.Expression) → number_in (combined o x y) ≡ None
combined-none Power x y = refl
combined-none Multiply x y = refl
combined-none Divide x y = refl
combined-none Modulo x y = refl
combined-none Add x y = refl
combined-none Subtract x y = refl
combined-none ShiftLeft x y = refl
combined-none ShiftRight x y = refl
combined-none ArithmeticShiftRight x y = refl
combined-none And x y = refl
combined-none Xor x y = refl
combined-none Xnor x y = refl
combined-none Or x y = refl

tested-none : (o : TestOperator) (x y : pure.Expression) → number_in (tested o x y) ≡ None
tested-none Less x y = refl
tested-none LessOrEqual x y = refl
tested-none Greater x y = refl
tested-none GreaterOrEqual x y = refl
tested-none Equal x y = refl
tested-none NotEqual x y = refl
tested-none Both x y = refl
tested-none Either x y = refl

linked-none : (ls : List BinaryLink) (x : pure.Expression) → number_in x ≡ None → number_in (linked ls x) ≡ None
linked-none [] x h = h
linked-none (l ∷ ls) x h = linked-none ls (combined l.operator x (tree_of l.operand)) (combined-none l.operator x (tree_of l.operand))

test_linked-none : (ls : List TestLink) (x : pure.Expression) → number_in x ≡ None → number_in (test_linked ls x) ≡ None
test_linked-none [] x h = h
test_linked-none (l ∷ ls) x h = test_linked-none ls (tested l.operator x (tree_of l.operand)) (tested-none l.operator x (tree_of l.operand))

number-prefixed : (os : List PrefixOperator) (x : pure.Expression) → number_alone (are_none os) (number_in x) ≡ number_in (all_prefixed os x)
number-prefixed [] x = refl
number-prefixed (o ∷ os) x = sym (prefixed-none o (all_prefixed os x))

number-linked : (ls : List BinaryLink) (x : pure.Expression) → number_alone (are_none ls) (number_in x) ≡ number_in (linked ls x)
number-linked [] x = refl
number-linked (l ∷ ls) x = sym (linked-none ls (combined l.operator x (tree_of l.operand)) (combined-none l.operator x (tree_of l.operand)))

number-test_linked : (ls : List TestLink) (x : pure.Expression) → number_alone (are_none ls) (number_in x) ≡ number_in (test_linked ls x)
number-test_linked [] x = refl
number-test_linked (l ∷ ls) x = sym (test_linked-none ls (tested l.operator x (tree_of l.operand)) (tested-none l.operator x (tree_of l.operand)))

number-chosen : (cs : List Choice) (x : pure.Expression) → number_alone (are_none cs) (number_in x) ≡ number_in (chosen cs x)
number-chosen [] x = refl
number-chosen (c ∷ cs) x = refl

-- e is the expression, and r the number that it is as a whole, if it is one
module _ (e : Expression) (r : Option pure.Number) where
  pub at-Number : (k : CodeNumber) → e ≡ Number k → r ≡ Some (number_of k) → r ≡ number_in (tree_of e)
  at-Number k i h = h ∙ sym (ap (λ z. number_in (tree_of z)) i)

  module _ (h : r ≡ None) where
    pub at-Name : (m : Bor (List ℕ)) (x : Selects) → e ≡ Name m x → r ≡ number_in (tree_of e)
    at-Name m x i = h ∙ sym (ap (λ z. number_in (tree_of z)) i)

    pub at-Concatenation : (v : Vec Expression Global) → e ≡ Concatenation v → r ≡ number_in (tree_of e)
    at-Concatenation v i = h ∙ sym (ap (λ z. number_in (tree_of z)) i)

    pub at-Replication : (b : Box Expression Global) (v : Vec Expression Global) → e ≡ Replication b v → r ≡ number_in (tree_of e)
    at-Replication b v i = h ∙ sym (ap (λ z. number_in (tree_of z)) i)

    pub at-AsSigned : (b : Box Expression Global) → e ≡ AsSigned b → r ≡ number_in (tree_of e)
    at-AsSigned b i = h ∙ sym (ap (λ z. number_in (tree_of z)) i)

    pub at-AsUnsigned : (b : Box Expression Global) → e ≡ AsUnsigned b → r ≡ number_in (tree_of e)
    at-AsUnsigned b i = h ∙ sym (ap (λ z. number_in (tree_of z)) i)

  -- x is the operand, and k the number that it is
  module _ (b : Box Expression Global) (x : Expression) (j : x ≡ b.value) (k : Option pure.Number) (is_k : k ≡ number_in (tree_of x)) where
    operand : k ≡ number_in (tree_of b.value)
    operand = is_k ∙ ap (λ z. number_in (tree_of z)) j

    pub at-Prefix : (v : Vec PrefixOperator Global) → e ≡ Prefix v b → (os : List PrefixOperator) → os ≡ v.items → r ≡ number_alone (are_none os) k → r ≡ number_in (tree_of e)
    at-Prefix v i os l h =
        h ∙ ap (λ z. number_alone (are_none z) k) l ∙ ap (number_alone (are_none v.items)) operand ∙ number-prefixed v.items (tree_of b.value) ∙ sym (ap (λ z. number_in (tree_of z)) i)

    pub at-Binary : (v : Vec BinaryLink Global) → e ≡ Binary b v → (ls : List BinaryLink) → ls ≡ v.items → r ≡ number_alone (are_none ls) k → r ≡ number_in (tree_of e)
    at-Binary v i ls l h =
        h ∙ ap (λ z. number_alone (are_none z) k) l ∙ ap (number_alone (are_none v.items)) operand ∙ number-linked v.items (tree_of b.value)
        ∙ sym (ap number_in (ap tree_of i ∙ tree_of-Binary b v))

    pub at-Test : (v : Vec TestLink Global) → e ≡ Test b v → (ls : List TestLink) → ls ≡ v.items → r ≡ number_alone (are_none ls) k → r ≡ number_in (tree_of e)
    at-Test v i ls l h =
        h ∙ ap (λ z. number_alone (are_none z) k) l ∙ ap (number_alone (are_none v.items)) operand ∙ number-test_linked v.items (tree_of b.value)
        ∙ sym (ap number_in (ap tree_of i ∙ tree_of-Test b v))

    pub at-Conditional : (v : Vec Choice Global) → e ≡ Conditional v b → (cs : List Choice) → cs ≡ v.items → r ≡ number_alone (are_none cs) k → r ≡ number_in (tree_of e)
    at-Conditional v i cs l h =
        h ∙ ap (λ z. number_alone (are_none z) k) l ∙ ap (number_alone (are_none v.items)) operand ∙ number-chosen v.items (tree_of b.value)
        ∙ sym (ap number_in (ap tree_of i ∙ tree_of-Conditional v b))

-- ---- items of a case

none-some : (k : pure.Number) → None ≡ Some k → ⊥
none-some k h = false≢true (ap is_some h)

whole-number : (e : pure.Expression) (k : pure.Number) → number_in e ≡ Some k → e ≡ number k
whole-number (number j) k h = ap (λ o. number (unwrap_or o k)) h
whole-number (name n x) k h = absurd (none-some k h)
whole-number (concatenation es) k h = absurd (none-some k h)
whole-number (replication c es) k h = absurd (none-some k h)
whole-number (as_signed x) k h = absurd (none-some k h)
whole-number (as_unsigned x) k h = absurd (none-some k h)
whole-number (unary op x) k h = absurd (none-some k h)
whole-number (reduction op x) k h = absurd (none-some k h)
whole-number (binary op x y) k h = absurd (none-some k h)
whole-number (shift op x n) k h = absurd (none-some k h)
whole-number (power x n) k h = absurd (none-some k h)
whole-number (comparison op x y) k h = absurd (none-some k h)
whole-number (logical op x y) k h = absurd (none-some k h)
whole-number (conditional c x y) k h = absurd (none-some k h)

item-as-it-is : (kind : CaseKind) (e : pure.Expression) → number_in e ≡ None → designs.judged_item kind e ≡ e
item-as-it-is kind (number j) h = absurd (none-some j (sym h))
item-as-it-is kind (name n x) h = refl
item-as-it-is kind (concatenation es) h = refl
item-as-it-is kind (replication c es) h = refl
item-as-it-is kind (as_signed x) h = refl
item-as-it-is kind (as_unsigned x) h = refl
item-as-it-is kind (unary op x) h = refl
item-as-it-is kind (reduction op x) h = refl
item-as-it-is kind (binary op x y) h = refl
item-as-it-is kind (shift op x n) h = refl
item-as-it-is kind (power x n) h = refl
item-as-it-is kind (comparison op x y) h = refl
item-as-it-is kind (logical op x y) h = refl
item-as-it-is kind (conditional c x y) h = refl

and-true : (b : Bool) → b && true ≡ b
and-true true = refl
and-true false = refl

and-false : (b : Bool) → b && false ≡ false
and-false true = refl
and-false false = refl

-- w says whether wild digits may stand in the number
judged-by : (k : pure.Number) (w : Bool) → cond w (record k { has_wild = false }) k ≡ record k { has_wild = k.has_wild && not w }
judged-by k true = λ i. record k { has_wild = sym (and-false k.has_wild) i }
judged-by k false = λ i. record k { has_wild = sym (and-true k.has_wild) i }

item-number : (kind : CaseKind) (k : pure.Number) → designs.judged_item kind (number k) ≡ number (judged_number kind k)
item-number exact_case k = refl
item-number wild_case k = ap number (judged-by k (k.sized && not k.signed))

pub value-number : (s : Scope) (kind : CaseKind) (e : pure.Expression) (k : pure.Number) → number_in e ≡ Some k
    → coded (rules.broken s rules.anywhere (number (judged_number kind k))) ≡ value_at s kind e
unfolding value_at
value-number s kind e k h =
    ap (λ z. coded (rules.broken s rules.anywhere z)) (sym (item-number kind k)) ∙ ap (λ z. coded (rules.broken s rules.anywhere (designs.judged_item kind z))) (sym (whole-number e k h))

pub value-other : (s : Scope) (kind : CaseKind) (e : pure.Expression) → number_in e ≡ None → coded (rules.broken s rules.anywhere e) ≡ value_at s kind e
unfolding value_at
value-other s kind e h = ap (λ z. coded (rules.broken s rules.anywhere z)) (sym (item-as-it-is kind e h))

-- ---- bounds

pub bound-by : (s : Scope) (e : pure.Expression) (n : Option ℤ) → n ≡ rules.constant_number s e → (o : Bool) → o ≡ designs.is_outside n
    → (c : Broken) → c ≡ coded (rules.constant_if o) → (b : Broken) → b ≡ coded (rules.broken_constant s e) → (r : Broken) → r ≡ both c b → r ≡ bound_at s e
unfolding bound_at
bound-by s e n is_n o is_o c is_c b is_b r h =
    h ∙ ap (λ z. both z b) (is_c ∙ ap (λ z. coded (rules.constant_if z)) (is_o ∙ ap designs.is_outside is_n))
    ∙ ap (both (coded (rules.constant_if (designs.is_outside (rules.constant_number s e))))) is_b

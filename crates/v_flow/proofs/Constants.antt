-- Which chains and selects are constant, by the lists of their parts.
use Rattle.std.proofs.Common.{◌≡◌, ◌∙◌, refl, ap, sym, Bool, true, false, List, [], ◌∷◌}
use Rattle.std.specs.Prelude.{ℕ, ◌&&◌, is_some}
use Rattle.std.specs.declared.boxed.Box.{Box}
use Rattle.std.specs.declared.vec.Vec.{Vec}
use Rattle.std.specs.declared.alloc.Global.{Global}
use Rattle.std.specs.Borrow.{Bor}
use Rattle.verilog_trees.specs.Syntax as pure
use Rattle.verilog_meaning.specs.Expression.{Scope}
use Rattle.verilog_meaning.specs.Register.{is_constant, are_constant, select_is_constant, selects_are_constant}
use Rattle.v_syntax.specs.declared.tree.Number.{Number as CodeNumber}
use Rattle.v_syntax.specs.declared.tree.PrefixOperator.{PrefixOperator}
use Rattle.v_syntax.specs.declared.tree.PrefixOperator.TheVariants.{Plus}
use Rattle.v_syntax.specs.declared.tree.BinaryOperator.{BinaryOperator}
use Rattle.v_syntax.specs.declared.tree.BinaryOperator.TheVariants.{Power, ShiftLeft, ShiftRight, ArithmeticShiftRight}
use Rattle.v_syntax.specs.declared.tree.TestOperator.{TestOperator}
use Rattle.v_syntax.specs.declared.tree.TestOperator.TheVariants.{Less}
use Rattle.v_syntax.specs.declared.tree.BinaryLink.{BinaryLink}
use Rattle.v_syntax.specs.declared.tree.TestLink.{TestLink}
use Rattle.v_syntax.specs.declared.tree.Choice.{Choice}
use Rattle.v_syntax.specs.declared.tree.Expression.{Expression, Number, Name, Concatenation, Replication, AsSigned, AsUnsigned, Prefix, Binary, Test, Conditional}
use Rattle.v_syntax.specs.declared.tree.Select.{Select, Index, Part, PartUp, PartDown}
use Rattle.v_syntax.specs.declared.tree.Selects.{Selects, Whole, One, Two}
use Rattle.v_syntax.specs.Tree.{tree_of, select_of, selects_of, expressions_of, prefixed, all_prefixed, combined, tested}
use Rattle.v_syntax.specs.Chain.{linked, test_linked, chosen}
use Rattle.v_syntax.proofs.Trees.{tree_of-Concatenation, tree_of-Replication, tree_of-Binary, tree_of-Test, tree_of-Conditional}
use Rattle.v_flow.specs.Flow.{constant_at, select_constant_at, selects_constant_at, parts_constant, links_constant, tests_constant, choices_constant}

pub and_true : (b : Bool) → b && true ≡ b
and_true true = refl
and_true false = refl

pub and_false : (b : Bool) → b && false ≡ false
and_false true = refl
and_false false = refl

pub and_assoc : (a b c : Bool) → (a && b) && c ≡ a && (b && c)
and_assoc true b c = refl
and_assoc false b c = refl

all-parts : (s : Scope) (es : List Expression) → are_constant s (expressions_of es) ≡ parts_constant s es
unfolding constant_at
all-parts s [] = refl
all-parts s (e ∷ es) = ap (λ t. is_constant s (tree_of e) && t) (all-parts s es)

of-combined : (s : Scope) (o : BinaryOperator) (x y : pure.Expression) → is_constant s (combined o x y) ≡ is_constant s x && is_constant s y
of-combined s Power x y = refl
of-combined s ShiftLeft x y = refl
of-combined s ShiftRight x y = refl
of-combined s ArithmeticShiftRight x y = refl
of-combined s _ x y = refl

all-links : (s : Scope) (ls : List BinaryLink) (x : pure.Expression) → is_constant s (linked ls x) ≡ is_constant s x && links_constant s ls
unfolding constant_at
all-links s [] x = sym (and_true (is_constant s x))
all-links s (l ∷ ls) x =
    all-links s ls _ ∙ ap (λ t. t && links_constant s ls) (of-combined s l.operator x (tree_of l.operand))
    ∙ and_assoc (is_constant s x) (is_constant s (tree_of l.operand)) (links_constant s ls)

of-tested : (s : Scope) (o : TestOperator) (x y : pure.Expression) → is_constant s (tested o x y) ≡ is_constant s x && is_constant s y
of-tested s Less x y = refl
of-tested s _ x y = refl

all-tests : (s : Scope) (ls : List TestLink) (x : pure.Expression) → is_constant s (test_linked ls x) ≡ is_constant s x && tests_constant s ls
unfolding constant_at
all-tests s [] x = sym (and_true (is_constant s x))
all-tests s (l ∷ ls) x =
    all-tests s ls _ ∙ ap (λ t. t && tests_constant s ls) (of-tested s l.operator x (tree_of l.operand))
    ∙ and_assoc (is_constant s x) (is_constant s (tree_of l.operand)) (tests_constant s ls)

all-choices : (s : Scope) (cs : List Choice) (y : pure.Expression) → is_constant s (chosen cs y) ≡ choices_constant s cs && is_constant s y
unfolding constant_at
all-choices s [] y = refl
all-choices s (c ∷ cs) y =
    let p = is_constant s (tree_of c.condition) in
    let q = is_constant s (tree_of c.value) in
    ap (λ t. p && (q && t)) (all-choices s cs y) ∙ ap (λ t. p && t) (sym (and_assoc q (choices_constant s cs) (is_constant s y)))
    ∙ sym (and_assoc p (q && choices_constant s cs) (is_constant s y))

of-prefixed : (s : Scope) (o : PrefixOperator) (x : pure.Expression) → is_constant s (prefixed o x) ≡ is_constant s x
of-prefixed s Plus x = refl
of-prefixed s _ x = refl

all-prefixes : (s : Scope) (os : List PrefixOperator) (x : pure.Expression) → is_constant s (all_prefixed os x) ≡ is_constant s x
all-prefixes s [] x = refl
all-prefixes s (o ∷ os) x = of-prefixed s o (all_prefixed os x) ∙ all-prefixes s os x

module _ (s : Scope) (e : Expression) where
  pub of-Number : (k : CodeNumber) → e ≡ Number k → true ≡ constant_at s (tree_of e)
  unfolding constant_at
  of-Number k i = sym (ap (λ z. is_constant s (tree_of z)) i)

  pub of-Name : (m : Bor (List ℕ)) (x : Selects) → e ≡ Name m x → (is_some (s m.now).constant && selects_constant_at s (selects_of x)) ≡ constant_at s (tree_of e)
  unfolding constant_at selects_constant_at
  of-Name m x i = sym (ap (λ z. is_constant s (tree_of z)) i)

  pub of-Concatenation : (v : Vec Expression Global) → e ≡ Concatenation v → (es : List Expression) → es ≡ v.items → parts_constant s es ≡ constant_at s (tree_of e)
  unfolding constant_at
  of-Concatenation v i es j =
      ap (parts_constant s) j ∙ sym (all-parts s v.items) ∙ sym (ap (is_constant s) (ap tree_of i ∙ tree_of-Concatenation v))

  pub of-Replication : (b : Box Expression Global) (v : Vec Expression Global) → e ≡ Replication b v → (es : List Expression) → es ≡ v.items → parts_constant s es ≡ constant_at s (tree_of e)
  unfolding constant_at
  of-Replication b v i es j =
      ap (parts_constant s) j ∙ sym (all-parts s v.items) ∙ sym (ap (is_constant s) (ap tree_of i ∙ tree_of-Replication b v))

  pub of-AsSigned : (b : Box Expression Global) → e ≡ AsSigned b → (x : Expression) → x ≡ b.value → constant_at s (tree_of x) ≡ constant_at s (tree_of e)
  unfolding constant_at
  of-AsSigned b i x j = ap (λ z. is_constant s (tree_of z)) j ∙ sym (ap (λ z. is_constant s (tree_of z)) i)

  pub of-AsUnsigned : (b : Box Expression Global) → e ≡ AsUnsigned b → (x : Expression) → x ≡ b.value → constant_at s (tree_of x) ≡ constant_at s (tree_of e)
  unfolding constant_at
  of-AsUnsigned b i x j = ap (λ z. is_constant s (tree_of z)) j ∙ sym (ap (λ z. is_constant s (tree_of z)) i)

  pub of-Prefix : (os : Vec PrefixOperator Global) (b : Box Expression Global) → e ≡ Prefix os b → (x : Expression) → x ≡ b.value → constant_at s (tree_of x) ≡ constant_at s (tree_of e)
  unfolding constant_at
  of-Prefix os b i x j =
      ap (λ z. is_constant s (tree_of z)) j ∙ sym (all-prefixes s os.items (tree_of b.value)) ∙ sym (ap (λ z. is_constant s (tree_of z)) i)

  -- r is whether the first part is constant
  pub of-Binary : (b : Box Expression Global) (v : Vec BinaryLink Global) → e ≡ Binary b v → (x : Expression) → x ≡ b.value → (ls : List BinaryLink) → ls ≡ v.items
      → (r : Bool) → r ≡ constant_at s (tree_of x) → (r && links_constant s ls) ≡ constant_at s (tree_of e)
  unfolding constant_at
  of-Binary b v i x j ls g r h =
      ap (λ t. t && links_constant s ls) (h ∙ ap (λ z. is_constant s (tree_of z)) j) ∙ ap (λ z. is_constant s (tree_of b.value) && links_constant s z) g
      ∙ sym (all-links s v.items (tree_of b.value)) ∙ sym (ap (is_constant s) (ap tree_of i ∙ tree_of-Binary b v))

  pub of-Test : (b : Box Expression Global) (v : Vec TestLink Global) → e ≡ Test b v → (x : Expression) → x ≡ b.value → (ls : List TestLink) → ls ≡ v.items
      → (r : Bool) → r ≡ constant_at s (tree_of x) → (r && tests_constant s ls) ≡ constant_at s (tree_of e)
  unfolding constant_at
  of-Test b v i x j ls g r h =
      ap (λ t. t && tests_constant s ls) (h ∙ ap (λ z. is_constant s (tree_of z)) j) ∙ ap (λ z. is_constant s (tree_of b.value) && tests_constant s z) g
      ∙ sym (all-tests s v.items (tree_of b.value)) ∙ sym (ap (is_constant s) (ap tree_of i ∙ tree_of-Test b v))

  pub of-Conditional : (v : Vec Choice Global) (b : Box Expression Global) → e ≡ Conditional v b → (x : Expression) → x ≡ b.value → (cs : List Choice) → cs ≡ v.items
      → (r : Bool) → r ≡ constant_at s (tree_of x) → (choices_constant s cs && r) ≡ constant_at s (tree_of e)
  unfolding constant_at
  of-Conditional v b i x j cs g r h =
      ap (λ t. choices_constant s cs && t) (h ∙ ap (λ z. is_constant s (tree_of z)) j) ∙ ap (λ z. choices_constant s z && is_constant s (tree_of b.value)) g
      ∙ sym (all-choices s v.items (tree_of b.value)) ∙ sym (ap (is_constant s) (ap tree_of i ∙ tree_of-Conditional v b))

module _ (s : Scope) (y : Select) where
  pub of-Index : (b : Box Expression Global) → y ≡ Index b → (x : Expression) → x ≡ b.value → constant_at s (tree_of x) ≡ select_constant_at s (select_of y)
  unfolding constant_at select_constant_at
  of-Index b i x j = ap (λ z. is_constant s (tree_of z)) j ∙ sym (ap (λ z. select_is_constant s (select_of z)) i)

  pub of-Part : (a b : Box Expression Global) → y ≡ Part a b → true ≡ select_constant_at s (select_of y)
  unfolding select_constant_at
  of-Part a b i = sym (ap (λ z. select_is_constant s (select_of z)) i)

  pub of-PartUp : (b n : Box Expression Global) → y ≡ PartUp b n → (x : Expression) → x ≡ b.value → constant_at s (tree_of x) ≡ select_constant_at s (select_of y)
  unfolding constant_at select_constant_at
  of-PartUp b n i x j = ap (λ z. is_constant s (tree_of z)) j ∙ sym (ap (λ z. select_is_constant s (select_of z)) i)

  pub of-PartDown : (b n : Box Expression Global) → y ≡ PartDown b n → (x : Expression) → x ≡ b.value → constant_at s (tree_of x) ≡ select_constant_at s (select_of y)
  unfolding constant_at select_constant_at
  of-PartDown b n i x j = ap (λ z. is_constant s (tree_of z)) j ∙ sym (ap (λ z. select_is_constant s (select_of z)) i)

module _ (s : Scope) (y : Selects) where
  pub of-Whole : y ≡ Whole → true ≡ selects_constant_at s (selects_of y)
  unfolding selects_constant_at
  of-Whole i = sym (ap (λ z. selects_are_constant s (selects_of z)) i)

  pub of-One : (x : Select) → y ≡ One x → select_constant_at s (select_of x) ≡ selects_constant_at s (selects_of y)
  unfolding select_constant_at selects_constant_at
  of-One x i = sym (ap (λ z. selects_are_constant s (selects_of z)) i)

  pub of-Two : (x z : Select) → y ≡ Two x z → (select_constant_at s (select_of x) && select_constant_at s (select_of z)) ≡ selects_constant_at s (selects_of y)
  unfolding select_constant_at selects_constant_at
  of-Two x z i = sym (ap (λ w. selects_are_constant s (selects_of w)) i)

-- two selects, one after the other
pub both-then : (a r p q w : Bool) → a ≡ true → a ≡ p → r ≡ q → (p && q) ≡ w → r ≡ w
both-then a r p q w t e f g = f ∙ ap (λ b. b && q) (sym t ∙ e) ∙ g

pub both-else : (a p q w : Bool) → a ≡ false → a ≡ p → (p && q) ≡ w → a ≡ w
both-else a p q w f e g = f ∙ ap (λ b. b && q) (sym f ∙ e) ∙ g

-- a part that is not constant
pub stops : (all p rest r : Bool) → all ≡ (p && rest) → r ≡ p → r ≡ false → false ≡ all
stops all p rest r e h g = sym (e ∙ ap (λ b. b && rest) (sym h ∙ g))

pub stops-behind : (f all p rest r : Bool) → f ≡ true → all ≡ (p && rest) → r ≡ p → r ≡ false → false ≡ (f && all)
stops-behind f all p rest r t e h g = stops all p rest r e h g ∙ ap (λ b. b && all) (sym t)

pub stops-before : (f all c v rest r : Bool) → f ≡ true → all ≡ (c && (v && rest)) → r ≡ (c && v) → r ≡ false → false ≡ (all && f)
stops-before f all c v rest r t e h g = stops all (c && v) rest r (e ∙ sym (and_assoc c v rest)) h g ∙ sym (and_true all) ∙ ap (λ b. all && b) (sym t)

-- a choice that is constant
pub goes-on : (all c v rest r : Bool) → all ≡ (c && (v && rest)) → r ≡ (c && v) → r ≡ true → all ≡ rest
goes-on all c v rest r e h g = e ∙ sym (and_assoc c v rest) ∙ ap (λ b. b && rest) (sym h ∙ g)

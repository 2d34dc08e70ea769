-- Whether each name in an expression may be used, from what is said of its parts: the facts that a program's steps give, form by form.
use Rattle.std.proofs.Common.{◌≡◌, ◌∙◌, refl, ap, sym, ℕ, Bool, true, ◌&&◌, List, [], ◌∷◌}
use Rattle.std.specs.declared.boxed.Box.{Box}
use Rattle.std.specs.declared.vec.Vec.{Vec}
use Rattle.std.specs.declared.alloc.Global.{Global}
use Rattle.std.specs.Borrow.{Bor}
use Rattle.wb_values.specs.Value.{Name as AName}
use Rattle.verilog_trees.specs.Syntax as pure
use Rattle.verilog_designs.specs.Names.{names_in, names_in_all, names_in_select}
use Rattle.v_syntax.specs.declared.tree.Number.{Number as CodeNumber}
use Rattle.v_syntax.specs.declared.tree.PrefixOperator.{PrefixOperator}
use Rattle.v_syntax.specs.declared.tree.PrefixOperator.TheVariants.{Plus}
use Rattle.v_syntax.specs.declared.tree.BinaryOperator.{BinaryOperator}
use Rattle.v_syntax.specs.declared.tree.BinaryOperator.TheVariants.{Power}
use Rattle.v_syntax.specs.declared.tree.TestOperator.{TestOperator}
use Rattle.v_syntax.specs.declared.tree.TestOperator.TheVariants.{Less}
use Rattle.v_syntax.specs.declared.tree.BinaryLink.{BinaryLink}
use Rattle.v_syntax.specs.declared.tree.TestLink.{TestLink}
use Rattle.v_syntax.specs.declared.tree.Choice.{Choice}
use Rattle.v_syntax.specs.declared.tree.Expression.{Expression, Number, Name, Concatenation, Replication, AsSigned, AsUnsigned, Prefix, Binary, Test, Conditional}
use Rattle.v_syntax.specs.declared.tree.Select.{Select, Index, Part, PartUp, PartDown}
use Rattle.v_syntax.specs.declared.tree.Selects.{Selects, Whole, One, Two}
use Rattle.v_syntax.specs.Tree.{tree_of, prefixed, all_prefixed, combined, tested, expressions_of, select_of, selects_of}
use Rattle.v_syntax.specs.Chain.{linked, test_linked, chosen}
use Rattle.v_syntax.proofs.Trees.{tree_of-Concatenation, tree_of-Replication, tree_of-Binary, tree_of-Test, tree_of-Conditional}
use Rattle.v_hier.specs.Reading.{all_known, expression_known, select_known, selects_known, parts_known, links_known, tests_known, choices_known}
use Rattle.v_clocks.proofs.Listed.{and-true, and-assoc, known-append, known-both}

combined-known : (k : AName → Bool) (o : BinaryOperator) (x y : pure.Expression) → expression_known k (combined o x y) ≡ expression_known k x && expression_known k y
unfolding expression_known
combined-known k Power x y = known-append k (names_in x) (names_in y)
combined-known k _ x y = known-append k (names_in x) (names_in y)

linked-known : (k : AName → Bool) (ls : List BinaryLink) (x : pure.Expression) → expression_known k (linked ls x) ≡ expression_known k x && links_known k ls
linked-known k [] x = sym (and-true _)
linked-known k (l ∷ ls) x =
    linked-known k ls _ ∙ ap (λ b. b && links_known k ls) (combined-known k l.operator x (tree_of l.operand)) ∙ and-assoc (expression_known k x) _ _

tested-known : (k : AName → Bool) (o : TestOperator) (x y : pure.Expression) → expression_known k (tested o x y) ≡ expression_known k x && expression_known k y
unfolding expression_known
tested-known k Less x y = known-append k (names_in x) (names_in y)
tested-known k _ x y = known-append k (names_in x) (names_in y)

test_linked-known : (k : AName → Bool) (ls : List TestLink) (x : pure.Expression) → expression_known k (test_linked ls x) ≡ expression_known k x && tests_known k ls
test_linked-known k [] x = sym (and-true _)
test_linked-known k (l ∷ ls) x =
    test_linked-known k ls _ ∙ ap (λ b. b && tests_known k ls) (tested-known k l.operator x (tree_of l.operand)) ∙ and-assoc (expression_known k x) _ _

conditional-known : (k : AName → Bool) (c x y : pure.Expression)
    → expression_known k (pure.conditional c x y) ≡ (expression_known k c && expression_known k x) && expression_known k y
unfolding expression_known
conditional-known k c x y = known-both k _ (names_in y) _ _ (known-append k (names_in c) (names_in x)) refl

chosen-known : (k : AName → Bool) (cs : List Choice) (y : pure.Expression) → expression_known k (chosen cs y) ≡ choices_known k cs && expression_known k y
chosen-known k [] y = refl
chosen-known k (c ∷ cs) y =
    conditional-known k (tree_of c.condition) (tree_of c.value) (chosen cs y)
    ∙ ap (λ b. (expression_known k (tree_of c.condition) && expression_known k (tree_of c.value)) && b) (chosen-known k cs y)
    ∙ sym (and-assoc (expression_known k (tree_of c.condition) && expression_known k (tree_of c.value)) _ _)

prefixed-known : (k : AName → Bool) (o : PrefixOperator) (x : pure.Expression) → expression_known k (prefixed o x) ≡ expression_known k x
unfolding expression_known
prefixed-known k Plus x = refl
prefixed-known k _ x = refl

all_prefixed-known : (k : AName → Bool) (os : List PrefixOperator) (x : pure.Expression) → expression_known k (all_prefixed os x) ≡ expression_known k x
all_prefixed-known k [] x = refl
all_prefixed-known k (o ∷ os) x = prefixed-known k o (all_prefixed os x) ∙ all_prefixed-known k os x

pub all_parts : (k : AName → Bool) (es : List Expression) → all_known k (names_in_all (expressions_of es)) ≡ parts_known k es
unfolding expression_known
all_parts k [] = refl
all_parts k (e ∷ es) = known-both k (names_in (tree_of e)) _ _ _ refl (all_parts k es)

joined-known : (k : AName → Bool) (es : List Expression) → expression_known k (pure.concatenation (expressions_of es)) ≡ parts_known k es
unfolding expression_known
joined-known k es = all_parts k es

repeated-known : (k : AName → Bool) (c : pure.Expression) (es : List Expression)
    → expression_known k (pure.replication c (expressions_of es)) ≡ expression_known k c && parts_known k es
unfolding expression_known
repeated-known k c es = known-both k (names_in c) _ _ _ refl (all_parts k es)

named-known : (k : AName → Bool) (n : AName) (x : pure.Selects) → expression_known k (pure.name n x) ≡ k n && selects_known k x
unfolding expression_known selects_known
named-known k n x = refl

-- e is the expression, and r the result
module _ (k : AName → Bool) (e : Expression) (r : Bool) where
  at : (u : pure.Expression) (x : Bool) → tree_of e ≡ u → expression_known k u ≡ x → r ≡ x → r ≡ expression_known k (tree_of e)
  at u x i j h = h ∙ sym (ap (expression_known k) i ∙ j)

  pub at-Number : (n : CodeNumber) → e ≡ Number n → r ≡ true → r ≡ expression_known k (tree_of e)
  unfolding expression_known
  at-Number n i h = at _ _ (ap tree_of i) refl h

  pub at-Name : (m : Bor (List ℕ)) (x : Selects) → e ≡ Name m x → (u w : Bool) → u ≡ k m.now → w ≡ selects_known k (selects_of x) → r ≡ u && w → r ≡ expression_known k (tree_of e)
  at-Name m x i u w is_u is_w h = at _ _ (ap tree_of i) (named-known k m.now (selects_of x)) (h ∙ ap (λ b. b && w) is_u ∙ ap (λ b. k m.now && b) is_w)

  pub at-Concatenation : (v : Vec Expression Global) → e ≡ Concatenation v → (es : List Expression) → es ≡ v.items → r ≡ parts_known k es → r ≡ expression_known k (tree_of e)
  at-Concatenation v i es j h = at _ _ (ap tree_of i ∙ tree_of-Concatenation v) (joined-known k v.items) (h ∙ ap (parts_known k) j)

  pub at-Replication : (b : Box Expression Global) (v : Vec Expression Global) → e ≡ Replication b v → (c : Expression) → c ≡ b.value → (es : List Expression) → es ≡ v.items
      → (u w : Bool) → u ≡ expression_known k (tree_of c) → w ≡ parts_known k es → r ≡ u && w → r ≡ expression_known k (tree_of e)
  at-Replication b v i c j es l u w is_u is_w h =
      at _ _ (ap tree_of i ∙ tree_of-Replication b v) (repeated-known k (tree_of b.value) v.items)
      (h ∙ ap (λ x. x && w) (is_u ∙ ap (λ x. expression_known k (tree_of x)) j) ∙ ap (λ x. expression_known k (tree_of b.value) && x) (is_w ∙ ap (parts_known k) l))

  -- x is the operand or first operand, and w what is said of it
  module _ (x : Expression) (w : Bool) (of_x : w ≡ expression_known k (tree_of x)) where
    first : (b : Box Expression Global) → x ≡ b.value → w ≡ expression_known k (tree_of b.value)
    first b j = of_x ∙ ap (λ y. expression_known k (tree_of y)) j

    pub at-AsSigned : (b : Box Expression Global) → e ≡ AsSigned b → x ≡ b.value → r ≡ w → r ≡ expression_known k (tree_of e)
    unfolding expression_known
    at-AsSigned b i j h = at _ _ (ap tree_of i) refl (h ∙ first b j)

    pub at-AsUnsigned : (b : Box Expression Global) → e ≡ AsUnsigned b → x ≡ b.value → r ≡ w → r ≡ expression_known k (tree_of e)
    unfolding expression_known
    at-AsUnsigned b i j h = at _ _ (ap tree_of i) refl (h ∙ first b j)

    pub at-Prefix : (os : Vec PrefixOperator Global) (b : Box Expression Global) → e ≡ Prefix os b → x ≡ b.value → r ≡ w → r ≡ expression_known k (tree_of e)
    at-Prefix os b i j h = at _ _ (ap tree_of i) (all_prefixed-known k os.items (tree_of b.value)) (h ∙ first b j)

    pub at-Binary : (b : Box Expression Global) (v : Vec BinaryLink Global) → e ≡ Binary b v → x ≡ b.value → (ls : List BinaryLink) → ls ≡ v.items → r ≡ w && links_known k ls → r ≡ expression_known k (tree_of e)
    at-Binary b v i j ls l h =
        at _ _ (ap tree_of i ∙ tree_of-Binary b v) (linked-known k v.items (tree_of b.value)) (h ∙ ap (λ ms. w && links_known k ms) l ∙ ap (λ u. u && links_known k v.items) (first b j))

    pub at-Test : (b : Box Expression Global) (v : Vec TestLink Global) → e ≡ Test b v → x ≡ b.value → (ls : List TestLink) → ls ≡ v.items → r ≡ w && tests_known k ls → r ≡ expression_known k (tree_of e)
    at-Test b v i j ls l h =
        at _ _ (ap tree_of i ∙ tree_of-Test b v) (test_linked-known k v.items (tree_of b.value)) (h ∙ ap (λ ms. w && tests_known k ms) l ∙ ap (λ u. u && tests_known k v.items) (first b j))

    pub at-Conditional : (v : Vec Choice Global) (b : Box Expression Global) → e ≡ Conditional v b → x ≡ b.value → (cs : List Choice) → cs ≡ v.items → r ≡ choices_known k cs && w → r ≡ expression_known k (tree_of e)
    at-Conditional v b i j cs l h =
        at _ _ (ap tree_of i ∙ tree_of-Conditional v b) (chosen-known k v.items (tree_of b.value)) (h ∙ ap (λ ms. choices_known k ms && w) l ∙ ap (λ u. choices_known k v.items && u) (first b j))

-- x is the select, and r the result
module _ (k : AName → Bool) (x : Select) (r : Bool) where
  pub at-Index : (b : Box Expression Global) → x ≡ Index b → (e : Expression) → e ≡ b.value → r ≡ expression_known k (tree_of e) → r ≡ select_known k (select_of x)
  unfolding expression_known select_known
  at-Index b i e j h = h ∙ ap (λ y. expression_known k (tree_of y)) j ∙ sym (ap (λ y. select_known k (select_of y)) i)

  -- e and f stand in the select, and u and w are what is said of them
  module _ (a b : Box Expression Global) (e f : Expression) (j : e ≡ a.value) (l : f ≡ b.value) (u w : Bool) (is_u : u ≡ expression_known k (tree_of e)) (is_w : w ≡ expression_known k (tree_of f)) (h : r ≡ u && w) where
    all : r ≡ expression_known k (tree_of a.value) && expression_known k (tree_of b.value)
    all = h ∙ ap (λ z. z && w) (is_u ∙ ap (λ y. expression_known k (tree_of y)) j)
        ∙ ap (λ z. expression_known k (tree_of a.value) && z) (is_w ∙ ap (λ y. expression_known k (tree_of y)) l)

    pub at-Part : x ≡ Part a b → r ≡ select_known k (select_of x)
    unfolding expression_known select_known
    at-Part i = all ∙ sym (known-append k (names_in (tree_of a.value)) (names_in (tree_of b.value))) ∙ sym (ap (λ y. select_known k (select_of y)) i)

    pub at-PartUp : x ≡ PartUp a b → r ≡ select_known k (select_of x)
    unfolding expression_known select_known
    at-PartUp i = all ∙ sym (known-append k (names_in (tree_of a.value)) (names_in (tree_of b.value))) ∙ sym (ap (λ y. select_known k (select_of y)) i)

    pub at-PartDown : x ≡ PartDown a b → r ≡ select_known k (select_of x)
    unfolding expression_known select_known
    at-PartDown i = all ∙ sym (known-append k (names_in (tree_of a.value)) (names_in (tree_of b.value))) ∙ sym (ap (λ y. select_known k (select_of y)) i)

-- x are the selects, and r the result
module _ (k : AName → Bool) (x : Selects) (r : Bool) where
  pub at-Whole : x ≡ Whole → r ≡ true → r ≡ selects_known k (selects_of x)
  unfolding selects_known
  at-Whole i h = h ∙ sym (ap (λ y. selects_known k (selects_of y)) i)

  pub at-One : (y : Select) → x ≡ One y → r ≡ select_known k (select_of y) → r ≡ selects_known k (selects_of x)
  unfolding select_known selects_known
  at-One y i h = h ∙ sym (ap (λ z. selects_known k (selects_of z)) i)

  pub at-Two : (y z : Select) → x ≡ Two y z → (u w : Bool) → u ≡ select_known k (select_of y) → w ≡ select_known k (select_of z) → r ≡ u && w → r ≡ selects_known k (selects_of x)
  unfolding select_known selects_known
  at-Two y z i u w is_u is_w h =
      h ∙ ap (λ b. b && w) is_u ∙ ap (λ b. select_known k (select_of y) && b) is_w
      ∙ sym (known-append k (names_in_select (select_of y)) (names_in_select (select_of z))) ∙ sym (ap (λ u. selects_known k (selects_of u)) i)

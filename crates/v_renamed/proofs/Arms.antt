-- The copy of an expression from the copies of its parts, form by form.
use Rattle.std.proofs.Common.{◌≡◌, ◌∙◌, refl, ap, sym, ℕ, List, [], ◌∷◌, map}
use Rattle.std.specs.Borrow.{Bor}
use Rattle.std.specs.declared.boxed.Box.{Box}
use Rattle.std.specs.declared.vec.Vec.{Vec}
use Rattle.std.specs.declared.alloc.Global.{Global}
use Rattle.wb_values.specs.Value.{Name as PureName}
use Rattle.verilog_trees.specs.Syntax as pure
use Rattle.verilog_renamed.specs.Renamed.{renamed_expressions}
use Rattle.verilog_renamed.proofs.Paths.{ap2}
use Rattle.v_syntax.specs.declared.tree.PrefixOperator.{PrefixOperator}
use Rattle.v_syntax.specs.declared.tree.PrefixOperator.TheVariants.{Plus, Minus, Complement}
use Rattle.v_syntax.specs.declared.tree.BinaryOperator.{BinaryOperator}
use Rattle.v_syntax.specs.declared.tree.BinaryOperator.TheVariants.{Power, ShiftLeft, ShiftRight, ArithmeticShiftRight}
use Rattle.v_syntax.specs.declared.tree.TestOperator.{TestOperator}
use Rattle.v_syntax.specs.declared.tree.TestOperator.TheVariants.{Both, Either}
use Rattle.v_syntax.specs.declared.tree.BinaryLink.{BinaryLink}
use Rattle.v_syntax.specs.declared.tree.TestLink.{TestLink}
use Rattle.v_syntax.specs.declared.tree.Choice.{Choice}
use Rattle.v_syntax.specs.declared.tree.Number.{Number as CodeNumber}
use Rattle.v_syntax.specs.declared.tree.Expression.{Expression, Number, Name as NameOf, Concatenation, Replication, AsSigned, AsUnsigned, Prefix, Binary, Test, Conditional}
use Rattle.v_syntax.specs.declared.tree.Select.{Select, Index, Part, PartUp, PartDown}
use Rattle.v_syntax.specs.declared.tree.Selects.{Selects, Whole, One, Two}
use Rattle.v_syntax.specs.Tree.{number_of, tree_of, select_of, selects_of, prefixed, all_prefixed, combined, tested, expressions_of}
use Rattle.v_syntax.specs.Chain.{linked, test_linked, chosen}
use Rattle.v_syntax.proofs.Trees.{tree_of-Concatenation, tree_of-Replication, tree_of-Binary, tree_of-Test, tree_of-Conditional}
use Rattle.v_renamed.specs.Copies.{renamed_at, select_at, selects_at, link_of, test_of, choice_of, part_under, link_under, test_under, choice_under}
use Rattle.v_renamed.specs.Listed.{listed, linked_by, tested_by, chosen_by}

-- ---- what a renamed tree is, one step

pub number-at : (f : PureName → PureName) (k : pure.Number) → renamed_at f (pure.number k) ≡ pure.number k
unfolding renamed_at
number-at f k = refl

pub name-at : (f : PureName → PureName) (n : PureName) (x : pure.Selects) → renamed_at f (pure.name n x) ≡ pure.name (f n) (selects_at f x)
unfolding renamed_at selects_at
name-at f n x = refl

pub signed-at : (f : PureName → PureName) (x : pure.Expression) → renamed_at f (pure.as_signed x) ≡ pure.as_signed (renamed_at f x)
unfolding renamed_at
signed-at f x = refl

pub unsigned-at : (f : PureName → PureName) (x : pure.Expression) → renamed_at f (pure.as_unsigned x) ≡ pure.as_unsigned (renamed_at f x)
unfolding renamed_at
unsigned-at f x = refl

pub parts-at : (f : PureName → PureName) (es : List Expression) → renamed_expressions f (expressions_of es) ≡ listed (map (part_under f) es)
unfolding renamed_at
parts-at f [] = refl
parts-at f (e ∷ es) = ap (pure.expression (renamed_at f (tree_of e))) (parts-at f es)

concatenation-at : (f : PureName → PureName) (es : List Expression)
    → renamed_at f (pure.concatenation (expressions_of es)) ≡ pure.concatenation (listed (map (part_under f) es))
unfolding renamed_at
concatenation-at f es = ap pure.concatenation (parts-at f es)

replication-at : (f : PureName → PureName) (k : pure.Expression) (es : List Expression)
    → renamed_at f (pure.replication k (expressions_of es)) ≡ pure.replication (renamed_at f k) (listed (map (part_under f) es))
unfolding renamed_at
replication-at f k es = ap (pure.replication (renamed_at f k)) (parts-at f es)

prefixed-at : (f : PureName → PureName) (o : PrefixOperator) (x : pure.Expression) → renamed_at f (prefixed o x) ≡ prefixed o (renamed_at f x)
unfolding renamed_at
prefixed-at f Plus x = refl
prefixed-at f Minus x = refl
prefixed-at f Complement x = refl
prefixed-at f _ x = refl

pub prefix-at : (f : PureName → PureName) (os : List PrefixOperator) (x : pure.Expression) → renamed_at f (all_prefixed os x) ≡ all_prefixed os (renamed_at f x)
prefix-at f [] x = refl
prefix-at f (o ∷ os) x = prefixed-at f o (all_prefixed os x) ∙ ap (prefixed o) (prefix-at f os x)

combined-at : (f : PureName → PureName) (o : BinaryOperator) (x y : pure.Expression)
    → renamed_at f (combined o x y) ≡ combined o (renamed_at f x) (renamed_at f y)
unfolding renamed_at
combined-at f Power x y = refl
combined-at f ShiftLeft x y = refl
combined-at f ShiftRight x y = refl
combined-at f ArithmeticShiftRight x y = refl
combined-at f _ x y = refl

linked-at : (f : PureName → PureName) (ls : List BinaryLink) (x : pure.Expression)
    → renamed_at f (linked ls x) ≡ linked_by (map (link_under f) ls) (renamed_at f x)
linked-at f [] x = refl
linked-at f (l ∷ ls) x =
    linked-at f ls (combined l.operator x (tree_of l.operand)) ∙ ap (linked_by (map (link_under f) ls)) (combined-at f l.operator x (tree_of l.operand))

tested-at : (f : PureName → PureName) (o : TestOperator) (x y : pure.Expression) → renamed_at f (tested o x y) ≡ tested o (renamed_at f x) (renamed_at f y)
unfolding renamed_at
tested-at f Both x y = refl
tested-at f Either x y = refl
tested-at f _ x y = refl

test_linked-at : (f : PureName → PureName) (ls : List TestLink) (x : pure.Expression)
    → renamed_at f (test_linked ls x) ≡ tested_by (map (test_under f) ls) (renamed_at f x)
test_linked-at f [] x = refl
test_linked-at f (l ∷ ls) x =
    test_linked-at f ls (tested l.operator x (tree_of l.operand)) ∙ ap (tested_by (map (test_under f) ls)) (tested-at f l.operator x (tree_of l.operand))

conditional-at : (f : PureName → PureName) (c x y : pure.Expression)
    → renamed_at f (pure.conditional c x y) ≡ pure.conditional (renamed_at f c) (renamed_at f x) (renamed_at f y)
unfolding renamed_at
conditional-at f c x y = refl

chosen-at : (f : PureName → PureName) (cs : List Choice) (y : pure.Expression)
    → renamed_at f (chosen cs y) ≡ chosen_by (map (choice_under f) cs) (renamed_at f y)
chosen-at f [] y = refl
chosen-at f (c ∷ cs) y =
    conditional-at f (tree_of c.condition) (tree_of c.value) (chosen cs y)
    ∙ ap (pure.conditional (renamed_at f (tree_of c.condition)) (renamed_at f (tree_of c.value))) (chosen-at f cs y)

pub index-at : (f : PureName → PureName) (i : pure.Expression) → select_at f (pure.index i) ≡ pure.index (renamed_at f i)
unfolding renamed_at select_at
index-at f i = refl

pub part-at : (f : PureName → PureName) (x y : pure.Expression) → select_at f (pure.part x y) ≡ pure.part (renamed_at f x) (renamed_at f y)
unfolding renamed_at select_at
part-at f x y = refl

pub part_up-at : (f : PureName → PureName) (x y : pure.Expression) → select_at f (pure.part_up x y) ≡ pure.part_up (renamed_at f x) (renamed_at f y)
unfolding renamed_at select_at
part_up-at f x y = refl

pub part_down-at : (f : PureName → PureName) (x y : pure.Expression) → select_at f (pure.part_down x y) ≡ pure.part_down (renamed_at f x) (renamed_at f y)
unfolding renamed_at select_at
part_down-at f x y = refl

pub whole-at : (f : PureName → PureName) → selects_at f pure.whole ≡ pure.whole
unfolding selects_at
whole-at f = refl

pub one-at : (f : PureName → PureName) (x : pure.Select) → selects_at f (pure.one x) ≡ pure.one (select_at f x)
unfolding selects_at select_at
one-at f x = refl

pub two-at : (f : PureName → PureName) (x y : pure.Select) → selects_at f (pure.two x y) ≡ pure.two (select_at f x) (select_at f y)
unfolding selects_at select_at
two-at f x y = refl

-- ---- the code's lists

pub parts-listed : (es : List Expression) → expressions_of es ≡ listed (map tree_of es)
parts-listed [] = refl
parts-listed (e ∷ es) = ap (pure.expression (tree_of e)) (parts-listed es)

links-listed : (ls : List BinaryLink) (x : pure.Expression) → linked ls x ≡ linked_by (map link_of ls) x
links-listed [] x = refl
links-listed (l ∷ ls) x = links-listed ls (combined l.operator x (tree_of l.operand))

tests-listed : (ls : List TestLink) (x : pure.Expression) → test_linked ls x ≡ tested_by (map test_of ls) x
tests-listed [] x = refl
tests-listed (l ∷ ls) x = tests-listed ls (tested l.operator x (tree_of l.operand))

choices-listed : (cs : List Choice) (y : pure.Expression) → chosen cs y ≡ chosen_by (map choice_of cs) y
choices-listed [] y = refl
choices-listed (c ∷ cs) y = ap (pure.conditional (tree_of c.condition) (tree_of c.value)) (choices-listed cs y)

-- ---- arms

pub concatenation-copied : (f : PureName → PureName) (e : Expression) (v w : Vec Expression Global) (xs : List Expression)
    → e ≡ Concatenation v → xs ≡ v.items → map tree_of w.items ≡ map (part_under f) xs → tree_of (Concatenation w) ≡ renamed_at f (tree_of e)
concatenation-copied f e v w xs is at same =
    tree_of-Concatenation w ∙ ap pure.concatenation (parts-listed w.items)
    ∙ ap (λ ys. pure.concatenation (listed ys)) (same ∙ ap (map (part_under f)) at)
    ∙ sym (concatenation-at f v.items)
    ∙ ap (renamed_at f) (sym (ap tree_of is ∙ tree_of-Concatenation v))

pub replication-copied : (f : PureName → PureName) (e k : Expression) (b d : Box Expression Global) (v w : Vec Expression Global) (xs : List Expression)
    → e ≡ Replication b v → k ≡ b.value → xs ≡ v.items → tree_of d.value ≡ renamed_at f (tree_of k) → map tree_of w.items ≡ map (part_under f) xs
    → tree_of (Replication d w) ≡ renamed_at f (tree_of e)
replication-copied f e k b d v w xs is box at count same =
    tree_of-Replication d w ∙ ap (pure.replication (tree_of d.value)) (parts-listed w.items)
    ∙ ap2 (λ m ys. pure.replication m (listed ys)) (count ∙ ap (λ x. renamed_at f (tree_of x)) box) (same ∙ ap (map (part_under f)) at)
    ∙ sym (replication-at f (tree_of b.value) v.items)
    ∙ ap (renamed_at f) (sym (ap tree_of is ∙ tree_of-Replication b v))

pub binary-copied : (f : PureName → PureName) (e k : Expression) (b d : Box Expression Global) (v w : Vec BinaryLink Global) (xs : List BinaryLink)
    → e ≡ Binary b v → k ≡ b.value → xs ≡ v.items → tree_of d.value ≡ renamed_at f (tree_of k) → map link_of w.items ≡ map (link_under f) xs
    → tree_of (Binary d w) ≡ renamed_at f (tree_of e)
binary-copied f e k b d v w xs is box at first same =
    tree_of-Binary d w ∙ links-listed w.items (tree_of d.value)
    ∙ ap2 (λ m ys. linked_by ys m) (first ∙ ap (λ x. renamed_at f (tree_of x)) box) (same ∙ ap (map (link_under f)) at)
    ∙ sym (linked-at f v.items (tree_of b.value))
    ∙ ap (renamed_at f) (sym (ap tree_of is ∙ tree_of-Binary b v))

pub test-copied : (f : PureName → PureName) (e k : Expression) (b d : Box Expression Global) (v w : Vec TestLink Global) (xs : List TestLink)
    → e ≡ Test b v → k ≡ b.value → xs ≡ v.items → tree_of d.value ≡ renamed_at f (tree_of k) → map test_of w.items ≡ map (test_under f) xs
    → tree_of (Test d w) ≡ renamed_at f (tree_of e)
test-copied f e k b d v w xs is box at first same =
    tree_of-Test d w ∙ tests-listed w.items (tree_of d.value)
    ∙ ap2 (λ m ys. tested_by ys m) (first ∙ ap (λ x. renamed_at f (tree_of x)) box) (same ∙ ap (map (test_under f)) at)
    ∙ sym (test_linked-at f v.items (tree_of b.value))
    ∙ ap (renamed_at f) (sym (ap tree_of is ∙ tree_of-Test b v))

pub conditional-copied : (f : PureName → PureName) (e k : Expression) (b d : Box Expression Global) (v w : Vec Choice Global) (xs : List Choice)
    → e ≡ Conditional v b → k ≡ b.value → xs ≡ v.items → tree_of d.value ≡ renamed_at f (tree_of k) → map choice_of w.items ≡ map (choice_under f) xs
    → tree_of (Conditional w d) ≡ renamed_at f (tree_of e)
conditional-copied f e k b d v w xs is box at last same =
    tree_of-Conditional w d ∙ choices-listed w.items (tree_of d.value)
    ∙ ap2 (λ m ys. chosen_by ys m) (last ∙ ap (λ x. renamed_at f (tree_of x)) box) (same ∙ ap (map (choice_under f)) at)
    ∙ sym (chosen-at f v.items (tree_of b.value))
    ∙ ap (renamed_at f) (sym (ap tree_of is ∙ tree_of-Conditional v b))

pub number-copied : (f : PureName → PureName) (e : Expression) (n : CodeNumber) → e ≡ Number n → tree_of (Number n) ≡ renamed_at f (tree_of e)
number-copied f e n is = sym (number-at f (number_of n)) ∙ ap (λ x. renamed_at f (tree_of x)) (sym is)

pub name-copied : (f : PureName → PureName) (e : Expression) (n m : Bor (List ℕ)) (x y : Selects) → e ≡ NameOf n x → m.now ≡ f n.now
    → selects_of y ≡ selects_at f (selects_of x) → tree_of (NameOf m y) ≡ renamed_at f (tree_of e)
name-copied f e n m x y is name selects =
    ap2 pure.name name selects ∙ sym (name-at f n.now (selects_of x)) ∙ ap (λ z. renamed_at f (tree_of z)) (sym is)

pub signed-copied : (f : PureName → PureName) (e k : Expression) (b d : Box Expression Global) → e ≡ AsSigned b → k ≡ b.value
    → tree_of d.value ≡ renamed_at f (tree_of k) → tree_of (AsSigned d) ≡ renamed_at f (tree_of e)
signed-copied f e k b d is box same =
    ap pure.as_signed (same ∙ ap (λ x. renamed_at f (tree_of x)) box) ∙ sym (signed-at f (tree_of b.value)) ∙ ap (λ z. renamed_at f (tree_of z)) (sym is)

pub unsigned-copied : (f : PureName → PureName) (e k : Expression) (b d : Box Expression Global) → e ≡ AsUnsigned b → k ≡ b.value
    → tree_of d.value ≡ renamed_at f (tree_of k) → tree_of (AsUnsigned d) ≡ renamed_at f (tree_of e)
unsigned-copied f e k b d is box same =
    ap pure.as_unsigned (same ∙ ap (λ x. renamed_at f (tree_of x)) box) ∙ sym (unsigned-at f (tree_of b.value)) ∙ ap (λ z. renamed_at f (tree_of z)) (sym is)

pub prefix-copied : (f : PureName → PureName) (e k : Expression) (b d : Box Expression Global) (v w : Vec PrefixOperator Global) (os : List PrefixOperator)
    → e ≡ Prefix v b → k ≡ b.value → os ≡ v.items → tree_of d.value ≡ renamed_at f (tree_of k) → w.items ≡ os
    → tree_of (Prefix w d) ≡ renamed_at f (tree_of e)
prefix-copied f e k b d v w os is box at operand same =
    ap2 all_prefixed (same ∙ at) (operand ∙ ap (λ x. renamed_at f (tree_of x)) box) ∙ sym (prefix-at f v.items (tree_of b.value))
    ∙ ap (λ z. renamed_at f (tree_of z)) (sym is)

-- ---- selects

pub index-copied : (f : PureName → PureName) (x : Select) (k : Expression) (b d : Box Expression Global) → x ≡ Index b → k ≡ b.value
    → tree_of d.value ≡ renamed_at f (tree_of k) → select_of (Index d) ≡ select_at f (select_of x)
index-copied f x k b d is box same =
    ap pure.index (same ∙ ap (λ z. renamed_at f (tree_of z)) box) ∙ sym (index-at f (tree_of b.value)) ∙ ap (λ z. select_at f (select_of z)) (sym is)

-- two operands
module _ (f : PureName → PureName) (x : Select) (k l : Expression) (a b c d : Box Expression Global) where
  pub part-copied : x ≡ Part a b → k ≡ a.value → l ≡ b.value → tree_of c.value ≡ renamed_at f (tree_of k) → tree_of d.value ≡ renamed_at f (tree_of l)
      → select_of (Part c d) ≡ select_at f (select_of x)
  part-copied is left right first second =
      ap2 pure.part (first ∙ ap (λ z. renamed_at f (tree_of z)) left) (second ∙ ap (λ z. renamed_at f (tree_of z)) right)
      ∙ sym (part-at f (tree_of a.value) (tree_of b.value)) ∙ ap (λ z. select_at f (select_of z)) (sym is)

  pub part_up-copied : x ≡ PartUp a b → k ≡ a.value → l ≡ b.value → tree_of c.value ≡ renamed_at f (tree_of k) → tree_of d.value ≡ renamed_at f (tree_of l)
      → select_of (PartUp c d) ≡ select_at f (select_of x)
  part_up-copied is left right first second =
      ap2 pure.part_up (first ∙ ap (λ z. renamed_at f (tree_of z)) left) (second ∙ ap (λ z. renamed_at f (tree_of z)) right)
      ∙ sym (part_up-at f (tree_of a.value) (tree_of b.value)) ∙ ap (λ z. select_at f (select_of z)) (sym is)

  pub part_down-copied : x ≡ PartDown a b → k ≡ a.value → l ≡ b.value → tree_of c.value ≡ renamed_at f (tree_of k) → tree_of d.value ≡ renamed_at f (tree_of l)
      → select_of (PartDown c d) ≡ select_at f (select_of x)
  part_down-copied is left right first second =
      ap2 pure.part_down (first ∙ ap (λ z. renamed_at f (tree_of z)) left) (second ∙ ap (λ z. renamed_at f (tree_of z)) right)
      ∙ sym (part_down-at f (tree_of a.value) (tree_of b.value)) ∙ ap (λ z. select_at f (select_of z)) (sym is)

pub whole-copied : (f : PureName → PureName) (x : Selects) → x ≡ Whole → selects_of Whole ≡ selects_at f (selects_of x)
whole-copied f x is = sym (whole-at f) ∙ ap (λ z. selects_at f (selects_of z)) (sym is)

pub one-copied : (f : PureName → PureName) (x : Selects) (y z : Select) → x ≡ One y → select_of z ≡ select_at f (select_of y)
    → selects_of (One z) ≡ selects_at f (selects_of x)
one-copied f x y z is same = ap pure.one same ∙ sym (one-at f (select_of y)) ∙ ap (λ w. selects_at f (selects_of w)) (sym is)

pub two-copied : (f : PureName → PureName) (x : Selects) (y z u w : Select) → x ≡ Two y z → select_of u ≡ select_at f (select_of y)
    → select_of w ≡ select_at f (select_of z) → selects_of (Two u w) ≡ selects_at f (selects_of x)
two-copied f x y z u w is first second =
    ap2 pure.two first second ∙ sym (two-at f (select_of y) (select_of z)) ∙ ap (λ v. selects_at f (selects_of v)) (sym is)

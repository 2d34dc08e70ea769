-- The trees of chains, over the lists of their links.
use Rattle.std.proofs.Common.{◌≡◌, ◌∙◌, refl, ap}
use Rattle.std.specs.declared.boxed.Box.{Box}
use Rattle.std.specs.declared.vec.Vec.{Vec}
use Rattle.std.specs.declared.alloc.Global.{Global}
use Rattle.verilog_trees.specs.Syntax as pure
use Rattle.verilog_trees.specs.Syntax.{concatenation, replication, expression, conditional}
use Rattle.v_syntax.specs.declared.tree.BinaryLink.{BinaryLink}
use Rattle.v_syntax.specs.declared.tree.TestLink.{TestLink}
use Rattle.v_syntax.specs.declared.tree.Choice.{Choice}
use Rattle.v_syntax.specs.declared.tree.Expression.{Expression, Concatenation, Replication, Binary, Test, Conditional, Row_of-Expression, end_of-Expression, more_of-Expression, items-the_row-Expression, items_hidden-the_row-Expression-0, Row_of-BinaryLink, end_of-BinaryLink, more_of-BinaryLink, items-the_row-BinaryLink, items_hidden-the_row-BinaryLink-1, Row_of-TestLink, end_of-TestLink, more_of-TestLink, items-the_row-TestLink, items_hidden-the_row-TestLink-2, Row_of-Choice, end_of-Choice, more_of-Choice, items-the_row-Choice, items_hidden-the_row-Choice-3}
use Rattle.v_syntax.specs.Tree.{tree_of, parts_of, links_onto, tests_onto, choices_before, combined, tested, expressions_of}
use Rattle.v_syntax.specs.Chain.{linked, test_linked, chosen}
use Rattle.v_syntax.specs.declared.tree.Expression.TheBlock.{hidden-the_row-Expression-0, hidden-the_row-BinaryLink-1, hidden-the_row-TestLink-2, hidden-the_row-Choice-3}
use mathlib.Core.Former as Former

parts-row : (n : Former.Count) (k : Row_of-Expression n) → parts_of k ≡ expressions_of (items-the_row-Expression n k)
parts-row n end_of-Expression = refl
parts-row n (more_of-Expression e k) = ap (expression (tree_of e)) (parts-row _ k)

links-row : (n : Former.Count) (k : Row_of-BinaryLink n) (x : pure.Expression) → links_onto k x ≡ linked (items-the_row-BinaryLink n k) x
links-row n end_of-BinaryLink x = refl
links-row n (more_of-BinaryLink o y k) x = links-row _ k (combined o x (tree_of y))

tests-row : (n : Former.Count) (k : Row_of-TestLink n) (x : pure.Expression) → tests_onto k x ≡ test_linked (items-the_row-TestLink n k) x
tests-row n end_of-TestLink x = refl
tests-row n (more_of-TestLink o y k) x = tests-row _ k (tested o x (tree_of y))

choices-row : (n : Former.Count) (k : Row_of-Choice n) (y : pure.Expression) → choices_before k y ≡ chosen (items-the_row-Choice n k) y
choices-row n end_of-Choice y = refl
choices-row n (more_of-Choice c x k) y = ap (conditional (tree_of c) (tree_of x)) (choices-row _ k y)

pub tree_of-Concatenation : (v : Vec Expression Global) → tree_of (Concatenation v) ≡ concatenation (expressions_of v.items)
tree_of-Concatenation v = ap concatenation (parts-row _ (hidden-the_row-Expression-0 v) ∙ ap expressions_of (items_hidden-the_row-Expression-0 v))

pub tree_of-Replication : (b : Box Expression Global) (v : Vec Expression Global) → tree_of (Replication b v) ≡ replication (tree_of b.value) (expressions_of v.items)
tree_of-Replication b v = ap (replication (tree_of b.value)) (parts-row _ (hidden-the_row-Expression-0 v) ∙ ap expressions_of (items_hidden-the_row-Expression-0 v))

pub tree_of-Binary : (b : Box Expression Global) (v : Vec BinaryLink Global) → tree_of (Binary b v) ≡ linked v.items (tree_of b.value)
tree_of-Binary b v = links-row _ (hidden-the_row-BinaryLink-1 v) (tree_of b.value) ∙ ap (λ xs. linked xs (tree_of b.value)) (items_hidden-the_row-BinaryLink-1 v)

pub tree_of-Test : (b : Box Expression Global) (v : Vec TestLink Global) → tree_of (Test b v) ≡ test_linked v.items (tree_of b.value)
tree_of-Test b v = tests-row _ (hidden-the_row-TestLink-2 v) (tree_of b.value) ∙ ap (λ xs. test_linked xs (tree_of b.value)) (items_hidden-the_row-TestLink-2 v)

pub tree_of-Conditional : (v : Vec Choice Global) (b : Box Expression Global) → tree_of (Conditional v b) ≡ chosen v.items (tree_of b.value)
tree_of-Conditional v b = choices-row _ (hidden-the_row-Choice-3 v) (tree_of b.value) ∙ ap (λ xs. chosen xs (tree_of b.value)) (items_hidden-the_row-Choice-3 v)

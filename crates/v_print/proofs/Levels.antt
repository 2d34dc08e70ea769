-- The levels of the code's expressions.
use Rattle.std.proofs.Common.{◌≡◌, List, [], ◌∷◌, refl, sym, ap, ◌∙◌}
use Rattle.std.specs.declared.boxed.Box.{Box}
use Rattle.std.specs.declared.vec.Vec.{Vec}
use Rattle.std.specs.declared.alloc.Global.{Global}
use Rattle.verilog_trees.specs.Syntax as pure
use Rattle.v_syntax.specs.declared.tree.PrefixOperator.{PrefixOperator}
use Rattle.v_syntax.specs.declared.tree.BinaryLink.{BinaryLink}
use Rattle.v_syntax.specs.declared.tree.TestLink.{TestLink}
use Rattle.v_syntax.specs.declared.tree.Choice.{Choice}
use Rattle.v_syntax.specs.declared.tree.Expression.{Expression, Prefix, Binary, Test, Conditional}
use Rattle.v_syntax.specs.Tree.{tree_of, all_prefixed}
use Rattle.v_syntax.specs.Chain.{chosen}
use Rattle.v_syntax.proofs.Trees.{tree_of-Binary, tree_of-Test, tree_of-Conditional}
use Rattle.v_print.specs.Spelled.{level_of, printed_level}
use Rattle.v_print.specs.Links.{level_over, level_after, level_after_tests, level_with}
use Rattle.v_print.proofs.Chains.{chain_level, tests_level, prefixes_level}

level_over_is : (os : List PrefixOperator) (x : pure.Expression) → level_of (all_prefixed os x) ≡ level_over (level_of x) os
level_over_is [] x = refl
level_over_is (o ∷ os) x = prefixes_level o os x

level_with_is : (cs : List Choice) (y : pure.Expression) → level_of (chosen cs y) ≡ level_with (level_of y) cs
level_with_is [] y = refl
level_with_is (c ∷ cs) y = refl

pub prefix_arm : (os : Vec PrefixOperator Global) (b : Box Expression Global) → printed_level (tree_of (Prefix os b)) ≡ level_over (printed_level (tree_of b.value)) os.items
unfolding printed_level
prefix_arm os b = level_over_is os.items (tree_of b.value)

pub binary_arm : (b : Box Expression Global) (v : Vec BinaryLink Global) → printed_level (tree_of (Binary b v)) ≡ level_after (printed_level (tree_of b.value)) v.items
unfolding printed_level
binary_arm b v = ap level_of (tree_of-Binary b v) ∙ chain_level v.items (tree_of b.value)

pub test_arm : (b : Box Expression Global) (v : Vec TestLink Global) → printed_level (tree_of (Test b v)) ≡ level_after_tests (printed_level (tree_of b.value)) v.items
unfolding printed_level
test_arm b v = ap level_of (tree_of-Test b v) ∙ tests_level v.items (tree_of b.value)

pub choice_arm : (v : Vec Choice Global) (b : Box Expression Global) → printed_level (tree_of (Conditional v b)) ≡ level_with (printed_level (tree_of b.value)) v.items
unfolding printed_level
choice_arm v b = ap level_of (tree_of-Conditional v b) ∙ level_with_is v.items (tree_of b.value)

-- what stands alone
pub alone : (e x : Expression) → e ≡ x → level_of (tree_of x) ≡ 13 → 13 ≡ printed_level (tree_of e)
unfolding printed_level
alone e x is l = sym l ∙ sym (ap (λ (y : Expression). level_of (tree_of y)) is)

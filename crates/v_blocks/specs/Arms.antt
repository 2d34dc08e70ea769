-- The arms of an `if` by the list of the code's.
use Rattle.std.specs.Prelude.{Bool, false, ◌||◌, List, [], ◌∷◌}
use Rattle.verilog_trees.specs.Syntax as pure
use Rattle.v_syntax.specs.declared.tree.Arm.{Arm}
use Rattle.v_syntax.specs.Tree.{statement_of}

-- The statement of one of them is so.
abbrev pub one_arm_has : (pure.Statement → Bool) → List Arm → Bool
one_arm_has has [] = false
one_arm_has has (a ∷ arms) = has (statement_of a.statement) || one_arm_has has arms

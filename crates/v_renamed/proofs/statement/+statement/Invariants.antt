use Rattle.std.proofs.Common.{◌≡◌, ◌++◌, map, drop}
use Rattle.v_renamed.specs.NewNames.{new_name}
use Rattle.v_syntax.specs.Tree.{statement_of}
use Rattle.v_renamed.specs.Copies.{arm_of, item_of, statement_under, arm_under, item_under}
use Rattle.v_renamed.proofs.statement.+statement.Given as goal

abbrev pub invariant-copy_statements-loop-statement : goal.invariant-copy_statements-loop-statement
invariant-copy_statements-loop-statement l =
    map statement_of l.copies.items ++ map (statement_under (new_name l.names)) (drop l.statement-index l.statements) ≡ map (statement_under (new_name l.names)) l.statements

abbrev pub invariant-copy_arms-loop-arm : goal.invariant-copy_arms-loop-arm
invariant-copy_arms-loop-arm l =
    map arm_of l.copies.items ++ map (arm_under (new_name l.names)) (drop l.arm-index l.arms) ≡ map (arm_under (new_name l.names)) l.arms

abbrev pub invariant-copy_items-loop-item : goal.invariant-copy_items-loop-item
invariant-copy_items-loop-item l =
    map item_of l.copies.items ++ map (item_under (new_name l.names)) (drop l.item-index l.items) ≡ map (item_under (new_name l.names)) l.items

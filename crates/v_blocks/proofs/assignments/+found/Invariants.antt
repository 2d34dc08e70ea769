use Rattle.std.proofs.Common.{◌≡◌, drop}
use Rattle.std.specs.Prelude.{◌||◌}
use Rattle.v_statement.specs.Statements.{statement_list}
use Rattle.v_statement.specs.Effects.{item_list}
use Rattle.verilog_designs.specs.Paths.{has_blocking, one_has_blocking, an_arm_has_blocking, has_nonblocking, one_has_nonblocking, an_arm_has_nonblocking}
use Rattle.v_blocks.specs.Arms.{one_arm_has}
use Rattle.v_blocks.proofs.assignments.+found.Given as goal

abbrev pub invariant-in_all-loop-statement : goal.invariant-in_all-loop-statement
invariant-in_all-loop-statement l = record {
  blocking : one_has_blocking (statement_list l.statements) ≡ (l.found.blocking || one_has_blocking (statement_list (drop l.statement-index l.statements)));
  nonblocking : one_has_nonblocking (statement_list l.statements) ≡ (l.found.nonblocking || one_has_nonblocking (statement_list (drop l.statement-index l.statements)));
}

abbrev pub invariant-in_arms-loop-arm : goal.invariant-in_arms-loop-arm
invariant-in_arms-loop-arm l = record {
  blocking : one_arm_has has_blocking l.arms ≡ (l.found.blocking || one_arm_has has_blocking (drop l.arm-index l.arms));
  nonblocking : one_arm_has has_nonblocking l.arms ≡ (l.found.nonblocking || one_arm_has has_nonblocking (drop l.arm-index l.arms));
}

abbrev pub invariant-in_items-loop-item : goal.invariant-in_items-loop-item
invariant-in_items-loop-item l = record {
  blocking : an_arm_has_blocking (item_list l.items) ≡ (l.found.blocking || an_arm_has_blocking (item_list (drop l.item-index l.items)));
  nonblocking : an_arm_has_nonblocking (item_list l.items) ≡ (l.found.nonblocking || an_arm_has_nonblocking (item_list (drop l.item-index l.items)));
}

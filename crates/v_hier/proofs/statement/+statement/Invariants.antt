use Rattle.std.proofs.Common.{◌≡◌, drop}
use Rattle.v_hier.specs.Reading.{knows, arms_known, statements_known, items_known}
use Rattle.v_hier.proofs.statement.+statement.Given as goal

abbrev pub invariant-are_arms_known-loop-arm : goal.invariant-are_arms_known-loop-arm
invariant-are_arms_known-loop-arm l = arms_known (knows l.names) l.arms ≡ arms_known (knows l.names) (drop l.arm-index l.arms)

abbrev pub invariant-are_items_known-loop-item : goal.invariant-are_items_known-loop-item
invariant-are_items_known-loop-item l = items_known (knows l.names) l.items ≡ items_known (knows l.names) (drop l.item-index l.items)

abbrev pub invariant-are_statements_known-loop-statement : goal.invariant-are_statements_known-loop-statement
invariant-are_statements_known-loop-statement l = statements_known (knows l.names) l.statements ≡ statements_known (knows l.names) (drop l.statement-index l.statements)

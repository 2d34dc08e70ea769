use Rattle.std.proofs.Common.{true, false}
use Rattle.v_print.proofs.Loops.{IsLoop}
use Rattle.v_print_source.specs.Shown.{arms_front}
use Rattle.v_print_source.proofs.Fronts.{case_items_from, statements_from}
use Rattle.v_print_source.proofs.statement.+statement.Given as goal

abbrev pub invariant-write_arms-loop-arm : goal.invariant-write_arms-loop-arm
invariant-write_arms-loop-arm l = IsLoop (arms_front l.fn.colons) l.arms l.arm-index l.started l.initial.out l.out (arms_front l.fn.colons false l.arms)

abbrev pub invariant-write_case_items-loop-item : goal.invariant-write_case_items-loop-item
invariant-write_case_items-loop-item l = IsLoop (case_items_from l.fn.colons) l.items l.item-index true l.initial.out l.out (case_items_from l.fn.colons true l.items)

abbrev pub invariant-write_statements-loop-statement : goal.invariant-write_statements-loop-statement
invariant-write_statements-loop-statement l = IsLoop (statements_from l.fn.colons) l.statements l.statement-index true l.initial.out l.out (statements_from l.fn.colons true l.statements)

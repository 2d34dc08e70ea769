use Rattle.std.proofs.Common.{true}
use Rattle.v_print.proofs.Loops.{IsLoop}
use Rattle.v_syntax.specs.Source.{item_of}
use Rattle.v_print_source.specs.Shown.{printed_item}
use Rattle.v_print_source.proofs.Wholes.{row_front}
use Rattle.v_print_source.proofs.module.write_items.Given as goal

abbrev pub invariant-loop-item : goal.invariant-loop-item
invariant-loop-item l = IsLoop (row_front (printed_item l.fn.colons) item_of) l.items l.item-index true l.initial.out l.out (row_front (printed_item l.fn.colons) item_of true l.items)

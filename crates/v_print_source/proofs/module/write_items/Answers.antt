use Rattle.std.proofs.Common.{true, refl}
use Rattle.v_print.proofs.Loops.{loop_begins, loop_goes_on, loop_ends}
use Rattle.v_print.proofs.Written.{then}
use Rattle.v_syntax.specs.Source.{item_of}
use Rattle.v_print_source.specs.Shown.{printed_item}
use Rattle.v_print_source.proofs.Wholes.{row_front}
use Rattle.v_print_source.proofs.module.write_items.Goals as goal

pub loop-item-init : goal.loop-item-init
loop-item-init c = loop_begins (row_front (printed_item c.args.colons) item_of) c.args.items.now true c.args.out.now

pub loop-item-preserved : goal.loop-item-preserved
loop-item-preserved c =
    loop_goes_on (row_front (printed_item c.args.colons) item_of) c.args.items.now c.loop-item.item-index c.item-item.result true true (λ r. printed_item c.args.colons (item_of c.item-item.result) r) c.loop-item-test.true
    c.item-item.is (λ ys r. refl) c.loop-item.invariant (then c.in_ok-begin_line.ensures c.in_ok-write_item.ensures)

pub returns : goal.returns
returns c = loop_ends (row_front (printed_item c.args.colons) item_of) c.args.items.now c.loop-item.item-index true c.loop-item-test.false (λ r. refl) c.loop-item.invariant

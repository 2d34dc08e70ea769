use Rattle.std.proofs.Common.{true, false, refl}
use Rattle.v_print.specs.Spelled.{parted}
use Rattle.v_print.proofs.Loops.{loop_begins, loop_goes_on, loop_ends}
use Rattle.v_print.proofs.Written.{then}
use Rattle.v_syntax.specs.Source.{optional_tree_of}
use Rattle.v_print_source.specs.Shown.{printed_entry}
use Rattle.v_print_source.proofs.Wholes.{parts_front}
use Rattle.v_print_source.proofs.connection.write_entries.Goals as goal

pub loop-entry-init : goal.loop-entry-init
loop-entry-init c = loop_begins (parts_front printed_entry optional_tree_of) c.args.entries.now false c.args.out.now

pub loop-entry-preserved : goal.loop-entry-preserved
loop-entry-preserved c =
    loop_goes_on (parts_front printed_entry optional_tree_of) c.args.entries.now c.loop-entry.entry-index c.entry-item.result c.loop-entry.started true (λ r. parted c.loop-entry.started (printed_entry (optional_tree_of c.entry-item.result) r)) c.loop-entry-test.true
    c.entry-item.is (λ ys r. refl) c.loop-entry.invariant (then c.in_ok-comma_if.ensures c.in_ok-write_entry.ensures)

pub returns : goal.returns
returns c = loop_ends (parts_front printed_entry optional_tree_of) c.args.entries.now c.loop-entry.entry-index c.loop-entry.started c.loop-entry-test.false (λ r. refl) c.loop-entry.invariant

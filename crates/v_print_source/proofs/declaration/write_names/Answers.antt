use Rattle.std.proofs.Common.{false, refl}
use Rattle.v_print.proofs.Loops.{loop_begins, loop_ends}
use Rattle.v_print.proofs.Written.{then}
use Rattle.v_print.specs.Bodies.{name_before}
use Rattle.v_print_source.specs.Lists.{name_of}
use Rattle.v_print_source.proofs.Wholes.{parts_front}
use Rattle.v_print_source.proofs.Turns.{name_goes_on}
use Rattle.v_print_source.proofs.declaration.write_names.Goals as goal

pub loop-name-init : goal.loop-name-init
loop-name-init c = loop_begins (parts_front name_before name_of) c.args.names.now false c.args.out.now

pub loop-name-preserved : goal.loop-name-preserved
loop-name-preserved c =
    name_goes_on c.args.names.now c.loop-name.name-index _ c.loop-name.started c.loop-name-test.true c.loop-name.invariant (then c.in_ok-comma_if.ensures c.in_ok-word.ensures)

pub returns : goal.returns
returns c = loop_ends (parts_front name_before name_of) c.args.names.now c.loop-name.name-index c.loop-name.started c.loop-name-test.false (λ r. refl) c.loop-name.invariant

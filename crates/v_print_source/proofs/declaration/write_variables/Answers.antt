use Rattle.std.proofs.Common.{true, false, refl}
use Rattle.v_print.specs.Spelled.{parted}
use Rattle.v_print.proofs.Loops.{loop_begins, loop_goes_on, loop_ends}
use Rattle.v_print.proofs.Written.{then}
use Rattle.v_print_source.specs.Lists.{variable_of}
use Rattle.v_print_source.specs.Shown.{printed_variable}
use Rattle.v_print_source.proofs.Wholes.{parts_front}
use Rattle.v_print_source.proofs.declaration.write_variables.Goals as goal

pub loop-variable-init : goal.loop-variable-init
loop-variable-init c = loop_begins (parts_front printed_variable variable_of) c.args.variables.now false c.args.out.now

pub loop-variable-preserved : goal.loop-variable-preserved
loop-variable-preserved c =
    loop_goes_on (parts_front printed_variable variable_of) c.args.variables.now c.loop-variable.variable-index c.variable-item.result c.loop-variable.started true (λ r. parted c.loop-variable.started (printed_variable (variable_of c.variable-item.result) r)) c.loop-variable-test.true
    c.variable-item.is (λ ys r. refl) c.loop-variable.invariant (then c.in_ok-comma_if.ensures c.in_ok-write_variable.ensures)

pub returns : goal.returns
returns c = loop_ends (parts_front printed_variable variable_of) c.args.variables.now c.loop-variable.variable-index c.loop-variable.started c.loop-variable-test.false (λ r. refl) c.loop-variable.invariant

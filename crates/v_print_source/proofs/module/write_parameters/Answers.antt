use Rattle.std.proofs.Common.{true, false, refl}
use Rattle.v_print.specs.Spelled.{parted}
use Rattle.v_print.proofs.Loops.{loop_begins, loop_goes_on, loop_ends}
use Rattle.v_print.proofs.Written.{then}
use Rattle.v_syntax.specs.Source.{parameter_of}
use Rattle.v_print_source.specs.Shown.{printed_parameter}
use Rattle.v_print_source.proofs.Wholes.{parts_front}
use Rattle.v_print_source.proofs.module.write_parameters.Goals as goal

pub loop-parameter-init : goal.loop-parameter-init
loop-parameter-init c = loop_begins (parts_front printed_parameter parameter_of) c.args.parameters.now false c.args.out.now

pub loop-parameter-preserved : goal.loop-parameter-preserved
loop-parameter-preserved c =
    loop_goes_on (parts_front printed_parameter parameter_of) c.args.parameters.now c.loop-parameter.parameter-index c.parameter-item.result c.loop-parameter.started true (λ r. parted c.loop-parameter.started (printed_parameter (parameter_of c.parameter-item.result) r)) c.loop-parameter-test.true
    c.parameter-item.is (λ ys r. refl) c.loop-parameter.invariant (then c.in_ok-separate.ensures c.in_ok-write_parameter.ensures)

pub returns : goal.returns
returns c = loop_ends (parts_front printed_parameter parameter_of) c.args.parameters.now c.loop-parameter.parameter-index c.loop-parameter.started c.loop-parameter-test.false (λ r. refl) c.loop-parameter.invariant

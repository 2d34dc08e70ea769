use Rattle.std.proofs.Common.{true, refl}
use Rattle.v_print.proofs.Loops.{loop_begins, loop_goes_on, loop_ends}
use Rattle.v_print.proofs.Written.{then}
use Rattle.v_syntax.specs.Source.{module_of}
use Rattle.v_print_source.specs.Shown.{printed_module}
use Rattle.v_print_source.proofs.Wholes.{row_front}
use Rattle.v_print_source.proofs.module.write_modules.Goals as goal

pub loop-module-init : goal.loop-module-init
loop-module-init c = loop_begins (row_front (printed_module c.args.colons) module_of) c.args.modules.now true c.args.out.now

pub loop-module-preserved : goal.loop-module-preserved
loop-module-preserved c =
    loop_goes_on (row_front (printed_module c.args.colons) module_of) c.args.modules.now c.loop-module.module-index c.module-item.result true true (λ r. printed_module c.args.colons (module_of c.module-item.result) r) c.loop-module-test.true
    c.module-item.is (λ ys r. refl) c.loop-module.invariant (then c.in_ok-line_if.ensures (then c.in_ok-write_module.ensures c.in_ok-begin_line.ensures))

pub returns : goal.returns
returns c = loop_ends (row_front (printed_module c.args.colons) module_of) c.args.modules.now c.loop-module.module-index true c.loop-module-test.false (λ r. refl) c.loop-module.invariant

use Rattle.std.proofs.Common.{true, false, refl}
use Rattle.v_print.specs.Spelled.{parted}
use Rattle.v_print.proofs.Loops.{loop_begins, loop_goes_on, loop_ends}
use Rattle.v_print.proofs.Written.{then}
use Rattle.v_print_source.specs.Lists.{setting_of}
use Rattle.v_print_source.specs.Shown.{printed_setting}
use Rattle.v_print_source.proofs.Wholes.{parts_front}
use Rattle.v_print_source.proofs.declaration.write_settings.Goals as goal

pub loop-setting-init : goal.loop-setting-init
loop-setting-init c = loop_begins (parts_front printed_setting setting_of) c.args.settings.now false c.args.out.now

pub loop-setting-preserved : goal.loop-setting-preserved
loop-setting-preserved c =
    loop_goes_on (parts_front printed_setting setting_of) c.args.settings.now c.loop-setting.setting-index c.setting-item.result c.loop-setting.started true (λ r. parted c.loop-setting.started (printed_setting (setting_of c.setting-item.result) r)) c.loop-setting-test.true
    c.setting-item.is (λ ys r. refl) c.loop-setting.invariant (then c.in_ok-comma_if.ensures c.in_ok-write_setting.ensures)

pub returns : goal.returns
returns c = loop_ends (parts_front printed_setting setting_of) c.args.settings.now c.loop-setting.setting-index c.loop-setting.started c.loop-setting-test.false (λ r. refl) c.loop-setting.invariant

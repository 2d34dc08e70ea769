use Rattle.std.proofs.Common.{false}
use Rattle.v_print.proofs.Loops.{IsLoop}
use Rattle.v_print_source.specs.Lists.{setting_of}
use Rattle.v_print_source.specs.Shown.{printed_setting}
use Rattle.v_print_source.proofs.Wholes.{parts_front}
use Rattle.v_print_source.proofs.declaration.write_settings.Given as goal

abbrev pub invariant-loop-setting : goal.invariant-loop-setting
invariant-loop-setting l = IsLoop (parts_front printed_setting setting_of) l.settings l.setting-index l.started l.initial.out l.out (parts_front printed_setting setting_of false l.settings)

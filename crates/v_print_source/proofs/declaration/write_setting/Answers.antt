use Rattle.v_print.proofs.Written.{then, as_front}
use Rattle.v_print_source.proofs.Wholes.{setting_whole}
use Rattle.v_print_source.proofs.declaration.write_setting.Goals as goal

pub returns : goal.returns
returns c = as_front (setting_whole c.args.setting.now) (then c.in_ok-word.ensures (then c.in_ok-between.ensures c.in_ok-write.ensures))

use Rattle.v_print.proofs.Written.{then, as_front}
use Rattle.v_print_source.proofs.Wholes.{parameter_whole}
use Rattle.v_print_source.proofs.declaration.write_parameter.Goals as goal

pub returns : goal.returns
returns c = as_front (parameter_whole c.args.parameter.now c.parameter_word.result.now c.deref.result.now c.parameter_word.ensures c.deref.ensures.value)
    (then c.in_ok-word.ensures (then c.in_ok-write_signed.ensures (then c.in_ok-write_range.ensures (then c.in_ok-blank.ensures.reads c.in_ok-write_settings.ensures))))

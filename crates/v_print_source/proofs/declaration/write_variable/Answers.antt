use Rattle.v_print.proofs.Written.{then, as_front}
use Rattle.v_print_source.proofs.Wholes.{variable_whole}
use Rattle.v_print_source.proofs.declaration.write_variable.Goals as goal

pub returns : goal.returns
returns c = as_front (variable_whole c.args.variable.now) (then c.in_ok-word.ensures c.in_ok-write_range.ensures)

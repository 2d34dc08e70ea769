use Rattle.v_print.proofs.Written.{as_front}
use Rattle.v_print_source.proofs.Wholes.{continuous_whole}
use Rattle.v_print_source.proofs.item.write_continuous.Goals as goal

pub returns : goal.returns
returns c = as_front (continuous_whole c.args.assignment.now) c.in_ok-write_assignment.ensures

use Rattle.v_print.proofs.Written.{then, as_front}
use Rattle.v_print_source.proofs.Wholes.{instance_whole}
use Rattle.v_print_source.proofs.connection.write_instance.Goals as goal

pub returns : goal.returns
returns c = as_front (instance_whole c.args.instance.now) (then c.in_ok-word.ensures (then c.in_ok-blank.ensures.reads (then c.in_ok-mark.ensures c.in_ok-write_connections.ensures)))

use Rattle.v_print.proofs.Written.{then, as_front}
use Rattle.v_print_source.proofs.Wholes.{named_whole}
use Rattle.v_print_source.proofs.connection.write_named.Goals as goal

pub returns : goal.returns
returns c = as_front (named_whole c.args.connection.now) (then c.in_ok-mark.ensures (then c.in_ok-word.ensures (then c.in_ok-mark-2.ensures (then c.in_ok-write_entry.ensures c.in_ok-mark-3.ensures))))

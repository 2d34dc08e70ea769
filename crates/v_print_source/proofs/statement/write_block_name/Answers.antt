use Rattle.v_print.proofs.Written.{then, as_front}
use Rattle.v_print.proofs.Written.{nothing_written}
use Rattle.v_print_source.proofs.Fronts.{block_named, block_unnamed}
use Rattle.v_print_source.proofs.statement.write_block_name.Goals as goal

pub returns-in_ok-word-in-Some : goal.returns-in_ok-word-in-Some
returns-in_ok-word-in-Some c = as_front (block_named c.args.name.now c.in-Some.text c.in-Some.is) (then c.in_ok-between-in-Some.ensures c.in_ok-word-in-Some.ensures)

pub returns-in-None : goal.returns-in-None
returns-in-None c = as_front (block_unnamed c.args.name.now c.in-None.is) (nothing_written c.args.out.now)

use Rattle.v_print.proofs.Written.{as_front, nothing_written}
use Rattle.v_print_source.proofs.Wholes.{entry_arm, no_entry}
use Rattle.v_print_source.proofs.connection.write_entry.Goals as goal

pub returns-in_ok-write-in-Some : goal.returns-in_ok-write-in-Some
returns-in_ok-write-in-Some c = as_front (entry_arm c.args.entry.now c.in-Some.expression c.in-Some.is) c.in_ok-write-in-Some.ensures

pub returns-in-None : goal.returns-in-None
returns-in-None c = as_front (no_entry c.args.entry.now c.in-None.is) (nothing_written c.args.out.now)

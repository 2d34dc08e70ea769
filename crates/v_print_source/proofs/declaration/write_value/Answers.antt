use Rattle.v_print.proofs.Written.{then, as_front, nothing_written}
use Rattle.v_print_source.proofs.Wholes.{value_arm, no_value}
use Rattle.v_print_source.proofs.declaration.write_value.Goals as goal

pub returns-in_ok-write-in-Some : goal.returns-in_ok-write-in-Some
returns-in_ok-write-in-Some c = as_front (value_arm c.args.value.now c.in-Some.expression c.deref.result.now c.in-Some.is c.deref.ensures) (then c.in_ok-between-in-Some.ensures c.in_ok-write-in-Some.ensures)

pub returns-in-None : goal.returns-in-None
returns-in-None c = as_front (no_value c.args.value.now c.in-None.is) (nothing_written c.args.out.now)

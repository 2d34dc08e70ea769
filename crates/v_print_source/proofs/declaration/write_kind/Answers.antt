use Rattle.v_print.proofs.Written.{as_front, nothing_written}
use Rattle.v_print_source.proofs.Wholes.{kind_arm, no_kind_arm}
use Rattle.v_print_source.proofs.declaration.write_kind.Goals as goal

pub returns-in_ok-word-in-Some : goal.returns-in_ok-word-in-Some
returns-in_ok-word-in-Some c = as_front (kind_arm c.args.kind c.in-Some.net c.net_word.result.now c.in-Some.is c.net_word.ensures) c.in_ok-word-in-Some.ensures

pub returns-in-None : goal.returns-in-None
returns-in-None c = as_front (no_kind_arm c.args.kind c.in-None.is) (nothing_written c.args.out.now)

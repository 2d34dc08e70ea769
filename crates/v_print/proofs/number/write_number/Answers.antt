use Rattle.v_syntax.specs.Tree.{number_of}
use Rattle.v_print.proofs.Shown.{plain_shown, based_shown}
use Rattle.v_print.proofs.Written.{then, as_front}
use Rattle.v_print.proofs.number.write_number.Goals as goal

pub returns-then-plain : goal.returns-then-plain
returns-then-plain c = as_front (plain_shown (number_of c.args.number.now) c.is_plain-plain.result c.is_plain-plain.ensures c.if-plain.true) c.in_ok-decimal.ensures

pub returns : goal.returns
returns c = as_front (based_shown (number_of c.args.number.now) c.is_plain-plain.result c.is_plain-plain.ensures c.if-plain.false) (then c.in_ok-write_size.ensures c.in_ok-write_based.ensures)

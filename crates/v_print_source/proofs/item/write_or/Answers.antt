use Rattle.std.proofs.Common.{sym, subst}
use Rattle.v_print.specs.Bodies.{or_if}
use Rattle.v_print.specs.Writes.{Writes}
use Rattle.v_print.proofs.Written.{nothing_written}
use Rattle.v_print_source.proofs.item.write_or.Goals as goal

pub returns-then-not-wanted : goal.returns-then-not-wanted
returns-then-not-wanted c = subst (λ b. Writes c.args.out.now c.args.out.now (λ r. or_if b r)) (sym c.if-not-wanted.true) (nothing_written c.args.out.now)

pub returns : goal.returns
returns c = subst (λ b. Writes c.args.out.now c.word.new.self (λ r. or_if b r)) (sym c.if-not-wanted.false) c.in_ok-word.ensures

use Rattle.std.proofs.Common.{sym, subst}
use Rattle.v_print.specs.Writes.{Writes}
use Rattle.v_print.proofs.Written.{then, nothing_written}
use Rattle.v_print_source.specs.Shown.{else_if}
use Rattle.v_print_source.proofs.statement.write_else.Goals as goal

pub returns-then-not-wanted : goal.returns-then-not-wanted
returns-then-not-wanted c = subst (λ b. Writes c.args.out.now c.args.out.now (λ r. else_if b r)) (sym c.if-not-wanted.true) (nothing_written c.args.out.now)

pub returns : goal.returns
returns c = subst (λ b. Writes c.args.out.now c.word.new.self (λ r. else_if b r)) (sym c.if-not-wanted.false) (then c.in_ok-gap.ensures c.in_ok-word.ensures)

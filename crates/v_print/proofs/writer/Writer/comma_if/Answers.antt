use Rattle.std.proofs.Common.{sym, subst}
use Rattle.v_print.specs.Spelled.{parted}
use Rattle.v_print.specs.Writes.{Writes}
use Rattle.v_print.proofs.Written.{nothing_written}
use Rattle.v_print.proofs.writer.Writer.comma_if.Goals as goal

pub returns-then-not-wanted : goal.returns-then-not-wanted
returns-then-not-wanted c = subst (λ b. Writes c.args.self.now c.args.self.now (λ r. parted b r)) (sym c.if-not-wanted.true) (nothing_written c.args.self.now)

pub returns : goal.returns
returns c = subst (λ b. Writes c.args.self.now c.followed.new.self (λ r. parted b r)) (sym c.if-not-wanted.false) c.in_ok-followed.ensures

use Rattle.std.proofs.Common.{sym, subst, ◌∷◌}
use Rattle.std.specs.Prelude.{cond}
use Rattle.verilog_text.specs.Token.{mark}
use Rattle.v_token.specs.View.{mark_of}
use Rattle.v_print.specs.Writes.{Writes}
use Rattle.v_print.proofs.Written.{nothing_written}
use Rattle.v_print.proofs.writer.Writer.mark_if.Goals as goal

pub returns-then-not-wanted : goal.returns-then-not-wanted
returns-then-not-wanted c = subst (λ b. Writes c.args.self.now c.args.self.now (λ r. cond b (mark (mark_of c.args.mark) ∷ r) r)) (sym c.if-not-wanted.true) (nothing_written c.args.self.now)

pub returns : goal.returns
returns c = subst (λ b. Writes c.args.self.now c.mark.new.self (λ r. cond b (mark (mark_of c.args.mark) ∷ r) r)) (sym c.if-not-wanted.false) c.in_ok-mark.ensures

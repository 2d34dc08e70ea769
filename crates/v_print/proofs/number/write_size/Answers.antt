use Rattle.std.proofs.Common.{sym, subst, ◌∷◌}
use Rattle.std.specs.Prelude.{cond}
use Rattle.std.specs.Fmt.{decimal as numeral}
use Rattle.verilog_text.specs.Token.{decimal}
use Rattle.v_print.specs.Writes.{Writes}
use Rattle.v_print.proofs.Written.{nothing_written}
use Rattle.v_print.proofs.number.write_size.Goals as goal

pub returns-then-not-sized : goal.returns-then-not-sized
returns-then-not-sized c = subst (λ b. Writes c.args.out.now c.args.out.now (λ r. cond b (decimal (numeral c.args.number.now.width) ∷ r) r)) (sym c.if-not-sized.true) (nothing_written c.args.out.now)

pub returns : goal.returns
returns c = subst (λ b. Writes c.args.out.now c.decimal.new.self (λ r. cond b (decimal (numeral c.args.number.now.width) ∷ r) r)) (sym c.if-not-sized.false) c.in_ok-decimal.ensures

use Rattle.std.proofs.Common.{subst, ◌∷◌}
use Rattle.std.specs.Prelude.{cond}
use Rattle.verilog_text.specs.Token.{semicolon, mark}
use Rattle.v_print.specs.Writes.{Writes}
use Rattle.v_print_source.proofs.statement.write_nothing.Goals as goal

pub returns : goal.returns
returns c = subst (λ b. Writes c.args.out.now c.mark_if.new.self (λ r. cond b (mark semicolon ∷ r) r)) c.is_nil.ensures c.in_ok-mark_if.ensures

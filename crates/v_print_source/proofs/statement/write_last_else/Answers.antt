use Rattle.std.proofs.Common.{subst}
use Rattle.std.specs.Prelude.{not}
use Rattle.v_print.specs.Writes.{Writes}
use Rattle.v_print_source.specs.Shown.{else_if}
use Rattle.v_print_source.proofs.statement.write_last_else.Goals as goal

pub returns : goal.returns
returns c = subst (λ b. Writes c.args.out.now c.write_else.new.out (λ r. else_if (not b) r)) c.is_nil.ensures c.in_ok-write_else.ensures

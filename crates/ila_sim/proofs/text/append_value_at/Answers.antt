use Rattle.std.proofs.Common.{get_or}
use Rattle.wb_values.specs.Value.{number}
use Rattle.ila_sim.proofs.text.append_value_at.Goals as goal

pub returns-then-place-len : goal.returns-then-place-len
returns-then-place-len c = c.in_ok-append_value.ensures (get_or c.args.values.now c.args.place (number 0)) c.in_ok-shown.ensures

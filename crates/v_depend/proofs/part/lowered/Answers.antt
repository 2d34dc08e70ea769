use Rattle.std.proofs.Common.{rules}
use Rattle.v_depend.proofs.Shifts.{set-lowered, far-lowered}
use Rattle.v_depend.proofs.part.lowered.Goals as goal

pub returns-then-places-lt128 : goal.returns-then-places-lt128
returns-then-places-lt128 c = λ b. set-lowered c.args.value c.args.places b

pub returns-else-places-lt128 : goal.returns-else-places-lt128
returns-else-places-lt128 c = λ b. far-lowered c.args.value c.args.places b (search rules) c.if-places-lt128.false

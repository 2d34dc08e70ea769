use Rattle.v_depend.proofs.Shifts.{set-raised, far-raised}
use Rattle.v_depend.proofs.part.raised.Goals as goal

pub returns-then-places-lt128 : goal.returns-then-places-lt128
returns-then-places-lt128 c = λ b l. set-raised 128 c.args.value c.args.places b l

pub returns-else-places-lt128 : goal.returns-else-places-lt128
returns-else-places-lt128 c = λ b l. far-raised c.args.value c.args.places b c.if-places-lt128.false l

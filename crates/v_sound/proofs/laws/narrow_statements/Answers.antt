use Rattle.v_sound.proofs.Fitting.{statement-narrow}
use Rattle.v_sound.proofs.laws.narrow_statements.Goals as goal

pub returns : goal.returns
returns c = λ s clocked x objects h. statement-narrow s objects clocked x h

use Rattle.v_sound.proofs.Told.{told-items}
use Rattle.v_sound.proofs.laws.nets_as_constants.Goals as goal

pub returns : goal.returns
returns c = λ s t net same nets source items. (told-items s t net same nets source items).told

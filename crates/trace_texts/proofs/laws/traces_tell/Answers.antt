use Rattle.trace_texts.proofs.Told.{is_told}
use Rattle.trace_texts.proofs.laws.traces_tell.Goals as goal

pub returns : goal.returns
returns c = is_told

use Rattle.emitted_modules.proofs.Emitted as lemma
use Rattle.emitted_modules.proofs.laws.flat_models_are_emitted.Goals as goal

pub returns : goal.returns
returns c = lemma.flat_models_are_emitted

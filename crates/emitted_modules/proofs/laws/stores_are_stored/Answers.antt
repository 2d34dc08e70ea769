use Rattle.emitted_modules.proofs.Stored as lemma
use Rattle.emitted_modules.proofs.laws.stores_are_stored.Goals as goal

pub returns : goal.returns
returns c = lemma.stores_are_stored

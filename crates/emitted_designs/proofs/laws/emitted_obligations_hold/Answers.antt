use Rattle.emitted_designs.proofs.Obligations as lemma
use Rattle.emitted_designs.proofs.laws.emitted_obligations_hold.Goals as goal

pub returns : goal.returns
returns c = lemma.emitted_obligations_hold

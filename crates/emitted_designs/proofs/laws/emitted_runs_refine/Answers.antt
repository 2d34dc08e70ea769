use Rattle.emitted_designs.proofs.Refining as lemma
use Rattle.emitted_designs.proofs.laws.emitted_runs_refine.Goals as goal

pub returns : goal.returns
returns c = lemma.emitted_runs_refine

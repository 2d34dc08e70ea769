use Rattle.fact_terms.proofs.facts.one_decodes_there.Goals as goal

pub returns : goal.returns
returns c g r = r.started

use Rattle.v_operators.proofs.Growing.{Grows-refl}
use Rattle.path_terms.proofs.reading.mapped_term.Goals as goal

pub returns-in-Memory-clause-grows : goal.returns-in-Memory-clause-grows
returns-in-Memory-clause-grows c = Grows-refl c.args.terms.now

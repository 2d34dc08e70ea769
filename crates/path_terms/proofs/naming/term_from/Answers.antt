use Rattle.v_operators.proofs.Growing.{Grows-refl}
use Rattle.path_terms.proofs.naming.term_from.Goals as goal

pub returns-in-Settled-clause-grows : goal.returns-in-Settled-clause-grows
returns-in-Settled-clause-grows c = Grows-refl c.args.terms.now

use Rattle.v_operators.proofs.Growing.{Grows-refl}
use Rattle.path_terms.proofs.naming.enter.Goals as goal

pub returns-in-None-clause-grows : goal.returns-in-None-clause-grows
returns-in-None-clause-grows c = Grows-refl c.args.terms.now

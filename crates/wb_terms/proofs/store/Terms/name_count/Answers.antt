use Rattle.wb_terms.proofs.StoreLemmas.{distinct_of_store}
use Rattle.wb_terms.proofs.store.Terms.name_count.Goals as goal

pub returns-clause-distinct : goal.returns-clause-distinct
returns-clause-distinct c = distinct_of_store c.self.inside.names.items c.self.inside.terms.items _ c.self.view_is c.self.invariant

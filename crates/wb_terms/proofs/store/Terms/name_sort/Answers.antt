use Rattle.wb_terms.proofs.StoreLemmas.{name_in_range, distinct_of_store}
use Rattle.wb_terms.proofs.store.Terms.name_sort.Goals as goal

pub returns-clause-in_range : goal.returns-clause-in_range
returns-clause-in_range c = name_in_range c.self.inside.names.items c.self.inside.terms.items _ _ _ c.self.view_is c.self.invariant c.requires c.index.ensures

pub returns-clause-distinct : goal.returns-clause-distinct
returns-clause-distinct c = distinct_of_store c.self.inside.names.items c.self.inside.terms.items _ c.self.view_is c.self.invariant

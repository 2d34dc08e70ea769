use Rattle.wb_terms.specs.Graph.{tree}
use Rattle.wb_terms.proofs.StoreLemmas.{entry_of_store}
use Rattle.wb_terms.proofs.InRange.{is_sort-sort_of}
use Rattle.wb_terms.proofs.store.Terms.sort.Goals as goal

pub returns-clause-sort : goal.returns-clause-sort
returns-clause-sort c = (entry_of_store c.self.inside.names.items c.self.inside.terms.items _ _ _ c.self.view_is c.self.invariant c.requires c.index.ensures).sort

pub returns-clause-in_range : goal.returns-clause-in_range
returns-clause-in_range c =
    let e = entry_of_store c.self.inside.names.items c.self.inside.terms.items _ _ _ c.self.view_is c.self.invariant c.requires c.index.ensures in
    is_sort-sort_of (tree c.args.self.now c.args.id.0) _ e.sort

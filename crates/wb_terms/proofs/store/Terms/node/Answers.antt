use Rattle.wb_terms.proofs.StoreLemmas.{entry_of_store}
use Rattle.wb_terms.proofs.store.Terms.node.Goals as goal

pub returns-clause-tree : goal.returns-clause-tree
returns-clause-tree c = (entry_of_store c.self.inside.names.items c.self.inside.terms.items _ _ _ c.self.view_is c.self.invariant c.requires c.index.ensures).tree

pub returns-clause-over : goal.returns-clause-over
returns-clause-over c =
    let e = entry_of_store c.self.inside.names.items c.self.inside.terms.items _ _ _ c.self.view_is c.self.invariant c.requires c.index.ensures in
    record { operands = e.operands; names = e.names }

pub returns-clause-sorted : goal.returns-clause-sorted
returns-clause-sorted c =
    let e = entry_of_store c.self.inside.names.items c.self.inside.terms.items _ _ _ c.self.view_is c.self.invariant c.requires c.index.ensures in
    rw e.sort

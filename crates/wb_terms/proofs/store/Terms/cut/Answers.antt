use Rattle.std.proofs.Common.{◌∙◌, ap}
use Rattle.wb_terms.specs.Graph.{trees_of}
use Rattle.wb_terms.proofs.StoreLemmas.{IsWellSorted-take, graph_of-take, trees_of-take}
use Rattle.wb_terms.proofs.store.Terms.cut.Goals as goal

pub invariant_of-self : goal.invariant_of-self
invariant_of-self c = rw c.truncate.ensures.items (IsWellSorted-take c.self.inside.names.items c.self.inside.terms.items _ c.self.invariant)

pub returns-clause-nodes : goal.returns-clause-nodes
returns-clause-nodes c = rw c.truncate.ensures.items (graph_of-take c.self.inside.names.items c.self.inside.terms.items _ _ c.self.view_is)

pub returns-clause-trees : goal.returns-clause-trees
returns-clause-trees c = rw c.truncate.ensures.items (ap trees_of (graph_of-take c.self.inside.names.items c.self.inside.terms.items _ _ c.self.view_is) ∙ trees_of-take c.args.self.now _)

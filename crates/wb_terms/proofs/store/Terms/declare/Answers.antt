use Rattle.std.proofs.Common.{◌∙◌, not, sym, ap}
use Rattle.wb_terms.specs.Graph.{trees_of}
use Rattle.wb_terms.proofs.StoreLemmas.{IsWellSorted-declare, trees_of-declare}
use Rattle.wb_terms.proofs.store.Terms.declare.Goals as goal

pub invariant_of-self-2 : goal.invariant_of-self-2
invariant_of-self-2 c =
    let ok = c.is_err.ensures.negation ∙ ap not c.if-is_err.false in
    let pushed = rw ok at c.push.ensures.items in
    rw pushed (IsWellSorted-declare c.self.inside.names.items c.self.inside.terms.items _ (record { name = c.args.name; sort = c.args.sort }) c.self.view_is c.self.invariant c.requires (sym c.is_sort.ensures ∙ c.if-not-is_sort.false))

pub returns-clause-trees : goal.returns-clause-trees
returns-clause-trees c =
    let ok = c.is_err.ensures.negation ∙ ap not c.if-is_err.false in
    let pushed = rw ok at c.push.ensures.items in
    rw pushed (trees_of-declare c.self.inside.names.items c.self.inside.terms.items (record { name = c.args.name; sort = c.args.sort }) c.self.invariant ∙ ap trees_of c.self.view_is)

use Rattle.std.proofs.Common.{◌∙◌, not, sym, ap}
use Rattle.wb_terms.proofs.StoreLemmas.{IsWellSorted-push, trees_of_store-push}
use Rattle.wb_terms.proofs.store.Terms.put.Goals as goal

pub invariant_of-self-2 : goal.invariant_of-self-2
invariant_of-self-2 c =
    let ok = c.is_err.ensures.negation ∙ ap not c.if-is_err.false in
    let pushed = rw ok at c.push.ensures.items in
    rw pushed (IsWellSorted-push c.self.inside.names.items c.self.inside.terms.items _ (record { node = c.args.node; sort = c.in-Some.sort }) c.self.view_is c.self.invariant c.requires (sym c.in-Some.ensures))

pub returns-clause-trees : goal.returns-clause-trees
returns-clause-trees c =
    let ok = c.is_err.ensures.negation ∙ ap not c.if-is_err.false in
    let pushed = rw ok at c.push.ensures.items in
    rw pushed (trees_of_store-push c.self.inside.names.items c.self.inside.terms.items _ (record { node = c.args.node; sort = c.in-Some.sort }) c.self.view_is)

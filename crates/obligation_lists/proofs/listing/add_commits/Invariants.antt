use Rattle.std.proofs.Common.{◌≤◌}
use Rattle.refinement.specs.Obligation.{for_each, commit_obligations}
use Rattle.ila_model.specs.Model.{model_of}
use Rattle.obligation_lists.specs.Growth.{Adds}
use Rattle.obligation_lists.proofs.listing.add_commits.Given as goal

abbrev pub invariant-loop-cycle : goal.invariant-loop-cycle
invariant-loop-cycle l =
    (l.cycle ≤ l.fn.bound)
    × Adds (model_of l.model) l.fn.counts l.fn.list.items l.list.items
    (λ p. for_each (commit_obligations (model_of l.model) p l.fn.place l.fn.name) 0 l.cycle)

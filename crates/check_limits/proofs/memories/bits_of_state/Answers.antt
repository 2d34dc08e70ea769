use Rattle.std.proofs.Common.{◌≡◌, true, subst}
use Rattle.model_meaning.specs.Term.{is_sort}
use Rattle.wb_terms.specs.Sort.{as_sort}
use Rattle.check_limits.proofs.Summing.{state_bound}
use Rattle.check_limits.proofs.memories.bits_of_state.Goals as goal

pub returns-in-Memory-clause-bound : goal.returns-in-Memory-clause-bound
returns-in-Memory-clause-bound c =
    state_bound c.in-Memory.address_width c.in-Memory.width c.from.result (subst (λ s. is_sort (as_sort s) ≡ true) c.in-Memory.is c.requires) c.from.ensures

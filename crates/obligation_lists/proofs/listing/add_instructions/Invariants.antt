use Rattle.std.proofs.Common.{take}
use Rattle.model_meaning.specs.Model.{instructions_in}
use Rattle.refinement.specs.Obligation.{all_instruction_obligations}
use Rattle.ila_model.specs.Model.{model_of}
use Rattle.obligation_lists.specs.Growth.{Adds}
use Rattle.obligation_lists.proofs.listing.add_instructions.Given as goal

abbrev pub invariant-loop-place : goal.invariant-loop-place
invariant-loop-place l =
    Adds (model_of l.model) l.fn.counts l.fn.list.items l.list.items
    (λ p. all_instruction_obligations (model_of l.model) p 0 (take l.place (instructions_in (model_of l.model).top)))

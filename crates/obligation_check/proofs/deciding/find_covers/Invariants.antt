-- The first ones are found.
use Rattle.std.proofs.Common.{◌≡◌, length}
use Rattle.ila_model.specs.Model.{model_of}
use Rattle.mapped_designs.specs.View.{mapped_of}
use Rattle.obligation_terms.specs.Asked.{IsReadyFor}
use Rattle.obligation_check.specs.Decided.{AreCoveredBy}
use Rattle.obligation_check.proofs.deciding.find_covers.Given as goal

abbrev pub invariant-loop-instruction : goal.invariant-loop-instruction
invariant-loop-instruction l =
    IsReadyFor (model_of l.fn.model) (mapped_of l.fn.mapped) l.terms × (length l.found.items ≡ l.instruction)
    × AreCoveredBy (model_of l.fn.model) (mapped_of l.fn.mapped) l.fn.budget l.found.items

-- The first ones are found.
use Rattle.std.proofs.Common.{◌≡◌, length}
use Rattle.ila_model.specs.Model.{model_of}
use Rattle.mapped_designs.specs.View.{mapped_of}
use Rattle.obligation_terms.specs.Asked.{IsReadyFor}
use Rattle.obligation_check.specs.Decided.{AreFoundBy}
use Rattle.obligation_check.proofs.deciding.find_obligations.Given as goal

abbrev pub invariant-loop-obligation : goal.invariant-loop-obligation
invariant-loop-obligation l =
    IsReadyFor (model_of l.fn.model) (mapped_of l.fn.mapped) l.terms × (length l.found.items ≡ l.obligation-index)
    × AreFoundBy (model_of l.fn.model) (mapped_of l.fn.mapped) l.fn.budget l.fn.obligations l.found.items

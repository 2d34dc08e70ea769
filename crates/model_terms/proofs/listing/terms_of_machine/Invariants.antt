use Rattle.std.proofs.Common.{◌≡◌, ◌∷◌, ◌++◌, drop}
use Rattle.model_terms.specs.Copied.{terms_of_instructions}
use Rattle.model_terms.proofs.listing.terms_of_machine.Given as goal

abbrev pub invariant-loop-place : goal.invariant-loop-place
invariant-loop-place l = l.ids.items ++ terms_of_instructions (drop l.place l.instructions) ≡ l.fn.valid ∷ terms_of_instructions l.instructions

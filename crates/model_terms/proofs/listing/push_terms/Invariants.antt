use Rattle.std.proofs.Common.{◌≡◌, ◌∷◌, ◌++◌, drop}
use Rattle.model_terms.specs.Copied.{terms_of_instruction}
use Rattle.model_terms.proofs.Programming.{terms_of_updates}
use Rattle.model_terms.proofs.listing.push_terms.Given as goal

abbrev pub invariant-loop-place : goal.invariant-loop-place
invariant-loop-place l = l.ids.items ++ terms_of_updates (drop l.place l.updates) ≡ l.fn.ids.items ++ terms_of_instruction l.instruction

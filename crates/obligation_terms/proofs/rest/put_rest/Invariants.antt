use Rattle.std.specs.Prelude.{ℕ, ◌<◌, ⊤}
use Rattle.term_copies.specs.Copies.{IsExtended}
use Rattle.v_design.specs.Seen.{parts_of}
use Rattle.condition_terms.specs.Told.{Tells}
use Rattle.obligation_terms.proofs.Resting.{IsCountedAt}
use Rattle.obligation_terms.proofs.rest.put_rest.Given as goal

abbrev pub invariant-loop-place : goal.invariant-loop-place
invariant-loop-place l =
    IsExtended l.fn.terms l.terms
    × Tells l.terms l.all.0 (λ v. ⊤ × ((k : ℕ) → k < l.place → IsCountedAt l.fn.terms (parts_of l.design).bits l.registers k v))

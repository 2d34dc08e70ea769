use Rattle.std.specs.Prelude.{ℕ, ◌<◌, IsTrue, slice_index}
use Rattle.term_copies.specs.Copies.{IsExtended}
use Rattle.condition_terms.specs.Told.{Tells, is_true}
use Rattle.condition_terms.proofs.Comparing.{word_of}
use Rattle.obligation_terms.specs.Rest.{IsWithin}
use Rattle.obligation_terms.proofs.rest.and_words_within.Given as goal

abbrev pub invariant-loop-address : goal.invariant-loop-address
invariant-loop-address l =
    IsExtended l.fn.terms l.terms
    × Tells l.terms l.together.0 (λ v. IsTrue (is_true l.fn.terms l.fn.all.0 v) × ((k : ℕ) → k < l.address → IsWithin (slice_index l.masks k) (word_of l.fn.terms l.id.0 k v)))

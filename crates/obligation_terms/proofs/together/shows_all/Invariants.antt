use Rattle.std.specs.Prelude.{ℕ, ◌<◌, length}
use Rattle.ila_model.specs.Model.{model_of}
use Rattle.term_copies.specs.Copies.{IsExtended}
use Rattle.mapped_designs.specs.View.{mapped_of}
use Rattle.condition_terms.specs.Told.{Tells}
use Rattle.fact_terms.specs.Shown.{run_of}
use Rattle.fact_terms.proofs.Growing.{ShowsAt}
use Rattle.obligation_terms.proofs.together.shows_all.Given as goal

abbrev pub invariant-loop-place : goal.invariant-loop-place
invariant-loop-place l =
    IsExtended l.fn.terms l.terms
    × Tells l.terms l.all.0 (λ v. (k : ℕ) → k < l.place → ShowsAt (model_of l.shared.model.now) (mapped_of l.shared.mapped.now)
    (run_of (mapped_of l.shared.mapped.now) (length l.shared.read.now)) l.facts k v)

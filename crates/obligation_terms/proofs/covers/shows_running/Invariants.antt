use Rattle.std.specs.Prelude.{ℕ, ◌<◌, length}
use Rattle.refinement.specs.Obligation.{reset_inactive, assumed}
use Rattle.term_copies.specs.Copies.{IsExtended}
use Rattle.ila_model.specs.Model.{model_of}
use Rattle.mapped_designs.specs.View.{mapped_of}
use Rattle.mapped_designs.specs.Runs.{Shows}
use Rattle.condition_terms.specs.Told.{Tells}
use Rattle.fact_terms.specs.Shown.{run_of}
use Rattle.obligation_terms.proofs.covers.shows_running.Given as goal

abbrev pub invariant-loop-place : goal.invariant-loop-place
invariant-loop-place l =
    IsExtended l.fn.terms l.terms
    × Tells l.terms l.all.0 (λ v.
    Shows (model_of l.shared.model.now) (mapped_of l.shared.mapped.now) (run_of (mapped_of l.shared.mapped.now) (length l.shared.read.now) v) (reset_inactive l.cycle)
    × ((i : ℕ) → i < l.place
    → Shows (model_of l.shared.model.now) (mapped_of l.shared.mapped.now) (run_of (mapped_of l.shared.mapped.now) (length l.shared.read.now) v) (assumed i l.cycle)))

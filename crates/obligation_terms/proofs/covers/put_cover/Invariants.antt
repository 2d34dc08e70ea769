use Rattle.std.specs.Prelude.{◌≡◌, ◌+◌, ℕ, length}
use Rattle.wb_values.specs.Value.{truth}
use Rattle.refinement.specs.Map.{Map}
use Rattle.term_copies.specs.Copies.{IsExtended}
use Rattle.ila_model.specs.Model.{model_of}
use Rattle.mapped_designs.specs.Broken.{HasCountsOf}
use Rattle.mapped_designs.specs.View.{mapped_of}
use Rattle.mapped_designs.specs.Runs.{ShowsAll}
use Rattle.condition_terms.specs.Told.{Tells, IsTermOf}
use Rattle.fact_terms.specs.Shown.{run_of}
use Rattle.obligation_terms.specs.Open.{open_at}
use Rattle.obligation_terms.proofs.Holding.{EndsBefore}
use Rattle.obligation_terms.proofs.covers.put_cover.Given as goal

abbrev pub invariant-loop-cycle : goal.invariant-loop-cycle
invariant-loop-cycle l =
    IsExtended l.fn.terms l.terms × IsTermOf l.terms l.any.0 truth
    × ((p : Map) → HasCountsOf p (mapped_of l.shared.mapped.now)
    → Tells l.terms l.any.0 (λ v. EndsBefore (model_of l.shared.model.now) (mapped_of l.shared.mapped.now) p l.instruction
    (run_of (mapped_of l.shared.mapped.now) (length l.shared.read.now) v) l.cycle))
    × IsTermOf l.terms l.open.0 truth
    × ((p : Map) (c : ℕ) → HasCountsOf p (mapped_of l.shared.mapped.now) → l.cycle ≡ c + 1
    → Tells l.terms l.open.0 (λ v. ShowsAll (model_of l.shared.model.now) (mapped_of l.shared.mapped.now)
    (run_of (mapped_of l.shared.mapped.now) (length l.shared.read.now) v) (open_at p l.instruction c)))

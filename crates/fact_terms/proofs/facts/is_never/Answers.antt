use Rattle.std.proofs.Common.{length}
use Rattle.ila_model.specs.Model.{model_of}
use Rattle.refinement.specs.Obligation.{never}
use Rattle.mapped_designs.specs.View.{mapped_of}
use Rattle.mapped_designs.specs.Runs.{Shows}
use Rattle.condition_terms.proofs.Forming.{told_never}
use Rattle.fact_terms.specs.Shown.{run_of}
use Rattle.fact_terms.proofs.facts.is_never.Goals as goal

pub returns-clause-told : goal.returns-clause-told
returns-clause-told c =
    let h = c.args.shared.now in
    let m = model_of h.model.now in
    let e = mapped_of h.mapped.now in
    told_never c.in_ok-id.id.0 (λ v. Shows m e (run_of e (length h.read.now) v) never) c.in_ok-id.ensures.value (λ v f x. x)

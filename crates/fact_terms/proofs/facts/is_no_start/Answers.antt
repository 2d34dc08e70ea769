use Rattle.std.proofs.Common.{length}
use Rattle.ila_model.specs.Model.{model_of}
use Rattle.refinement.specs.Obligation.{start}
use Rattle.mapped_designs.specs.View.{mapped_of}
use Rattle.mapped_designs.specs.Runs.{Shows}
use Rattle.condition_terms.proofs.Forming.{told_not}
use Rattle.fact_terms.specs.Shown.{run_of}
use Rattle.fact_terms.proofs.facts.is_no_start.Goals as goal

pub negation-requires : goal.negation-requires
negation-requires c = (c.is_start-start.ensures c.args.terms.now c.requires.ready).condition

pub returns-clause-told : goal.returns-clause-told
returns-clause-told c =
    let h = c.args.shared.now in
    let m = model_of h.model.now in
    let e = mapped_of h.mapped.now in
    told_not c.in_ok-id.id.0 c.is_start-start.result.0 (λ v. Shows m e (run_of e (length h.read.now) v) (start c.args.cycle)) c.in_ok-id.ensures.extended
    (c.is_start-start.ensures c.args.terms.now c.requires.ready) c.in_ok-id.ensures.value

use Rattle.std.proofs.Common.{length}
use Rattle.wb_values.specs.Value.{truth}
use Rattle.ila_model.specs.Model.{model_of}
use Rattle.mapped_designs.specs.View.{mapped_of}
use Rattle.mapped_designs.specs.Runs.{worth_at}
use Rattle.run_terms.proofs.Copied.{is_term}
use Rattle.fact_terms.specs.Shown.{run_of}
use Rattle.fact_terms.proofs.Rows.{told_shown, start_term}
use Rattle.fact_terms.proofs.facts.is_start.Goals as goal

pub read_at-requires-clause-id : goal.read_at-requires-clause-id
read_at-requires-clause-id c =
    let e = mapped_of c.args.shared.now.mapped.now in
    (is_term e.parts.graph truth e.start (start_term (model_of c.args.shared.now.model.now) e c.requires.ready.1.sorted)).below

pub returns : goal.returns
returns c g r =
    let h = c.args.shared.now in
    let e = mapped_of h.mapped.now in
    told_shown c.read_at.result.0 (λ v. worth_at e.parts (run_of e (length h.read.now) v) c.args.cycle e.start) (c.read_at.ensures g truth r (start_term (model_of h.model.now) e r.sorted))

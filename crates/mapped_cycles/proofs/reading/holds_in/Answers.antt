use Rattle.std.proofs.Common.{◌∙◌, ap}
use Rattle.wb_values.specs.Value.{as_truth}
use Rattle.wb_terms.specs.declared.values.Env.{Env}
use Rattle.wb_terms.specs.Environment.{value_of}
use Rattle.v_design.specs.Seen.{parts_of}
use Rattle.mapped_cycles.proofs.Terms.{condition, worth}
use Rattle.mapped_cycles.proofs.reading.holds_in.Goals as goal

pub holds-requires-clause-condition : goal.holds-requires-clause-condition
holds-requires-clause-condition c = condition (parts_of c.args.mapped.now.design).graph c.args.id.0 c.requires.condition

pub returns : goal.returns
returns c rs is has =
    let d = parts_of c.args.mapped.now.design in
    c.holds.ensures ∙ (ap (λ (e : Env). as_truth (value_of d.graph e c.args.id.0)) c.env.ensures ∙ ap as_truth (worth d c.args.cycle.now.env rs is c.args.id.0 has))

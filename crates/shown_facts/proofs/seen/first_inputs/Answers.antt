use Rattle.std.proofs.Common.{◌∙◌, map, ap}
use Rattle.v_design.specs.Parts.{value_in}
use Rattle.v_cycle.specs.Running.{registers_in}
use Rattle.shown_facts.specs.Values.{map_in, inputs_given}
use Rattle.shown_facts.proofs.seen.first_inputs.Goals as goal

pub mapped_inputs-requires-clause-sorted : goal.mapped_inputs-requires-clause-sorted
mapped_inputs-requires-clause-sorted c = c.requires.given.sorted

pub returns-clause-values : goal.returns-clause-values
returns-clause-values c =
    let g = c.args.given.now in
    let e = map_in g in
    let w = inputs_given e.parts g.inputs.now 0 in
    c.in_ok-inputs.ensures.values (registers_in c.in_ok-cycle.cycle) w c.take_cycle.ensures.ran
    ∙ ap (λ rs. map (value_in e.parts rs w) e.inputs) c.in_ok-cycle.ensures.registers

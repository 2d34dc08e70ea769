use Rattle.std.proofs.Common.{◌∙◌, ap}
use Rattle.std.specs.List.{list_all}
use Rattle.ila_sim.proofs.Marked.{every_name}
use Rattle.ila_sim.proofs.missing.sets_all.Goals as goal

pub returns : goal.returns
returns c =
    c.are_all_true.ensures
    ∙ (ap (list_all (λ b. b)) (c.deref.ensures.value ∙ c.in_ok-marks.ensures.marked)
    ∙ every_name c.args.inputs.now c.args.sets.now c.requires.apart c.requires.places)

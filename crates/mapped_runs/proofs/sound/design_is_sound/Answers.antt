use Rattle.v_design.specs.Seen.{parts_of}
use Rattle.mapped_runs.proofs.Keeping.{keeps_sorts}
use Rattle.mapped_runs.proofs.sound.design_is_sound.Goals as goal

pub returns : goal.returns
returns c =
    let d = c.args.design.now in
    record {
      keeps = keeps_sorts (parts_of d) c.names_are_declared.ensures.distinct c.names_are_declared.ensures.declared d.sorted;
      counting = d.counting;
      words = d.words;
    }

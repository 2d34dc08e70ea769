use Rattle.std.proofs.Common.{ap, ◌∙◌, sym}
use Rattle.ila_file.specs.View.{fetch_view}
use Rattle.ila_rules.specs.Flaws.{look_fetch}
use Rattle.ila_rules.specs.View.{look_frames}
use Rattle.ila_rules.proofs.Frames.{none_in}
use Rattle.ila_rules.proofs.walk.fetch_frame.Goals as goal

pub returns-in-None-clause-look : goal.returns-in-None-clause-look
returns-in-None-clause-look c =
    none_in c.args.frames.now c.new.result c.new.ensures.look
    ∙ sym (ap (λ f. look_fetch (look_frames c.args.frames.now) (fetch_view f)) c.in-None.is)

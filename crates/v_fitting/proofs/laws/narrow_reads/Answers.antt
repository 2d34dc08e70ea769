use Rattle.v_fitting.proofs.Items.{reads-narrow}
use Rattle.v_fitting.proofs.laws.narrow_reads.Goals as goal

pub returns : goal.returns
returns c = λ source s items objects h. reads-narrow source s objects items h

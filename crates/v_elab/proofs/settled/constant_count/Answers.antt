use Rattle.std.proofs.Common.{◌∙◌, ap, length}
use Rattle.v_elab.proofs.NetTerms.{object_count}
use Rattle.v_elab.proofs.settled.constant_count.Goals as goal

pub returns : goal.returns
returns c = ap length c.declarations.ensures ∙ object_count c.args.place.now.constants.declarations.items

use Rattle.std.proofs.Common.{ap, bit_and, ◌∙◌}
use Rattle.std.proofs.lemmas.Nat.{and_mask}
use Rattle.v_write.proofs.choosing.lowest.Goals as goal

pub returns : goal.returns
returns c = ap (λ m. bit_and c.args.number m) c.mask.ensures ∙ and_mask c.args.number c.args.width

-- The mask keeps the remainder modulo 2^width.
use Rattle.std.proofs.Common.{ap, bit_and, ◌∙◌}
use Rattle.std.proofs.lemmas.Nat.{and_mask}
use Rattle.wb_bits.proofs.Word.lowest_bits.Goals as goal

pub returns-clause-value : goal.returns-clause-value
returns-clause-value c = ap (λ m. bit_and c.args.number m) c.mask.ensures ∙ and_mask c.args.number c.args.width

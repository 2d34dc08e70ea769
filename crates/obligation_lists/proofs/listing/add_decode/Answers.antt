use Rattle.std.proofs.Common.{refl}
use Rattle.refinement.specs.Obligation.{decode_obligation}
use Rattle.obligation_lists.proofs.Growing.{one, line_same}
use Rattle.obligation_lists.proofs.listing.add_decode.Goals as goal

pub returns : goal.returns
returns c =
    λ m counts.
    one m counts _ _ _ (λ p. decode_obligation p) c.in_ok-add.ensures (tt, tt) (λ p h. line_same _ _ _ _ _ _ c.in_ok-name.ensures.ok refl)

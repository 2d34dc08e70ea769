use Rattle.std.proofs.Common.{◌≤◌, refl, arith}
use Rattle.refinement.specs.Obligation.{bound_obligation}
use Rattle.obligation_lists.proofs.Growing.{one, line_same}
use Rattle.obligation_lists.proofs.listing.add_bound.Goals as goal

pub returns : goal.returns
returns c =
    let b = c.args.bound in
    let fits : b ≤ b = omega arith in
    λ m counts there.
    one m counts _ _ _ (λ p. bound_obligation p c.args.place c.args.name.now b) c.in_ok-add.ensures ((there, fits), tt)
    (λ p h. line_same _ _ _ _ _ _ c.in_ok-full.ensures refl)

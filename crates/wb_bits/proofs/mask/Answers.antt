-- All 128 ones, moved down.
use Rattle.std.proofs.Common.{◌≡◌, ◌-◌, ◌^◌, ◌≤◌, arith, ◌∙◌, ap}
use Rattle.std.proofs.lemmas.Nat.Bits.{ones_shr}
use Rattle.wb_bits.proofs.mask.Goals as goal

pub returns-else-width-eq0 : goal.returns-else-width-eq0
returns-else-width-eq0 c =
    let within : 128 - c.args.width ≤ 128 = omega arith in
    let width : 128 - (128 - c.args.width) ≡ c.args.width = omega (arith, c.requires) in
    ones_shr 128 (128 - c.args.width) within ∙ ap (λ w. 2 ^ w - 1) width

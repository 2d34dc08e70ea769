use Rattle.std.proofs.Common.{◌≡◌, ℕ, ◌+◌, ◌-◌, ◌*◌, ◌/◌, ◌%◌, ◌^◌, ◌<◌, ◌≤◌, min, refl, sym, ap, ◌∙◌, arith}
use Rattle.std.proofs.Math.Pow.{pow_mono}
use Rattle.v_statement.proofs.Cut.{past, written_up_to, written_fits, above_part, moved_up}
use Rattle.v_statement.proofs.place.with_bits_from.Goals as goal

-- the sum of the three parts, as the code makes them
sum_is : (w old k n x e below taken above : ℕ) → w ≤ 128 → k ≤ w → e ≡ min w (k + n) → old < 2 ^ w
    → below ≡ old % 2 ^ k → taken ≡ x % 2 ^ (e - k) → above ≡ old % 2 ^ e
    → below + taken * 2 ^ k % 2 ^ 128 + (old - above) ≡ old % 2 ^ k + 2 ^ k * (x % 2 ^ (e - k)) + 2 ^ e * (old / 2 ^ e)
sum_is w old k n x e below taken above h128 h is b p q r =
    ap (λ t. t + taken * 2 ^ k % 2 ^ 128 + (old - above)) p
    ∙ ap (λ t. old % 2 ^ k + t * 2 ^ k % 2 ^ 128 + (old - above)) q
    ∙ ap (λ t. old % 2 ^ k + t + (old - above)) (moved_up x k e 128 (omega arith) (omega arith))
    ∙ ap (λ t. old % 2 ^ k + 2 ^ k * (x % 2 ^ (e - k)) + (old - t)) r
    ∙ ap (λ t. old % 2 ^ k + 2 ^ k * (x % 2 ^ (e - k)) + t) (above_part old e)

sum_fits : (w old k n x e below taken above : ℕ) → w ≤ 128 → k ≤ w → e ≡ min w (k + n) → old < 2 ^ w
    → below ≡ old % 2 ^ k → taken ≡ x % 2 ^ (e - k) → above ≡ old % 2 ^ e
    → below + taken * 2 ^ k % 2 ^ 128 + (old - above) < 2 ^ 128
sum_fits w old k n x e below taken above h128 h is b p q r =
    let total = sum_is w old k n x e below taken above h128 h is b p q r in
    let small = written_fits w old k x e (omega arith) (omega arith) b in
    let power : 2 ^ w ≤ 2 ^ 128 = pow_mono h128 in
    omega (arith, total, small, power)

pub returns-then-low-from : goal.returns-then-low-from
returns-then-low-from c =
    sym (past c.args.width c.args.old c.args.low c.args.count c.args.number (omega arith) c.requires.fits)

pub overflow_add-result-2 : goal.overflow_add-result-2
overflow_add-result-2 c =
    let h : c.args.low ≤ c.args.width = omega arith in
    let is : c.min-to.result ≡ min c.args.width (c.args.low + c.args.count) = omega arith in
    let all = sum_fits c.args.width c.args.old c.args.low c.args.count c.args.number c.min-to.result _ _ _
    c.requires.at_most_128 h is c.requires.fits c.lowest-below.ensures c.lowest.ensures c.lowest-2.ensures in
    omega (arith, all)

pub overflow_add-result : goal.overflow_add-result
overflow_add-result c =
    let h : c.args.low ≤ c.args.width = omega arith in
    let is : c.min-to.result ≡ min c.args.width (c.args.low + c.args.count) = omega arith in
    let all = sum_fits c.args.width c.args.old c.args.low c.args.count c.args.number c.min-to.result _ _ (c.args.old % 2 ^ c.min-to.result)
    c.requires.at_most_128 h is c.requires.fits c.lowest-below.ensures c.lowest.ensures refl in
    omega (arith, all)

pub returns : goal.returns
returns c =
    let h : c.args.low ≤ c.args.width = omega arith in
    let is : c.min-to.result ≡ min c.args.width (c.args.low + c.args.count) = omega arith in
    sum_is c.args.width c.args.old c.args.low c.args.count c.args.number c.min-to.result _ _ _
    c.requires.at_most_128 h is c.requires.fits c.lowest-below.ensures c.lowest.ensures c.lowest-2.ensures
    ∙ sym (written_up_to c.args.width c.args.old c.args.low c.args.count c.args.number c.min-to.result h is c.requires.fits)

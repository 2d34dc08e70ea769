use Rattle.std.proofs.Common.{◌+◌, ◌-◌, ◌≤◌, Bool, true, false, arith}
use mir.Val.{bool_byte}
use Rattle.sat_gates.proofs.ReadingLemmas.{read_below}
use Rattle.sat_gates.proofs.reading.read_number.Goals as goal

small : (b : Bool) → bool_byte b ≤ 1
small true = omega arith
small false = omega arith

pub overflow_mul-number : goal.overflow_mul-number
overflow_mul-number c =
    let low = read_below c.args.assignment.now (c.args.first + c.loop-place.place) (c.args.width - c.loop-place.place) 127 (omega (arith, c.requires.width, c.loop-place-test.true)) in
    omega (arith, low, c.loop-place.invariant.1)

pub overflow_add-number : goal.overflow_add-number
overflow_add-number c = let b = c.from-in-loop-place.ensures in
    let low = read_below c.args.assignment.now (c.args.first + c.loop-place.place) (c.args.width - c.loop-place.place) 127 (omega (arith, c.requires.width, c.loop-place-test.true)) in
    omega (arith, low, c.loop-place.invariant.1, b, small c.value-bit.result)

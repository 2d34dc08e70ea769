use Rattle.std.proofs.Common.{◌<◌, ◌+◌, ◌*◌, ◌^◌, arith}
use Rattle.trace_reading.proofs.Rooms.{hexadecimal_room}
use Rattle.trace_reading.proofs.numbers.number_of_digits.Goals as goal

pub overflow_mul-number : goal.overflow_mul-number
overflow_mul-number c =
    let few : c.loop-digit.digit-index < 32 = omega arith in
    let room : c.loop-digit.number * 16 + 15 < 2 ^ 128 = hexadecimal_room c.loop-digit.number c.loop-digit.digit-index c.loop-digit.invariant.below few in
    omega arith

pub overflow_add-number : goal.overflow_add-number
overflow_add-number c =
    let few : c.loop-digit.digit-index < 32 = omega arith in
    let room : c.loop-digit.number * 16 + 15 < 2 ^ 128 = hexadecimal_room c.loop-digit.number c.loop-digit.digit-index c.loop-digit.invariant.below few in
    omega arith

use Rattle.std.proofs.Common.{refl}
use Rattle.v_value.specs.Index.{integer_at}
use Rattle.v_value.specs.Scope.{object_of}
use Rattle.v_value.proofs.Bits.{ascending_upward}
use Rattle.v_value.proofs.select.bits_upward.Goals as goal

pub returns-then-object : goal.returns-then-object
returns-then-object c =
    ascending_upward (object_of c.args.object) (integer_at c.args.base) c.args.count c.requires.some_bits c.if-object.true (integer_at c.place_of_bit-place.result) c.place_of_bit-place.ensures _ refl

use Rattle.std.proofs.Common.{nat_lt}
use Rattle.v_value.specs.Scope.{object_of}
use Rattle.v_value.specs.Index.{integer_at}
use Rattle.v_statement.proofs.Taken.{upward_is, is_ascending}
use Rattle.v_statement.proofs.select.bits_upward.Goals as goal

pub returns : goal.returns
returns c =
    let o = c.args.object in
    upward_is (object_of o) (integer_at c.args.base) (integer_at c.place_of_bit.result) c.args.count (nat_lt o.left o.right) c.place_of_bit.ensures
    (is_ascending o.left o.right)

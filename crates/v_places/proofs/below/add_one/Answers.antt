use Rattle.std.proofs.Common.{arith}
use Rattle.v_places.proofs.Rooms.{one_added}
use Rattle.v_places.proofs.below.add_one.Goals as goal

pub returns : goal.returns
returns c = one_added c.args.count _ _ _ c.in_ok-add_place.ensures (omega arith)

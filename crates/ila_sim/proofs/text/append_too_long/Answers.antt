use Rattle.std.specs.Prelude.{codes, decimal}
use Rattle.ila_sim.proofs.Told.{two_parts}
use Rattle.ila_sim.proofs.text.append_too_long.Goals as goal

pub returns : goal.returns
returns c =
    two_parts c.args.out.now.items c.extend_from_slice.new.self.items c.append_decimal.new.out.items (codes "child-too-long ") (decimal c.args.depth)
    c.in_ok-extend_from_slice.ensures.items c.in_ok-append_decimal.ensures

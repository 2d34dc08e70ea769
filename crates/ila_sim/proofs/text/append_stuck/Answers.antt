use Rattle.std.proofs.Common.{[], ◌∷◌}
use Rattle.std.specs.Prelude.{codes, decimal}
use Rattle.ila_sim.proofs.Told.{four_parts}
use Rattle.ila_sim.proofs.text.append_stuck.Goals as goal

pub returns : goal.returns
returns c =
    four_parts c.args.out.now.items c.extend_from_slice.new.self.items c.append_decimal.new.out.items c.push.new.self.items c.append_decimal-2.new.out.items
    (codes "child-stuck ") (decimal c.args.depth) (32 ∷ []) (decimal c.args.step)
    c.in_ok-extend_from_slice.ensures.items c.in_ok-append_decimal.ensures c.in_ok-push.ensures.items c.in_ok-append_decimal-2.ensures

use Rattle.std.proofs.Common.{refl, bit_and, bit_or}
use Rattle.v_depend.proofs.Changes.{change-made}
use Rattle.v_depend.proofs.change.make_change.Goals as goal

pub returns : goal.returns
returns c =
    change-made c.args.table.now c.insert.new.self c.args.change c.mask_under.result (bit_or (bit_and c.mask_under.result c.args.change.kept) c.args.change.set)
    c.mask_under.ensures refl c.in_ok-insert.ensures.updates

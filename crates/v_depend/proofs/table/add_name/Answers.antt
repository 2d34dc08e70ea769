use Rattle.std.proofs.Common.{refl, bit_or}
use Rattle.v_depend.proofs.Uniting.{name-added}
use Rattle.v_depend.proofs.table.add_name.Goals as goal

pub returns : goal.returns
returns c =
    name-added c.args.from.now c.args.to.now c.insert.new.self c.args.name c.mask_under.result c.mask_under-2.result (bit_or c.mask_under.result c.mask_under-2.result)
    c.mask_under.ensures c.mask_under-2.ensures refl c.in_ok-insert.ensures.updates

use Rattle.sat_check.proofs.Numberings.{not_missing}
use Rattle.sat_check.proofs.numbering.place_of.Goals as goal

pub unreachable-requires : goal.unreachable-requires
unreachable-requires c =
    not_missing c.args.variables.now c.args.var c.in-Err.field-0 c.requires.increasing c.requires.known c.in-Err.ensures.position

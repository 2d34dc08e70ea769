use Rattle.v_hier.specs.Reading.{knows}
use Rattle.v_hier.proofs.Statements as statements
use Rattle.v_hier.proofs.statement.+target.Goals as goal

pub is_target_known-returns-in-Place : goal.is_target_known-returns-in-Place
is_target_known-returns-in-Place t c =
    statements.at-Place (knows c.args.names.now) c.args.target.now _ c.in-Place.name c.in-Place.selects c.in-Place.is c.is_known.result c.are_selects_known.result c.is_known.ensures c.are_selects_known.ensures c.both.ensures

pub is_target_known-returns-in-Joined : goal.is_target_known-returns-in-Joined
is_target_known-returns-in-Joined t c =
    statements.at-Joined (knows c.args.names.now) c.args.target.now _ c.in-Joined.targets c.in-Joined.is c.deref.result.now c.deref.ensures.value c.are_targets_known.ensures

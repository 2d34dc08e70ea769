use Rattle.emitted_map_rules.proofs.Accepted.{maps_are_accepted}
use Rattle.emitted_map_rules.proofs.laws.flat_maps_are_accepted.Goals as goal

pub returns : goal.returns
returns c =
    maps_are_accepted c.flat_maps_break_none.ensures c.emitted_maps_are_read.ensures c.emitted_maps_name_all.ensures c.emitted_maps_stand.ensures

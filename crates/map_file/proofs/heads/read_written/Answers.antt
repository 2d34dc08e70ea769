use Rattle.serde_json.specs.View.{view}
use Rattle.ila_file.specs.Places.{spot_view}
use Rattle.map_file.specs.View.{map_view}
use Rattle.map_file.proofs.Refusals.{misfit_of_refused, with_unknown_key, with_known_keys_alone}
use Rattle.map_file.proofs.heads.read_written.Goals as goal

pub bad_shape-requires : goal.bad_shape-requires
bad_shape-requires c = misfit_of_refused map_view c.in-Err-Refused.field-0 (view c.args.value.now) c.in-Err-Refused.field-0-is c.in-Err-Refused.ensures

pub returns-in-Some-clause-reading : goal.returns-in-Some-clause-reading
returns-in-Some-clause-reading c =
    with_unknown_key c.refused_at.result (view c.args.value.now) _ (spot_view c.in-Some.spot) c.in-Ok.ensures c.in-Some.ensures c.refused_at.ensures

pub returns-in-None-clause-reading : goal.returns-in-None-clause-reading
returns-in-None-clause-reading c = with_known_keys_alone (view c.args.value.now) _ c.in-Ok.ensures c.in-None.ensures

use Rattle.std.proofs.Common.{◌∙◌, sym, ap}
use Rattle.std.specs.Prelude.{is_some}
use Rattle.ila_file.specs.Places.{spot_view}
use Rattle.map_file.specs.View.{map_view}
use Rattle.map_names.proofs.Outside.{told_mapped, bad_bound_told}
use Rattle.map_names.proofs.bounds.bad_bound.Goals as goal

pub returns-clause-rule : goal.returns-clause-rule
returns-clause-rule c = λ m s. sym (told_mapped spot_view c.first_bad.result) ∙ (ap is_some c.first_bad.ensures ∙ bad_bound_told (map_view c.args.map.now) m s)

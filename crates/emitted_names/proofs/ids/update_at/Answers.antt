use Rattle.std.proofs.lemmas.Option.{slice_get-get_or}
use Rattle.emitted_names.proofs.ids.update_at.Goals as goal

pub returns : goal.returns
returns c = slice_get-get_or c.args.updates.now c.args.place _ c.requires

use Rattle.std.proofs.Common.{length, refl}
use Rattle.std.proofs.lemmas.Option.{slice_get_read}
use Rattle.emitted_trees.proofs.ways.way_at.Goals as goal

pub returns : goal.returns
returns c =
    slice_get_read c.args.ways.now (length c.args.ways.now) c.args.place c.index-ways-place.result refl c.requires c.index-ways-place.is

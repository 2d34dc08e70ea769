use Rattle.std.proofs.Common.{length, refl}
use Rattle.std.proofs.lemmas.Option.{slice_get_read}
use Rattle.emitted_trees.proofs.words.part_at.Goals as goal

pub returns : goal.returns
returns c =
    slice_get_read c.args.parts.now (length c.args.parts.now) c.args.place c.index-parts-place.result refl c.requires c.index-parts-place.is

use Rattle.std.proofs.Common.{length, refl}
use Rattle.std.proofs.lemmas.Option.{slice_get_read}
use Rattle.emitted_names.proofs.ways.instruction_at.Goals as goal

pub returns : goal.returns
returns c =
    slice_get_read c.args.instructions.now (length c.args.instructions.now) c.args.place c.index-instructions-place.result refl c.requires c.index-instructions-place.is

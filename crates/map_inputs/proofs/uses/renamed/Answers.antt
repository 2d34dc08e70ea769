use Rattle.std.proofs.Common.{refl}
use Rattle.v_renamed.specs.NewNames.{new_name}
use Rattle.map_inputs.proofs.Renaming.{renamed-span}
use Rattle.map_inputs.proofs.uses.renamed.Goals as goal

pub returns : goal.returns
returns c =
    renamed-span (new_name c.args.names.now) c.args.span
    (record { name = c.name_for.result; from_word = c.args.span.from_word; to_word = c.args.span.to_word; bits = c.args.span.bits }) c.name_for.ensures refl refl refl

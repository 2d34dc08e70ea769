use Rattle.std.proofs.Common.{◌∙◌, ap}
use Rattle.std.specs.String.{string_bytes}
use Rattle.emitted_names.proofs.names.name_at.Goals as goal

pub returns : goal.returns
returns c = λ text count a low. c.as_str.ensures.value ∙ (ap string_bytes c.index-names-number.is ∙ a.each c.args.number _ low)

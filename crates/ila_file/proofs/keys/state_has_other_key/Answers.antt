use Rattle.std.proofs.Common.{◌∙◌}
use Rattle.serde_json.specs.View.{view}
use Rattle.ila_file.proofs.KnownKeys.{state_keys-parts}
use Rattle.ila_file.proofs.keys.state_has_other_key.Goals as goal

pub returns : goal.returns
returns c = c.is_some.ensures ∙ (c.state_other_key.ensures.is ∙ state_keys-parts (view c.args.value.now))

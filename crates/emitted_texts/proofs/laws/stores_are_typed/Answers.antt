use Rattle.emitted_texts.proofs.Stored.{stores_are_typed}
use Rattle.emitted_texts.proofs.laws.stores_are_typed.Goals as goal

pub returns : goal.returns
returns c = stores_are_typed

use Rattle.emitted_designs.proofs.Stores.{last_store_stands}
use Rattle.emitted_designs.proofs.laws.the_last_store_stands.Goals as goal

pub returns : goal.returns
returns c = last_store_stands

use Rattle.emitted_designs.proofs.Nested.{inner_child_ends_alone}
use Rattle.emitted_designs.proofs.laws.an_inner_child_ends_alone.Goals as goal

pub returns : goal.returns
returns c = inner_child_ends_alone

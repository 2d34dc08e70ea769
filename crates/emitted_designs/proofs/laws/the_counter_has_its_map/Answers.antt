use Rattle.std.proofs.Common.{refl}
use Rattle.std.specs.Fmt.{digits}
use Rattle.emitted_designs.proofs.laws.the_counter_has_its_map.Goals as goal

pub returns : goal.returns
unfolding digits
returns c = refl

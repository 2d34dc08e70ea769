use Rattle.emitted_maps.proofs.Ordered.{sorted_names}
use Rattle.emitted_maps.proofs.names.sort.Goals as goal

pub returns : goal.returns
returns c = sorted_names c.args.names.now.items c.sort_unstable.new.self.items c.sort_unstable.ensures.permutation c.sort_unstable.ensures.sorted

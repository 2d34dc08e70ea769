use Rattle.std.proofs.Common.{arith}
use Rattle.emitted_names.proofs.keeping.check_stored.Goals as goal

pub returns : goal.returns
returns c = record { ordered = c.check_nodes.ensures.ordered; in_range = c.check_names.ensures; few = omega (arith, c.len-count.ensures.terms) }

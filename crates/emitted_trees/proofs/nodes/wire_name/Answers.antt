use Rattle.std.proofs.Common.{arith}
use Rattle.emitted_trees.proofs.nodes.wire_name.Goals as goal

pub name_at-requires : goal.name_at-requires
name_at-requires c = omega (arith, c.requires.id, c.requires.named.many)

pub returns : goal.returns
returns c = c.name_at.ensures _ _ c.requires.named c.requires.id

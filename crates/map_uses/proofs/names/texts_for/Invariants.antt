use Rattle.std.proofs.Common.{drop}
use Rattle.map_uses.specs.Table.{new_name_in}
use Rattle.map_uses.proofs.Turning.{TextsSoFar}
use Rattle.map_uses.proofs.names.texts_for.Given as goal

abbrev pub invariant-loop-name : goal.invariant-loop-name
invariant-loop-name l = TextsSoFar (new_name_in l.table) l.expression.names.items (drop l.name-index l.expression.names.items) l.list.items

use Rattle.std.proofs.Common.{◌+◌, ◌-◌, length, map}
use Rattle.std.specs.BTreeMap.{btree_map_len}
use Rattle.wb_values.specs.Value.{Name}
use Rattle.v_syntax.specs.Source.{module_of}
use Rattle.v_standing.specs.Standing.{left_in, numbered, AreWithin}
use Rattle.v_standing.proofs.Whole.{AreReached}
use Rattle.v_standing.proofs.design.numbers_standing.Given as goal

abbrev pub invariant-loop-next : goal.invariant-loop-next
invariant-loop-next l =
    ((clock : Name) → AreReached (record { source = map module_of l.modules; top = l.top; clock = clock }) (left_in (map module_of l.modules) l.left) (numbered (map module_of l.modules) l.found.items) l.next)
    × AreWithin (length l.modules) l.left l.found.items

abbrev pub decreases-loop-next : goal.decreases-loop-next
decreases-loop-next l = btree_map_len l.left + length l.found.items - l.next

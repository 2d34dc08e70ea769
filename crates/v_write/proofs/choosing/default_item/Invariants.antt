use Rattle.std.proofs.Common.{◌≡◌, drop, None}
use Rattle.v_write.specs.Cases.{default_from}
use Rattle.v_write.proofs.choosing.default_item.Given as goal

abbrev pub invariant-loop-index : goal.invariant-loop-index
invariant-loop-index l = default_from 0 l.items None ≡ default_from l.index (drop l.index l.items) l.found

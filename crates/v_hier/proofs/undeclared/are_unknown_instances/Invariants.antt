use Rattle.std.proofs.Common.{◌≡◌, drop, map}
use Rattle.v_syntax.specs.Source.{item_of}
use Rattle.v_hier.specs.Tables.{has_name}
use Rattle.v_hier.specs.Instances.{instantiates_other}
use Rattle.v_hier.proofs.undeclared.are_unknown_instances.Given as goal

abbrev pub invariant-loop-item : goal.invariant-loop-item
invariant-loop-item l = instantiates_other (has_name l.modules) (map item_of l.items) ≡ instantiates_other (has_name l.modules) (map item_of (drop l.item-index l.items))

use Rattle.std.proofs.Common.{◌≡◌, map, drop, false}
use Rattle.v_body.specs.Statements.{has_few_defaults}
use Rattle.v_body.specs.View.{item_of}
use Rattle.v_body.proofs.part.has_few_defaults.Given as goal

abbrev pub invariant-loop-item : goal.invariant-loop-item
invariant-loop-item l = has_few_defaults l.met (map item_of (drop l.item-index l.items)) ≡ has_few_defaults false (map item_of l.items)

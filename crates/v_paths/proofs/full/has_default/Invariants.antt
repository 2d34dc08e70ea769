use Rattle.std.proofs.Common.{◌≡◌, drop}
use Rattle.verilog_designs.specs.Reads.{has_default}
use Rattle.v_statement.specs.Effects.{item_list}
use Rattle.v_paths.proofs.full.has_default.Given as goal

abbrev pub invariant-loop-item : goal.invariant-loop-item
invariant-loop-item l = has_default (item_list l.items) ≡ has_default (item_list (drop l.item-index l.items))

use Rattle.std.proofs.Common.{arith}
use Rattle.verilog_meaning.specs.Hierarchy.{body_parameters}
use Rattle.verilog_designs.specs.Names.{parameter_names}
use Rattle.v_syntax.specs.Source.{item_of}
use Rattle.v_hier.specs.Tables.{has_name}
use Rattle.v_modules.specs.Parameters.{own_names}
use Rattle.v_modules.proofs.Nets.{names-turn, body-then}
use Rattle.v_modules.proofs.parameter.add_items.Goals as goal

pub loop-item-preserved : goal.loop-item-preserved
loop-item-preserved c = λ q.
    names-turn item_of own_names (λ items. parameter_names (body_parameters items)) body-then c.args.items.now c.loop-item.item-index c.item-item.result
    (has_name c.loop-item.names q) (has_name c.add_item.new.names q) _ q (omega arith) c.item-item.is (c.in_ok-add_item.ensures q) (c.loop-item.invariant q)

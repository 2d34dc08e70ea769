use Rattle.std.proofs.Common.{refl, arith}
use Rattle.verilog_meaning.specs.Hierarchy.{overridable}
use Rattle.v_syntax.specs.Source.{parameter_of}
use Rattle.v_instances.specs.Texts.{texts}
use Rattle.v_instances.specs.Interface.{own_parameters}
use Rattle.v_instances.proofs.Names.{order_turn}
use Rattle.v_instances.proofs.interface.add_declarations.Goals as goal

pub loop-declaration-preserved : goal.loop-declaration-preserved
loop-declaration-preserved c =
    order_turn parameter_of own_parameters overridable (λ d ds. refl)
    c.args.declarations.now c.loop-declaration.declaration-index c.declaration-item.result (texts c.loop-declaration.order.items) (texts c.add_declaration.new.order.items) _ (omega arith) c.declaration-item.is
    c.in_ok-add_declaration.ensures c.loop-declaration.invariant

use Rattle.std.proofs.Common.{refl, arith, ◌∷◌, []}
use Rattle.verilog_meaning.specs.Hierarchy.{value_names}
use Rattle.v_syntax.specs.Tree.{tree_of}
use Rattle.v_instances.specs.Texts.{texts}
use Rattle.v_instances.proofs.Names.{order_turn, texts_pushed}
use Rattle.v_instances.proofs.interface.add_values.Goals as goal

pub loop-value-preserved : goal.loop-value-preserved
loop-value-preserved c =
    order_turn (λ v. (v.name.now, tree_of v.value)) (λ v. v.0 ∷ []) value_names (λ v vs. refl) c.args.values.now c.loop-value.value-index c.value-item.result
    (texts c.loop-value.order.items) (texts c.push.new.self.items) _ (omega arith) c.value-item.is
    (texts_pushed c.loop-value.order.items c.push.new.self.items c.value-item.result.name c.in_ok-push.ensures.items) c.loop-value.invariant

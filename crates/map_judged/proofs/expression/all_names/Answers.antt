use Rattle.std.proofs.Common.{◌∙◌, ◌++◌, ap, arith}
use Rattle.v_instances.specs.Texts.{texts}
use Rattle.map_judged.proofs.Gathered.{names_turn}
use Rattle.map_judged.proofs.expression.all_names.Goals as goal

pub loop-expression-preserved : goal.loop-expression-preserved
loop-expression-preserved c =
    names_turn c.args.expressions.now c.loop-expression.expression-index c.expression-item.result _ c.loop-expression.all.items c.add_names.new.all.items _ (omega arith) c.expression-item.is
    (c.in_ok-add_names.ensures ∙ ap (λ ns. texts c.loop-expression.all.items ++ texts ns) c.deref.ensures.value) c.loop-expression.invariant

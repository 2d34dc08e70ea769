use Rattle.std.proofs.Common.{refl, arith, ◌∷◌, []}
use Rattle.verilog_meaning.specs.Hierarchy.{value_names}
use Rattle.v_syntax.specs.Tree.{tree_of}
use Rattle.v_hier.specs.Tables.{has_name}
use Rattle.v_modules.proofs.Nets.{names-turn, name-added}
use Rattle.v_modules.proofs.parameter.add_values.Goals as goal

pub loop-value-preserved : goal.loop-value-preserved
loop-value-preserved c = λ q.
    names-turn (λ v. (v.name.now, tree_of v.value)) (λ v. v.0 ∷ []) value_names (λ v vs. refl) c.args.values.now c.loop-value.value-index c.value-item.result
    (has_name c.loop-value.names q) (has_name c.insert.new.self q) _ q (omega arith) c.value-item.is
    (name-added c.loop-value.names c.insert.new.self c.value-item.result.name c.in_ok-insert.ensures.updates q) (c.loop-value.invariant q)

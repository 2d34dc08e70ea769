use Rattle.std.proofs.Common.{◌∙◌, ap, cond, true, arith}
use Rattle.wb_values.specs.Value.{same_name}
use Rattle.v_hier.specs.Tables.{has_name}
use Rattle.v_ordered.proofs.Adding.{has_more}
use Rattle.v_ordered.proofs.Texts.{variable_turn}
use Rattle.v_ordered.proofs.variables.add_names.Goals as goal

pub loop-variable-preserved : goal.loop-variable-preserved
loop-variable-preserved c = λ signed r q.
    variable_turn c.args.variables.now c.loop-variable.variable-index _ _ (has_name c.loop-variable.names q) (has_name c.insert.new.self q) signed r q (omega arith)
    (c.loop-variable.invariant signed r q)
    (has_more c.loop-variable.names c.insert.new.self c.variable-item.result.name c.in_ok-insert.ensures.updates q
    ∙ ap (λ x. cond (same_name x.name.now q) true (has_name c.loop-variable.names q)) c.variable-item.is)

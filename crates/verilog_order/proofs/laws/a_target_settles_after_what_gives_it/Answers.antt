use Rattle.verilog_order.proofs.Turns.{assignments_settle, inputs_settle, outputs_settle, links_keep, assignments_keep_values, inputs_keep_values, outputs_keep_values}
use Rattle.verilog_order.proofs.laws.a_target_settles_after_what_gives_it.Goals as goal

pub returns : goal.returns
returns c =
    record {
      assignments = assignments_settle;
      inputs = inputs_settle;
      outputs = outputs_settle;
      others = links_keep;
      assignments_keep = assignments_keep_values;
      inputs_keep = inputs_keep_values;
      outputs_keep = outputs_keep_values;
    }

use Rattle.verilog_renamed.specs.Agreement.{IsSameIn}
use Rattle.verilog_renamed.proofs.EachName.{each_listed, target_listed, statement_listed, assignments_listed, blocks_listed, as_target_named, each_placed, each_updated}
use Rattle.verilog_renamed.proofs.agreement.names_stand_in_trees.Goals as goal

pub returns : goal.returns
returns c =
    record {
      expressions = λ s t. each_listed (IsSameIn s t);
      targets = λ s t. target_listed (IsSameIn s t);
      statements = λ s t. statement_listed (IsSameIn s t);
      assignments = λ s t. assignments_listed (IsSameIn s t);
      blocks = λ s t. blocks_listed (IsSameIn s t);
      as_targets = λ s t. as_target_named (IsSameIn s t);
      places = λ s t. each_placed (IsSameIn s t);
      updates = λ s t. each_updated (IsSameIn s t);
    }

use Rattle.flat_rules.proofs.SameRules.{expressions_break_the_same, targets_break_the_same, statements_break_the_same, assignments_break_the_same}
use Rattle.flat_rules.proofs.laws.renamed_trees_break_the_same_rules.Goals as goal

pub returns : goal.returns
returns c =
    record {
      expressions = expressions_break_the_same;
      targets = targets_break_the_same;
      statements = statements_break_the_same;
      assignments = assignments_break_the_same;
    }

use Rattle.map_sizes.proofs.Agreed.{rules_are_agreed_on}
use Rattle.map_sizes.proofs.laws.scopes_that_agree_judge_alike.Goals as goal

pub returns : goal.returns
returns c = rules_are_agreed_on c.renamed_trees_break_the_same_rules.ensures.expressions

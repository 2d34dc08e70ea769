use Rattle.std.proofs.Common.{◌∙◌, ap, sym}
use Rattle.std.specs.Prelude.{option_map}
use Rattle.v_syntax.specs.Tree.{tree_of}
use Rattle.emitted_trees.proofs.Loops.{some_of, none_of}
use Rattle.emitted_trees.proofs.ways.any_of.Goals as goal

pub returns-in-Some : goal.returns-in-Some
returns-in-Some c = λ es e. some_of (option_map tree_of c.args.all) (tree_of c.in-Some.made) es (ap (option_map tree_of) c.in-Some.is) e

pub returns-in-None : goal.returns-in-None
returns-in-None c = λ es e. c.sized.ensures ∙ none_of (option_map tree_of c.args.all) es (ap (option_map tree_of) c.in-None.is) e

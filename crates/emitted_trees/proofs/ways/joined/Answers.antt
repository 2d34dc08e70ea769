use Rattle.std.proofs.Common.{◌∙◌, ap}
use Rattle.std.specs.Prelude.{option_map}
use Rattle.v_syntax.specs.Tree.{tree_of}
use Rattle.emitted_trees.proofs.Loops.{first_of, one_more}
use Rattle.emitted_trees.proofs.ways.joined.Goals as goal

pub returns-in-None : goal.returns-in-None
returns-in-None c = λ es e. first_of (option_map tree_of c.args.all) (tree_of c.args.way) es (ap (option_map tree_of) c.in-None.is) e

pub returns-in_ok-made-in-Some : goal.returns-in_ok-made-in-Some
returns-in_ok-made-in-Some c = λ es e.
    one_more (option_map tree_of c.args.all) (tree_of c.in-Some.first) (tree_of c.args.way) _ es (ap (option_map tree_of) c.in-Some.is) e c.in_ok-made-in-Some.ensures

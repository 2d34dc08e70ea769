use Rattle.std.proofs.Common.{ap, map}
use Rattle.verilog_trees.specs.Syntax.{assign}
use Rattle.v_syntax.specs.Tree.{tree_of, target_of}
use Rattle.emitted_trees.proofs.items.assign_item.Goals as goal

pub returns : goal.returns
returns c = ap (λ xs. assign (map (λ a. (target_of a.target, tree_of a.value)) xs)) c.in_ok-assignments.ensures

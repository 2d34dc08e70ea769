use Rattle.std.proofs.Common.{◌∙◌}
use Rattle.emitted_modules.specs.Nodes.{filled_to}
use Rattle.emitted_names.proofs.Turns.{ap2}
use Rattle.emitted_trees.proofs.nodes.filled_term.Goals as goal

pub returns : goal.returns
returns c = c.in_ok-made.ensures ∙ ap2 (filled_to c.args.width) c.width_of-from.ensures c.operand.ensures

use Rattle.std.proofs.Common.{◌≡◌, ◌++◌, map}
use Rattle.v_syntax.specs.Source.{item_of}
use Rattle.emitted_trees.proofs.Decodes.{last_wires}
use Rattle.emitted_trees.proofs.decoding.with_decodes.Given as goal

abbrev pub invariant-loop-after : goal.invariant-loop-after
invariant-loop-after l = map item_of l.all.items ≡ map item_of l.fn.items.items ++ last_wires l.wires.terms.now l.decodes l.after

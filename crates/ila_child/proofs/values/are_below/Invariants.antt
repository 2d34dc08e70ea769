use Rattle.std.proofs.Common.{◌≡◌, drop}
use Rattle.wb_values.specs.Value.{all_below}
use Rattle.ila_child.proofs.values.are_below.Given as goal

abbrev pub invariant-loop-word : goal.invariant-loop-word
invariant-loop-word l = all_below l.width l.words ≡ all_below l.width (drop l.word-index l.words)

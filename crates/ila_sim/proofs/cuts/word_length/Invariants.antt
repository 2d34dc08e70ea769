use Rattle.std.proofs.Common.{◌≡◌, ◌+◌, drop}
use Rattle.scripts.specs.Script.{is_space_or_tab}
use Rattle.ila_sim.specs.Cuts.{length_before}
use Rattle.ila_sim.proofs.cuts.word_length.Given as goal

abbrev pub invariant-loop-i : goal.invariant-loop-i
invariant-loop-i l = length_before is_space_or_tab l.text ≡ l.i + length_before is_space_or_tab (drop l.i l.text)

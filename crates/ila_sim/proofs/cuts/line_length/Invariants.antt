use Rattle.std.proofs.Common.{◌≡◌, ◌+◌, drop}
use Rattle.scripts.specs.Script.{is_line_end}
use Rattle.ila_sim.specs.Cuts.{length_before}
use Rattle.ila_sim.proofs.cuts.line_length.Given as goal

abbrev pub invariant-loop-i : goal.invariant-loop-i
invariant-loop-i l = length_before is_line_end l.text ≡ l.i + length_before is_line_end (drop l.i l.text)

use Rattle.std.proofs.Common.{◌≡◌, drop}
use Rattle.ila_sim.specs.Cuts.{after_blanks}
use Rattle.ila_sim.proofs.cuts.behind_blanks.Given as goal

abbrev pub invariant-loop-i : goal.invariant-loop-i
invariant-loop-i l = after_blanks l.text ≡ after_blanks (drop l.i l.text)

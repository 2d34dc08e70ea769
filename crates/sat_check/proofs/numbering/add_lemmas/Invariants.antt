use Rattle.std.proofs.Common.{take, map}
use Rattle.sat_check.specs.Numbering.{AddsNumbered}
use Rattle.sat_check.proofs.numbering.add_lemmas.Given as goal

abbrev pub invariant-loop-k : goal.invariant-loop-k
invariant-loop-k l = AddsNumbered l.variables l.initial.arena l.arena (map (λ s. s.lits) (take l.k l.log))

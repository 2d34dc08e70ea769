use Rattle.std.proofs.Common.{◌≡◌, ◌++◌, map, take}
use Rattle.sat_check.proofs.numbering.push_variables.Given as goal

abbrev pub invariant-loop-lit : goal.invariant-loop-lit
invariant-loop-lit l = l.variables.items ≡ l.initial.variables.items ++ map (λ x. x.var) (take l.lit-index l.lits)

use Rattle.std.proofs.Common.{◌≡◌, ◌++◌, map, take}
use Rattle.sat_base.specs.Codes.{code_of}
use Rattle.sat_base.proofs.logs.push_codes.Given as goal

abbrev pub invariant-loop-lit : goal.invariant-loop-lit
invariant-loop-lit l = l.codes.items ≡ l.initial.codes.items ++ map code_of (take l.lit-index l.lits)

use Rattle.std.proofs.Common.{◌≡◌}
use Rattle.sat_check.specs.Verdict.{IsOpenBefore}
use Rattle.sat_check.proofs.checker.Checker.check.Given as goal

abbrev pub invariant-loop-k : goal.invariant-loop-k
invariant-loop-k l = record { kept : l.self ≡ l.initial.self; before : IsOpenBefore l.fn.formula l.log l.k }

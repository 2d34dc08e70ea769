use Rattle.std.proofs.Common.{◌≡◌, ◌<◌, ℕ}
use Rattle.sat_solve.proofs.FoundLemmas.{literal_at}
use Rattle.sat_solve.proofs.watches.other_literal.Given as goal

abbrev pub invariant-loop-lit : goal.invariant-loop-lit
invariant-loop-lit l = (k : ℕ) → k < l.lit-index → literal_at l.lits k ≡ l.first

-- What the obligations say of invariants: where all of them hold, the invariants hold at every idle cycle of every run.
use Rattle.std.specs.Prelude.{ℕ}
use Rattle.refinement.specs.Map.{Setting}
use Rattle.refinement.specs.Run.{Run, IsRun, HoldsOf, IsFromReset}
use Rattle.refinement.specs.Refinement.{IsIdle, HasOneInFlight}
use Rattle.refinement.specs.Obligation.{obligations}
use Rattle.refinement.specs.Soundness.{AllHold, IsComplete}

-- In every run, of any length and from any first registers, that is from reset and has one command in flight, each invariant holds at each
-- idle cycle: at the one after the reset, after each idle cycle without start, and after each command that ends.
abbrev pub EveryRunKeepsInvariants : Setting → Type 0
EveryRunKeepsInvariants s = (run : Run) (cycles : ℕ) → IsRun s run cycles → IsFromReset s run cycles → HasOneInFlight s run cycles
    → (n t k : ℕ) → IsIdle s run cycles n t → HoldsOf s run s.map.invariants k t

abbrev pub ObligationsKeepInvariants : Type 0
ObligationsKeepInvariants = (s : Setting) → IsComplete s → AllHold s (obligations s.model s.map) → EveryRunKeepsInvariants s

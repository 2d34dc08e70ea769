-- Idle cycles, the model's states at them, and refinement in runs of several lengths.
use Rattle.std.specs.Prelude.{◌≡◌, ℕ, ◌<◌, ◌≤◌}
use Rattle.wb_values.specs.Value.{Valuation}
use Rattle.refinement.specs.Map.{Setting}
use Rattle.refinement.specs.Run.{Run}
use Rattle.refinement.specs.Refinement.{IsIdle, HasState, Refines}

-- A run that is over before its reset refines every model: nothing is said of cycles under reset.
abbrev pub RunShorterThanTheResetRefines : Type 0
RunShorterThanTheResetRefines = (s : Setting) (run : Run) (cycles : ℕ) → cycles < s.map.reset_cycles → Refines s run cycles

-- Where a run refines the model, so do its first p cycles by themselves: what has gone well so far does not depend on what
-- comes later. (A command of bound 4 that starts at cycle 5 and ends at cycle 8 is still open in a run of 7 cycles, and 7 < 5 + 4.)
abbrev pub PrefixRefines : Type 0
PrefixRefines = (s : Setting) (run : Run) (cycles p : ℕ) → p ≤ cycles → Refines s run cycles → Refines s run p

-- Before an idle cycle one number of commands has ended, in whatever way the cycle is found to be idle.
abbrev pub IdleCycleHasOneCount : Type 0
IdleCycleHasOneCount =
    (s : Setting) (run : Run) (cycles n m t : ℕ) → IsIdle s run cycles n t → IsIdle s run cycles m t → n ≡ m

-- At an idle cycle the model has one state and one number of commands has ended.
abbrev pub IdleCycleHasOneState : Type 0
IdleCycleHasOneState =
    (s : Setting) (run : Run) (cycles n m t : ℕ) (q r : Valuation) → HasState s run cycles n q t → HasState s run cycles m r t
    → (n ≡ m) × (q ≡ r)

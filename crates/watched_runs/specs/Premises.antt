-- The premises of refinement, cycle by cycle, and the first cycle at which one fails.
use Rattle.std.specs.Prelude.{ℕ, ◌<◌, ◌≤◌, length, ◌⊎◌, ⊤}
use Rattle.refinement.specs.Map.{Setting}
use Rattle.refinement.specs.Run.{Run, IsResetAt, HoldsOf}
use Rattle.refinement.specs.Refinement.{StartsAt, IsCommandOf, CommitsAt, IsIdle}

-- in their order: how reset is applied, each assumption by its number in the map, and that one command is in flight
pub data Premise : Type 0 where
  of_reset : Premise
  of_assumption : (k : ℕ) → Premise
  of_flight : Premise

-- There is a start at cycle u inside a command: after the start of one that does not end before u. (A start at the cycle in which the
-- command ends is inside it too, where that cycle is after the command's start.)
pub record IsStartInside (s : Setting) (run : Run) (u : ℕ) : Type 0 where
  pub ended : ℕ
  pub begun : ℕ
  pub is_idle : IsIdle s run u ended begun
  pub begins : StartsAt s run begun
  pub after : begun < u
  pub not_ended : (j x : ℕ) → IsCommandOf s run begun j → begun ≤ x → x < u → ¬ CommitsAt s run j x
  pub starts : StartsAt s run u

-- The premise fails at cycle t: reset is inactive in one of the reset's cycles, or active after them; after them an assumption does not
-- hold; there is a start inside a command.
abbrev pub PremiseFails : Setting → Run → ℕ → Premise → Type 0
PremiseFails s run t of_reset = ((t < s.map.reset_cycles) × ¬ IsResetAt s run t) ⊎ ((s.map.reset_cycles ≤ t) × IsResetAt s run t)
PremiseFails s run t (of_assumption k) = (s.map.reset_cycles ≤ t) × (k < length s.map.assume) × ¬ HoldsOf s run s.map.assume k t
PremiseFails s run t of_flight = IsStartInside s run t

-- one premise comes before another
abbrev pub ComesBefore : Premise → Premise → Type 0
ComesBefore of_reset (of_assumption k) = ⊤
ComesBefore of_reset of_flight = ⊤
ComesBefore (of_assumption k) (of_assumption l) = k < l
ComesBefore (of_assumption k) of_flight = ⊤
ComesBefore _ _ = ⊥

-- The first premise that fails at cycle t.
pub record IsFirstFailing (s : Setting) (run : Run) (t : ℕ) (which : Premise) : Type 0 where
  pub fails : PremiseFails s run t which
  pub first : (other : Premise) → ComesBefore other which → ¬ PremiseFails s run t other

-- no premise fails before cycle t
abbrev pub HavePremises : Setting → Run → ℕ → Type 0
HavePremises s run t = (u : ℕ) (which : Premise) → u < t → ¬ PremiseFails s run u which

-- Of a run of so many cycles p is the first cycle at which a premise fails, or the number of cycles where none fails.
pub record IsPremiseEnd (s : Setting) (run : Run) (cycles p : ℕ) : Type 0 where
  pub within : p ≤ cycles
  pub before : HavePremises s run p
  pub fails : p < cycles → (which : Premise) × PremiseFails s run p which

-- Lists that grow at their end by the pure obligations or facts of every map with the same counts.
use Rattle.std.specs.Prelude.{◌≡◌, ℕ, ◌≤◌, ⊤, List, ◌++◌, map}
use Rattle.wb_values.specs.Value.{Name}
use Rattle.model_meaning.specs.Model.{Model}
use Rattle.refinement.specs.Map.{Map}
use Rattle.refinement.specs.Obligation as pure
use Rattle.obligation_lists.specs.declared.claims.Fact.{Fact}
use Rattle.obligation_lists.specs.declared.claims.Obligation.{Obligation}
use Rattle.obligation_lists.specs.declared.claims.MapCounts.{MapCounts}
use Rattle.obligation_lists.specs.declared.groups.StateClaims.{StateClaims}
use Rattle.obligation_lists.specs.declared.groups.StateClaims.TheVariants.{Initial, Same, ResultOf}
use Rattle.obligation_lists.specs.Claims.{fact_of, obligation_of}
use Rattle.obligation_lists.specs.Counts.{AreCountsOf}
use Rattle.obligation_lists.specs.Within.{Each, IsFactOf, IsInstructionPlace, IsObligationOf}

-- The new list has these obligations after the old ones.
pub record Adds (m : Model) (counts : MapCounts) (old new : List Obligation) (part : Map → List pure.Obligation) : Type 0 where
  pub listed : (p : Map) → AreCountsOf m p counts → map (obligation_of p) new ≡ map (obligation_of p) old ++ part p
  pub within : Each (IsObligationOf m counts) old → Each (IsObligationOf m counts) new

-- The new list has these facts after the old ones. They speak of what is there where a condition holds of the model and the last cycle.
pub record AddsFacts (counts : MapCounts) (old new : List Fact) (part : Map → List pure.Fact) (Fits : Model → ℕ → Type 0) : Type 0 where
  pub listed : (m : Model) (p : Map) → AreCountsOf m p counts → map fact_of new ≡ map fact_of old ++ part p
  pub within : (m : Model) (last : ℕ) → Fits m last → Each (IsFactOf m counts last) old → Each (IsFactOf m counts last) new

-- what is claimed of a state by its name, at a cycle
abbrev pub claim_by : StateClaims → ℕ → Name → pure.Fact
claim_by Initial t n = pure.initial n t
claim_by Same t n = pure.same n
claim_by (ResultOf j) t n = pure.result_of j n t

-- A claim on a state, after so many cycles, speaks of an instruction that is there, and of no cycle after the last.
abbrev pub AreClaimsOf : Model → (cycles : ℕ) → StateClaims → Type 0
AreClaimsOf m cycles Initial = ⊤
AreClaimsOf m cycles Same = 1 ≤ cycles
AreClaimsOf m cycles (ResultOf j) = IsInstructionPlace m j

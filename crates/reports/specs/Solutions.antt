-- What the solutions are of a formula that encodes a property of runs.
use Rattle.std.specs.Prelude.{◌≡◌, ◌↔◌, ℕ, Bool, List}
use Rattle.refinement.specs.Map.{Setting}
use Rattle.refinement.specs.Run.{Run, IsRun}
use Rattle.sat_base.specs.Formula.{Formula}
use Rattle.reports.specs.Encoding.{BitMap, RestrictsTo, IsSatisfyingAssignment}

-- A run has the property exactly where some satisfying assignment restricts to the run, and then exactly one does.
pub record HasSolutions (s : Setting) (cycles : ℕ) (HasProperty : Run → Type 0) (f : Formula) (m : BitMap) : Type 0 where
  pub some : (run : Run) → IsRun s run cycles → HasProperty run ↔ ((a : List Bool) × IsSatisfyingAssignment f a × RestrictsTo m a run)
  pub one : (run : Run) (a b : List Bool) → IsSatisfyingAssignment f a → RestrictsTo m a run → IsSatisfyingAssignment f b → RestrictsTo m b run → a ≡ b

-- Values that break an obligation, and values that are a whole command of an instruction.
use Rattle.std.specs.Prelude.{◌≡◌, ℕ, ◌<◌, length, slice_get, Some}
use Rattle.model_meaning.specs.Model.{Model}
use Rattle.refinement.specs.Map.{Map}
use Rattle.refinement.specs.Obligation.{Obligation, ended_at}
use Rattle.mapped_designs.specs.Mapped.{Mapped, MappedInstruction}
use Rattle.mapped_designs.specs.Runs.{Values, IsRestZero, Shows, ShowsAll}

-- They break an obligation: what does not count of the registers is 0, all hypotheses hold, and the claim does not.
pub record BreaksObligation (m : Model) (e : Mapped) (x : Values) (o : Obligation) : Type 0 where
  pub rest : IsRestZero e.parts x.first
  pub hypotheses : ShowsAll m e x o.hypotheses
  pub fails : ¬ Shows m e x o.claim

-- a map with as many assumptions and invariants
pub record HasCountsOf (p : Map) (e : Mapped) : Type 0 where
  pub assume : length e.assume ≡ length p.assume
  pub invariants : length e.invariants ≡ length p.invariants

-- They are a whole command of instruction number j: what does not count is 0, and for some cycle below its bound the hypotheses of a commit
-- at that cycle hold.
pub record IsCommandBy (m : Model) (e : Mapped) (p : Map) (x : Values) (j : ℕ) : Type 0 where
  pub rest : IsRestZero e.parts x.first
  pub ending : MappedInstruction
  pub is_ending : slice_get e.instructions j ≡ Some ending
  pub cycle : ℕ
  pub below : cycle < ending.bound
  pub hypotheses : ShowsAll m e x (ended_at p j cycle)

-- Facts that a run of so many cycles can tell: what they speak of is there, and no cycle after the last.
use Rattle.std.specs.Prelude.{◌≡◌, ℕ, List, length}
use Rattle.model_meaning.specs.Model.{Model}
use Rattle.mapped_designs.specs.Mapped.{Mapped}
use Rattle.obligation_lists.specs.declared.claims.MapCounts.{MapCounts}
use Rattle.obligation_lists.specs.declared.claims.Fact.{Fact}
use Rattle.obligation_lists.specs.Within.{Each, IsFactOf}

-- These are the numbers of the map.
pub record AreCountsIn (e : Mapped) (counts : MapCounts) : Type 0 where
  pub reset_cycles : e.reset_cycles ≡ counts.reset_cycles
  pub assume : length e.assume ≡ counts.assume
  pub invariants : length e.invariants ≡ counts.invariants

-- The fact speaks of what is there.
pub record IsTold (m : Model) (e : Mapped) (cycles : ℕ) (f : Fact) : Type 0 where
  pub numbers : MapCounts
  pub counted : AreCountsIn e numbers
  pub fact : IsFactOf m numbers cycles f

-- Each of the facts speaks of what is there.
pub record AreTold (m : Model) (e : Mapped) (cycles : ℕ) (fs : List Fact) : Type 0 where
  pub numbers : MapCounts
  pub counted : AreCountsIn e numbers
  pub facts : Each (IsFactOf m numbers cycles) fs

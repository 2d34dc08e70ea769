-- Facts that a run of so many cycles can tell: what they speak of is there, and no cycle after the last.
use Rattle.std.specs.Prelude.{◌≡◌, ℕ, length}
use Rattle.model_meaning.specs.Model.{Model}
use Rattle.mapped_designs.specs.Mapped.{Mapped}
use Rattle.obligation_lists.specs.declared.claims.MapCounts.{MapCounts}
use Rattle.obligation_lists.specs.declared.claims.Fact.{Fact}
use Rattle.obligation_lists.specs.Within.{IsFactOf}

-- These are the numbers of the map.
pub record AreNumbersOf (e : Mapped) (counts : MapCounts) : Type 0 where
  pub assume : length e.assume ≡ counts.assume
  pub invariants : length e.invariants ≡ counts.invariants

-- The fact speaks of what is there.
pub record IsAsked (m : Model) (e : Mapped) (cycles : ℕ) (f : Fact) : Type 0 where
  pub numbers : MapCounts
  pub counted : AreNumbersOf e numbers
  pub fact : IsFactOf m numbers cycles f

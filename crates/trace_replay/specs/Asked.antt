-- Facts that a run of so many cycles can tell.
use Rattle.std.specs.Prelude.{ℕ, List}
use Rattle.model_meaning.specs.Model.{Model}
use Rattle.mapped_designs.specs.Mapped.{Mapped}
use Rattle.obligation_lists.specs.declared.claims.MapCounts.{MapCounts}
use Rattle.obligation_lists.specs.declared.claims.Fact.{Fact}
use Rattle.obligation_lists.specs.Within.{Each, IsFactOf}
use Rattle.shown_facts.specs.Asked.{AreNumbersOf}

-- Each of the facts speaks of what is there.
pub record AreAsked (m : Model) (e : Mapped) (cycles : ℕ) (fs : List Fact) : Type 0 where
  pub numbers : MapCounts
  pub counted : AreNumbersOf e numbers
  pub facts : Each (IsFactOf m numbers cycles) fs

-- What names of a map's expressions mean in a design, and which of them are clocks.
use Rattle.std.specs.Prelude.{◌≡◌, List, Contains}
use Rattle.wb_values.specs.Value.{Name}
use Rattle.verilog_meaning.specs.Settled.{Design}
use Rattle.verilog_designs.specs.Accepted.{IsAccepted}
use Rattle.verilog_exists.specs.Exists.{IsOfText}
use Rattle.map_rules.specs.Expressions.{design_scope}
use Rattle.v_value.specs.Scope.{scope_at}
use Rattle.v_places.specs.Below.{Spot}
use Rattle.v_places.specs.Places.{ArePlaces}
use Rattle.v_clocks.specs.Views.{sets_of}
use Rattle.map_paths.specs.Tables.{numbers_in}
use Rattle.map_clocks.specs.Clocked.{HasClockNets}
use Rattle.map_judged.specs.declared.known.KnownNames.{KnownNames}

-- The design is accepted, its tree is one of a text, and the list has the modules that stand in it.
pub record StandsAt (d : Design) (spots : List Spot) : Type 0 where
  pub of_text : IsOfText d
  pub is_accepted : IsAccepted d
  pub places : ArePlaces d spots

-- Each of these names has what it means in the design; and the instances and the clock nets are those of its modules.
pub record AreKnown (d : Design) (names : List Name) (x : KnownNames) : Type 0 where
  pub means : (n : Name) → Contains names n → scope_at x.scope n ≡ design_scope d n
  pub spots : List Spot
  pub clocks : HasClockNets d spots (numbers_in x.instances) (sets_of x.nets.items)

-- Designs whose modules are those of a list of places, as far as their kinds have been judged.
use Rattle.std.specs.Prelude.{List, None}
use Rattle.verilog_meaning.specs.Settled.{Design}
use Rattle.verilog_exists.specs.Exists.{IsOfText}
use Rattle.v_instances.specs.declared.interface.Interfaces.{Interfaces}
use Rattle.v_instances.specs.Interface.{AreInterfacesOf}
use Rattle.v_places.specs.Below.{Spot}
use Rattle.v_places.specs.Places.{ArePlaces}
use Rattle.v_judged.specs.First.{IsFirst, name_kinds, rule_kinds}

-- The tree is one of a text, none of the kinds on names refuses the design, its modules have these interfaces, and those that stand in it
-- are at these places.
pub record IsNamedDesign (t : Interfaces) (spots : List Spot) (d : Design) : Type 0 where
  pub of_text : IsOfText d
  pub interfaces : AreInterfacesOf t d.source
  pub names : IsFirst d name_kinds None
  pub places : ArePlaces d spots

-- Nor does one of the kinds on digits, ports, constants, widths, selects and memories.
pub record IsSoundDesign (t : Interfaces) (spots : List Spot) (d : Design) : Type 0 where
  pub named : IsNamedDesign t spots d
  pub rules : IsFirst d rule_kinds None

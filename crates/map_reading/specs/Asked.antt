-- What is known of a map and its expressions before they are judged.
use Rattle.std.specs.Prelude.{◌≡◌, List}
use Rattle.verilog_trees.specs.Syntax.{Source}
use Rattle.refinement.specs.Map.{Map}
use Rattle.map_files.specs.Written.{WrittenMap}
use Rattle.map_rules.specs.Case.{MapCase, case_design}
use Rattle.map_rules.specs.Accepted.{StandsForMap}
use Rattle.v_places.specs.Below.{Spot}
use Rattle.map_judged.specs.declared.expression.MapExpression.{MapExpression}
use Rattle.map_judged.specs.declared.known.KnownNames.{KnownNames}
use Rattle.map_judged.specs.Asked.{asked_list, names_asked, AreNamed}
use Rattle.map_judged.specs.Known.{AreKnown, StandsAt}
use Rattle.map_judged.specs.Whole.{asked_in}

-- The case is that of this written map and this source, and the design that the map names is accepted and stands at these places.
pub record IsCaseAt (c : MapCase) (w : WrittenMap) (s : Source) (spots : List Spot) : Type 0 where
  pub is_written : c.written ≡ w
  pub is_source : c.source ≡ s
  pub stands_at : StandsAt (case_design c) spots

-- The written map stands for this map; the list has all its expressions, each with its names, and the table says what these mean.
pub record AreAsked (c : MapCase) (p : Map) (xs : List MapExpression) (known : KnownNames) : Type 0 where
  pub stands : StandsForMap c.model c.written p
  pub are_asked : asked_list xs ≡ asked_in c.model p
  pub are_named : AreNamed xs
  pub are_known : AreKnown (case_design c) (names_asked (asked_list xs)) known

use Rattle.std.proofs.Common.{◌≡◌, map, subst, Some, option_map}
use Rattle.std.specs.Prelude.{IfOk}
use Rattle.verilog_meaning.specs.Hierarchy.{module_named}
use Rattle.verilog_meaning.specs.Settled.{Design}
use Rattle.verilog_designs.specs.Accepted.{HasDuplicateName}
use Rattle.v_syntax.specs.Source.{module_of}
use Rattle.v_places.specs.Views.{spots_of}
use Rattle.v_places.specs.Whole.{AreAllPlaces}
use Rattle.v_places.proofs.walk.places.Goals as goal

pub returns : goal.returns
returns c =
    subst (λ ms. IfOk c.places_of.result (λ o. (d : Design) → d.source ≡ map module_of ms → module_named d.source d.top ≡ Some (module_of c.args.top.now)
    → ¬ HasDuplicateName d → AreAllPlaces d (option_map (λ v. spots_of v.items) o))) c.deref.ensures.value c.places_of.ensures

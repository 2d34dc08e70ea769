-- Designs whose modules break none of the rules that are judged before clocks and drivers are looked at: the scope in which a module is
-- judged, that of its known constants, is then its scope, and what it says of a name fits words of 128 bits.
use Rattle.std.specs.Prelude.{◌≡◌, ◌≤◌, Some, IfSome}
use Rattle.wb_values.specs.Value.{Name}
use Rattle.verilog_meaning.specs.Expression.{Object, distance}
use Rattle.verilog_meaning.specs.Hierarchy.{Placed, placed_scope}
use Rattle.verilog_meaning.specs.Settled.{Design, IsPlacedIn}
use Rattle.verilog_designs.specs.Known.{known_scope, known_at}
use Rattle.verilog_designs.specs.Accepted.{undeclared, duplicate_name, has_xz, bad_constant, width_over_128, bad_select, memory_use, Breaks}
use Rattle.verilog_exists.specs.Exists.{IsShapely}
use Rattle.v_value.specs.Narrow.{IsNarrowObject}

-- None of the modules breaks a rule on names, digits, constants, widths, selects or memories, and their numbers and parts are
-- those of a text.
pub record HasSoundModules (d : Design) : Type 0 where
  pub names_declared : ¬ Breaks d undeclared
  pub names_once : ¬ Breaks d duplicate_name
  pub digits : ¬ Breaks d has_xz
  pub constants : ¬ Breaks d bad_constant
  pub widths : ¬ Breaks d width_over_128
  pub selects : ¬ Breaks d bad_select
  pub memories : ¬ Breaks d memory_use
  pub shapely : IsShapely d

-- The module at a path, with those of its parameters that have values, is the module at that path, and so are their scopes.
pub record IsKnownAsPlaced (d : Design) (p : Placed) : Type 0 where
  pub is_known : known_at d.source d.top p.path ≡ Some p
  pub scope : (n : Name) → known_scope p n ≡ placed_scope p n

abbrev pub ModulesAreKnown : Type 0
ModulesAreKnown = (d : Design) (p : Placed) → HasSoundModules d → IsPlacedIn d p → IsKnownAsPlaced d p

-- A name that is declared has an object, of at most 128 bits, and of at most 65,536 words where it is a memory. A parameter's number
-- fits its bits.
pub record HasObjectInBounds (o : Object) : Type 0 where
  pub narrow : IsNarrowObject o
  pub words : IfSome o.addresses (λ a. distance a.0 a.1 ≤ 65535)

abbrev pub ObjectsAreInBounds : Type 0
ObjectsAreInBounds = (d : Design) (p : Placed) (n : Name) → HasSoundModules d → IsPlacedIn d p → HasObjectInBounds (placed_scope p n)

-- What is asked at each place of a list, and what it is that it is so at one of them.
use Rattle.std.specs.Prelude.{Bool, true, false, not, ◌||◌, List, [], ◌∷◌, ◌⊎◌, is_some, IsTrue}
use Rattle.std.specs.List.{list_any}
use Rattle.wb_values.specs.Value.{Name}
use Rattle.verilog_trees.specs.Syntax.{Item, Module}
use Rattle.verilog_meaning.specs.Expression.{Scope}
use Rattle.verilog_meaning.specs.Register.{clocked_blocks, combinational_blocks}
use Rattle.verilog_meaning.specs.Hierarchy.{declarations, declaration_of}
use Rattle.verilog_meaning.specs.Settled.{assignments}
use Rattle.verilog_designs.specs.Known.{known_module_scope}
use Rattle.verilog_designs.specs.Drivers.{is_declared_reg, is_declared_input}
use Rattle.v_value.specs.Narrow.{HasNarrowObjects}
use Rattle.v_blocks.specs.Blocks.{is_blocking_in_clocked, is_nonblocking_in_combinational}
use Rattle.v_drivers.specs.Premises.{AreNarrowItems}
use Rattle.v_drivers.specs.Sets.{drivers, TwoMeet}
use Rattle.v_assigned.specs.Assigned.{one_link_assigns, one_block_assigns}
use Rattle.v_paths.specs.Modules.{AreFitItems, HasLatchIn, HasBadEventListIn}
use Rattle.v_places.specs.Below.{Spot}

-- It is so at one of the places.
abbrev pub SomeSpot : (Spot → Type 0) → List Spot → Type 0
SomeSpot IsSo [] = ⊥
SomeSpot IsSo (x ∷ spots) = IsSo x ⊎ SomeSpot IsSo spots

-- So it is where each place has one of a list besides, in the same order.
abbrev pub SomeWith : {A : Type 0} → (A → Spot → Type 0) → List A → List Spot → Type 0
SomeWith IsSo [] spots = ⊥
SomeWith IsSo (a ∷ more) [] = ⊥
SomeWith IsSo (a ∷ more) (x ∷ spots) = IsSo a x ⊎ SomeWith IsSo more spots

-- the scope of the module at a place, with those of its parameters that have values
abbrev pub spot_scope : Spot → Scope
spot_scope x = known_module_scope x.of_module x.constants

-- ---- blocks

-- Names fit words of 128 bits, blocks fit them too, and combinational ones assign no memory.
abbrev pub IsReadySpot : Spot → Type 0
IsReadySpot x = HasNarrowObjects (spot_scope x) × AreFitItems (spot_scope x) x.of_module.items

abbrev pub AreReadySpots : List Spot → Type 0
AreReadySpots [] = Unit {0}
AreReadySpots (x ∷ spots) = IsReadySpot x × AreReadySpots spots

abbrev pub HasBadEventListAt : (is_clock_net : Name → Bool) → Spot → Type 0
HasBadEventListAt is_clock_net x = HasBadEventListIn (spot_scope x) is_clock_net x.of_module.items

abbrev pub HasLatchAt : Spot → Type 0
HasLatchAt x = HasLatchIn (spot_scope x) x.of_module.items

abbrev pub has_blocking_in_clocked : Spot → Bool
has_blocking_in_clocked x = list_any is_blocking_in_clocked x.of_module.items

abbrev pub has_nonblocking_in_combinational : Spot → Bool
has_nonblocking_in_combinational x = list_any is_nonblocking_in_combinational x.of_module.items

-- ---- drivers

-- Names, and what these items assign, fit words of 128 bits.
abbrev pub IsDrivenSpot : List Item → Spot → Type 0
IsDrivenSpot items x = HasNarrowObjects (spot_scope x) × AreNarrowItems (spot_scope x) items

abbrev pub AreDrivenSpots : List (List Item) → List Spot → Type 0
AreDrivenSpots [] spots = Unit {0}
AreDrivenSpots (items ∷ lists) [] = Unit {0}
AreDrivenSpots (items ∷ lists) (x ∷ spots) = IsDrivenSpot items x × AreDrivenSpots lists spots

-- A block may not assign the name of a module that is no variable, and a continuous assignment may not assign a variable.
abbrev pub is_of_other_kind : Module → (in_block : Bool) → Name → Bool
is_of_other_kind m true n = not (is_declared_reg (declaration_of (declarations m) n))
is_of_other_kind m false n = is_declared_reg (declaration_of (declarations m) n)

-- Nor may they assign an input port or a parameter.
abbrev pub may_not_assign : Module → Scope → (in_block : Bool) → Name → Bool
may_not_assign m s b n = is_of_other_kind m b n || (is_declared_input (declaration_of (declarations m) n) || is_some (s n).constant)

-- One of these items assigns a name of the module that it may not assign.
abbrev pub assigns_bad_name : Module → Scope → List Item → Bool
assigns_bad_name m s items =
    one_link_assigns (may_not_assign m s false) (assignments items)
    || (one_block_assigns (may_not_assign m s true) (clocked_blocks items) || one_block_assigns (may_not_assign m s true) (combinational_blocks items))

-- Two of these items drive one bit or one memory, or one of them assigns a name that it may not assign.
abbrev pub HasBadDriverAt : List Item → Spot → Type 0
HasBadDriverAt items x = TwoMeet (spot_scope x) (drivers (spot_scope x) items) ⊎ IsTrue (assigns_bad_name x.of_module (spot_scope x) items)

-- The rule on drivers, judged place by place, over the items that drive something in each module.
use Rattle.std.specs.Prelude.{◌≡◌, ◌↔◌, ℕ, List, [], ◌∷◌, ◌++◌, map, length, slice_get, Option, Some, None}
use Rattle.verilog_trees.specs.Syntax.{Expression, Target, Item, Module}
use Rattle.verilog_meaning.specs.Expression.{Scope}
use Rattle.verilog_meaning.specs.Register.{clocked_blocks, combinational_blocks}
use Rattle.verilog_meaning.specs.Hierarchy.{PathStep, Placed}
use Rattle.verilog_meaning.specs.Settled.{Design, assignments, Connection, port_connections}
use Rattle.verilog_designs.specs.Drivers.{HasBadDriver}
use Rattle.driver_places.specs.Two.{output_target}
use Rattle.v_scopes.specs.declared.table.ModuleScope.{ModuleScope}
use Rattle.v_assigned.specs.Names.{HasNamesOf}
use Rattle.v_assigned.specs.Assigned.{names_are_bad}
use Rattle.v_places.specs.Below.{Spot}
use Rattle.v_places.specs.Places.{IsPlaceAt}
use Rattle.v_flat.specs.Outputs.{with_outputs}
use Rattle.v_flat.specs.Reordered.{AreReordered}
use Rattle.v_flat.specs.Whole.{IsPlacing}
use Rattle.place_kinds.specs.Places.{SomeWith, AreDrivenSpots, assigns_bad_name, HasBadDriverAt}
use Rattle.place_kinds.specs.Known.{HasSoundPlaces}

-- ---- what a module drives

abbrev pub one_target : Option Target → List Target
one_target None = []
one_target (Some t) = t ∷ []

-- the targets that outputs of the instances of a module drive, in the order of these connections
abbrev pub output_targets : Design → Placed → List Connection → List Target
output_targets d p [] = []
output_targets d p (c ∷ cs) = one_target (output_target d p c) ++ output_targets d p cs

abbrev pub targets_of : List (Target × Expression) → List Target
targets_of links = map (λ a. a.0) links

-- The items have the module's continuous assignments and blocks, and after its assignments those of the outputs of its instances, in some
-- order.
pub record IsAllDriven (d : Design) (p : Placed) (items : List Item) : Type 0 where
  pub outputs : List (Target × Expression)
  pub links : assignments items ≡ assignments p.of_module.items ++ outputs
  pub targets : AreReordered Target (targets_of outputs) (output_targets d p (port_connections p.of_module.items))
  pub clocked : clocked_blocks items ≡ clocked_blocks p.of_module.items
  pub combinational : combinational_blocks items ≡ combinational_blocks p.of_module.items

-- Each list has what the module with its number drives.
pub record AreAllDriven (d : Design) (spots : List Spot) (lists : List (List Item)) : Type 0 where
  pub as_many : length lists ≡ length spots
  pub each : (k : ℕ) (path : List PathStep) (p : Placed) (items : List Item) → slice_get lists k ≡ Some items → IsPlaceAt spots k path p → IsAllDriven d p items

-- ---- the laws

-- The lists with outputs of a list of places are such lists.
abbrev pub ListsAreAllDriven : Type 0
ListsAreAllDriven = (d : Design) (spots : List Spot) → IsPlacing d spots → AreAllDriven d spots (with_outputs spots)

-- Two drivers, and names that may not be assigned, may be looked for in each of these lists.
abbrev pub DrivenPlacesAreReady : Type 0
DrivenPlacesAreReady = (d : Design) (spots : List Spot) (lists : List (List Item)) → HasSoundPlaces d spots → AreAllDriven d spots lists → AreDrivenSpots lists spots

-- The design breaks the rule on drivers exactly where one of these lists does.
abbrev pub BadDriversAreAtPlaces : Type 0
BadDriversAreAtPlaces =
    (d : Design) (spots : List Spot) (lists : List (List Item)) → HasSoundPlaces d spots → AreAllDriven d spots lists
    → SomeWith HasBadDriverAt lists spots ↔ HasBadDriver d

-- By a table of the names of a module, in whatever scope, the names are found that it may not assign.
abbrev pub BadNamesAreFound : Type 0
BadNamesAreFound =
    (m : Module) (s : Scope) (names : ModuleScope) (items : List Item) → HasNamesOf names m → names_are_bad names s items ≡ assigns_bad_name m s items

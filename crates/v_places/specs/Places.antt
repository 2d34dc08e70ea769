-- When a list has each module that stands in a design once.
use Rattle.std.specs.Prelude.{◌≡◌, ◌<◌, ℕ, List, [], ◌∷◌, length, slice_get, Some}
use Rattle.verilog_trees.specs.Syntax.{Module}
use Rattle.verilog_meaning.specs.Hierarchy.{PathStep, instance_step, Placed, module_named, Instance, instance_named}
use Rattle.verilog_meaning.specs.Settled.{Design}
use Rattle.verilog_designs.specs.Known.{known_at}
use Rattle.v_places.specs.Below.{Spot, top_spot}

-- The module with this number stands at a path, the innermost step first: the first one is the top, and each other one stands a step
-- below its parent, which comes before it.
abbrev pub IsPathOf : List Spot → ℕ → List PathStep → Type 0
IsPathOf spots k [] = k ≡ 0
IsPathOf spots k (u ∷ around) =
    (x : Spot) × (slice_get spots k ≡ Some x) × (x.parent < k) × (u ≡ instance_step x.instance) × IsPathOf spots x.parent around

abbrev pub placed_by : List PathStep → Spot → Placed
placed_by path x = record { path = path; of_module = x.of_module; constants = x.constants }

-- what the module with this number is, at this path
pub record IsPlaceAt (spots : List Spot) (k : ℕ) (path : List PathStep) (p : Placed) : Type 0 where
  pub stands : IsPathOf spots k path
  pub spot : Spot
  pub is_spot : slice_get spots k ≡ Some spot
  pub is_placed : p ≡ placed_by path spot

-- what stands at a number of the list, at some path
pub record Standing (d : Design) (spots : List Spot) (k : ℕ) : Type 0 where
  pub path : List PathStep
  pub place : Placed
  pub is_place : IsPlaceAt spots k path place
  pub is_known : known_at d.source d.top path ≡ Some place

-- what is connected to an instance, as the module around it says
pub record IsConnected (spots : List Spot) (x : Spot) : Type 0 where
  pub outer : Spot
  pub is_outer : slice_get spots x.parent ≡ Some outer
  pub instance : Instance
  pub is_instance : instance_named outer.of_module.items x.instance ≡ Some instance
  pub are_connections : x.connections ≡ instance.connections

-- Each of the list stands in the design, each module that stands in the design is in the list, and none is there twice. The first is the
-- top, to which nothing is connected, and each other one has what is connected to its instance.
pub record ArePlaces (d : Design) (spots : List Spot) : Type 0 where
  pub each : (k : ℕ) → k < length spots → Standing d spots k
  pub all : (path : List PathStep) (p : Placed) → known_at d.source d.top path ≡ Some p → (k : ℕ) × IsPlaceAt spots k path p
  pub first : (top : Module) → module_named d.source d.top ≡ Some top → slice_get spots 0 ≡ Some (top_spot top)
  pub connected : (k : ℕ) (x : Spot) → 0 < k → slice_get spots k ≡ Some x → IsConnected spots x
  pub once : (i j : ℕ) (path : List PathStep) (p q : Placed) → IsPlaceAt spots i path p → IsPlaceAt spots j path q → i ≡ j

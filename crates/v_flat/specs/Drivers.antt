-- What is promised of the items that each module of a list drives, outputs of its instances among them.
use Rattle.std.specs.Prelude.{◌≡◌, ℕ, List, [], ◌∷◌, ◌++◌, length, slice_get, Option, Some, None}
use Rattle.verilog_trees.specs.Syntax.{Expression, Target, output, Item}
use Rattle.verilog_meaning.specs.Register.{clocked_blocks, combinational_blocks}
use Rattle.verilog_meaning.specs.Hierarchy.{PathStep, instance_step, Placed}
use Rattle.verilog_meaning.specs.Settled.{Design, at_path, assignments, Connection, port_connections}
use Rattle.v_places.specs.Below.{Spot}
use Rattle.v_places.specs.Places.{IsPlaceAt}
use Rattle.v_flat.specs.Links.{connection_link}
use Rattle.v_flat.specs.Outputs.{same_names, with_outputs}
use Rattle.v_flat.specs.Reordered.{AreReordered}
use Rattle.v_flat.specs.Whole.{IsPlacing}

-- a connection of an output as an assignment in the module around the instance, where this is the module below
abbrev pub output_link : Option Placed → Connection → List (Target × Expression)
output_link None c = []
output_link (Some below) c = connection_link output same_names same_names below.of_module c

-- those of the connections of a module that stands in the design
abbrev pub output_links : Design → Placed → List Connection → List (Target × Expression)
output_links d p [] = []
output_links d p (c ∷ cs) = output_link (at_path d (instance_step c.of_instance ∷ p.path)) c ++ output_links d p cs

-- The items have the module's continuous assignments, then what outputs of its instances drive, in some order, and its blocks.
pub record HasAllDrivers (d : Design) (p : Placed) (items : List Item) : Type 0 where
  pub outputs : List (Target × Expression)
  pub assigned : assignments items ≡ assignments p.of_module.items ++ outputs
  pub are_outputs : AreReordered (Target × Expression) outputs (output_links d p (port_connections p.of_module.items))
  pub clocked : clocked_blocks items ≡ clocked_blocks p.of_module.items
  pub combinational : combinational_blocks items ≡ combinational_blocks p.of_module.items

-- There is a list of items for each module of the list, with what that drives.
pub record AreAllDrivers (d : Design) (spots : List Spot) (lists : List (List Item)) : Type 0 where
  pub as_many : length lists ≡ length spots
  pub each : (k : ℕ) (path : List PathStep) (p : Placed) (items : List Item) → IsPlaceAt spots k path p → slice_get lists k ≡ Some items
      → HasAllDrivers d p items

abbrev pub ListsHaveAllDrivers : Type 0
ListsHaveAllDrivers = (d : Design) (spots : List Spot) → IsPlacing d spots → AreAllDrivers d spots (with_outputs spots)

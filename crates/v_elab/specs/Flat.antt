-- What stands for a design in one scope, and what is known of a design that stands at a list of places.
use Rattle.std.specs.Prelude.{◌≡◌, List, [], ◌++◌, Some}
use Rattle.wb_values.specs.Value.{Name}
use Rattle.verilog_trees.specs.Syntax.{Item}
use Rattle.verilog_meaning.specs.Expression.{Scope}
use Rattle.verilog_meaning.specs.Hierarchy.{Placed}
use Rattle.verilog_meaning.specs.Settled.{Design, at_path}
use Rattle.verilog_registers.specs.Order.{members_in}
use Rattle.verilog_designs.specs.Accepted.{IsAccepted}
use Rattle.verilog_exists.specs.Exists.{IsOfText}
use Rattle.flat_designs.specs.Flat.{Naming}
use Rattle.v_instances.specs.declared.interface.Interfaces.{Interfaces}
use Rattle.v_instances.specs.Interface.{AreInterfacesOf}
use Rattle.v_places.specs.Below.{Spot}
use Rattle.v_places.specs.Places.{ArePlaces}
use Rattle.v_flat.specs.Whole.{IsFlatDesign}
use Rattle.v_ordered.specs.Order.{AreNamesInOrder}

-- The scope and the items are the design in one scope, under a naming; these are the names of all its nets and variables in their order, and
-- the module is its top.
pub record IsFlatBody (d : Design) (called : Naming) (top : Placed) (s : Scope) (items : List Item) (ns : List Name) : Type 0 where
  pub is_top : at_path d [] ≡ Some top
  pub flat : IsFlatDesign d called s items
  pub fronts : (n : Name) → called [] [] ++ n ≡ called [] n
  pub in_order : AreNamesInOrder d called top (members_in top.of_module) ns

-- The design is accepted, its tree is one of a text, its clock has this name, its modules have these interfaces, and those that stand in it
-- are at these places.
pub record StandsAt (interfaces : Interfaces) (clock : Name) (spots : List Spot) (d : Design) : Type 0 where
  pub accepted : IsAccepted d
  pub of_text : IsOfText d
  pub is_clock : d.clock ≡ clock
  pub are_interfaces : AreInterfacesOf interfaces d.source
  pub places : ArePlaces d spots

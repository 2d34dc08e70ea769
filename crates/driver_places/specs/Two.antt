-- The drivers of a module with instances, as sets of bits: the parts of its continuous assignments, the parts of what outputs of its
-- instances drive, its clocked blocks and its other blocks; and the rule on drivers, module by module.
use Rattle.std.specs.Prelude.{cond, ◌⊎◌, ◌↔◌, not, ◌||◌, List, [], ◌∷◌, ◌++◌, Contains, Option, Some, None, IsTrue}
use Rattle.wb_values.specs.Value.{Name}
use Rattle.verilog_trees.specs.Syntax.{Expression, Target, Statement}
use Rattle.verilog_meaning.specs.Expression.{Scope}
use Rattle.verilog_meaning.specs.Register.{clocked_blocks, combinational_blocks}
use Rattle.verilog_meaning.specs.Hierarchy.{instance_step, Placed, placed_scope}
use Rattle.verilog_meaning.specs.Settled.{Design, at_path, IsPlacedIn, assignments, as_target, Connection, port_connections, port_meant}
use Rattle.verilog_designs.specs.Reads.{BitSet}
use Rattle.verilog_designs.specs.Drivers.{target_names, assigned_names, is_variable, is_fixed, IsOutputTarget, HasTwoDrivers, HasBadDriver}
use Rattle.verilog_designs.specs.Ports.{is_output, port_direction}
use Rattle.v_drivers.specs.Sets.{target_drivers, assignments_drivers, blocks_drivers, TwoMeet}

-- ---- the drivers of one module

-- the target that the connection drives, where it is one of an output
abbrev pub target_below : Option Placed → Connection → Option Target
target_below None c = None
target_below (Some below) c = cond (is_output (port_direction below.of_module (port_meant below.of_module c.to_port))) (as_target c.expression) None

abbrev pub output_target : Design → Placed → Connection → Option Target
output_target d p c = target_below (at_path d (instance_step c.of_instance ∷ p.path)) c

abbrev pub drivers_if_any : Scope → Option Target → List BitSet
drivers_if_any s None = []
drivers_if_any s (Some t) = target_drivers s t

abbrev pub outputs_drivers : Design → Placed → Scope → List Connection → List BitSet
outputs_drivers d p s [] = []
outputs_drivers d p s (c ∷ cs) = drivers_if_any s (output_target d p c) ++ outputs_drivers d p s cs

abbrev pub own_drivers : Design → Placed → List BitSet
own_drivers d p =
    assignments_drivers (placed_scope p) (assignments p.of_module.items)
    ++ (outputs_drivers d p (placed_scope p) (port_connections p.of_module.items)
    ++ (blocks_drivers (placed_scope p) (clocked_blocks p.of_module.items) ++ blocks_drivers (placed_scope p) (combinational_blocks p.of_module.items)))

-- A bit or a memory of a module has two drivers exactly where two of these sets meet.
abbrev pub TwoDriversAreTwoSets : Type 0
TwoDriversAreTwoSets = (d : Design) (p : Placed) → HasTwoDrivers d p ↔ TwoMeet (placed_scope p) (own_drivers d p)

-- ---- names that are assigned where they may not be

-- A block of the module assigns a wire, a continuous assignment or an output of an instance a variable, or one of them an input port or
-- a parameter.
pub data HasBadName (d : Design) (p : Placed) : Type 0 where
  in_clocked : (x : Statement) (n : Name) → Contains (clocked_blocks p.of_module.items) x → Contains (assigned_names x) n
      → IsTrue (not (is_variable p n) || is_fixed p n) → HasBadName d p
  in_combinational : (x : Statement) (n : Name) → Contains (combinational_blocks p.of_module.items) x → Contains (assigned_names x) n
      → IsTrue (not (is_variable p n) || is_fixed p n) → HasBadName d p
  by_assignment : (a : Target × Expression) (n : Name) → Contains (assignments p.of_module.items) a → Contains (target_names a.0) n
      → IsTrue (is_variable p n || is_fixed p n) → HasBadName d p
  by_output : (c : Connection) (t : Target) (n : Name) → Contains (port_connections p.of_module.items) c → IsOutputTarget d p c t
      → Contains (target_names t) n → IsTrue (is_variable p n || is_fixed p n) → HasBadName d p

-- Some module that stands in the design has one of these, or two of its drivers meet.
pub record HasBadPlace (d : Design) : Type 0 where
  pub place : Placed
  pub is_placed : IsPlacedIn d place
  pub is_bad : HasBadName d place ⊎ TwoMeet (placed_scope place) (own_drivers d place)

-- So the rule on drivers is judged module by module.
abbrev pub BadDriversAreInPlaces : Type 0
BadDriversAreInPlaces = (d : Design) → HasBadDriver d ↔ HasBadPlace d

-- Names that items of a module assign where they may not, by the rule on drivers.
use Rattle.std.specs.Prelude.{not, ◌||◌, List, Contains, IsTrue}
use Rattle.wb_values.specs.Value.{Name}
use Rattle.verilog_trees.specs.Syntax.{Expression, Target, Statement, Item}
use Rattle.verilog_meaning.specs.Register.{clocked_blocks, combinational_blocks}
use Rattle.verilog_meaning.specs.Hierarchy.{Placed}
use Rattle.verilog_meaning.specs.Settled.{assignments}
use Rattle.verilog_designs.specs.Drivers.{target_names, assigned_names, is_variable, is_fixed}

-- Within a module a block of such items assigns a name that is no variable, or a continuous assignment a variable, or one of them an
-- input port or a parameter.
pub data AssignsBadName (p : Placed) (items : List Item) : Type 0 where
  in_clocked : (x : Statement) (n : Name) → Contains (clocked_blocks items) x → Contains (assigned_names x) n
      → IsTrue (not (is_variable p n) || is_fixed p n) → AssignsBadName p items
  in_combinational : (x : Statement) (n : Name) → Contains (combinational_blocks items) x → Contains (assigned_names x) n
      → IsTrue (not (is_variable p n) || is_fixed p n) → AssignsBadName p items
  by_assignment : (a : Target × Expression) (n : Name) → Contains (assignments items) a → Contains (target_names a.0) n
      → IsTrue (is_variable p n || is_fixed p n) → AssignsBadName p items

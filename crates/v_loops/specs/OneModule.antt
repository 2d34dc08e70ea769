-- Which bits of a module depend on which, where the module stands by itself.
use Rattle.std.specs.Prelude.{List, Contains, IsTrue}
use Rattle.verilog_trees.specs.Syntax.{Expression, Target, Statement, Item}
use Rattle.verilog_meaning.specs.Expression.{Scope}
use Rattle.verilog_meaning.specs.Register.{may_assign, combinational_blocks}
use Rattle.verilog_meaning.specs.Settled.{assignments}
use Rattle.verilog_designs.specs.Dependence.{Bit, IsGivenBy, at_start, After}
use Rattle.v_depend.specs.Resting.{IsThere}

-- One bit depends on another by one continuous assignment or one combinational block.
pub data DependsIn (s : Scope) (items : List Item) : Bit → Bit → Type 0 where
  by_assignment : (a : Target × Expression) (u y : Bit) → Contains (assignments items) a → IsThere s u → IsGivenBy s a.0 s a.1 u y → DependsIn s items u y
  by_block : (x : Statement) (u y : Bit) → Contains (combinational_blocks items) x → IsThere s u
      → IsTrue (may_assign s x u.of_name u.word u.place) → After s at_start x u y → DependsIn s items u y

-- by one or more steps
pub data DependsFarIn (s : Scope) (items : List Item) : Bit → Bit → Type 0 where
  step : (u y : Bit) → DependsIn s items u y → DependsFarIn s items u y
  further : (u x y : Bit) → DependsIn s items u x → DependsFarIn s items x y → DependsFarIn s items u y

-- A bit depends on itself.
pub record HasLoopIn (s : Scope) (items : List Item) : Type 0 where
  pub bit : Bit
  pub loops : DependsFarIn s items bit bit

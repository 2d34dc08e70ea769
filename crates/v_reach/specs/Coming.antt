-- Which bits of a module come from some bits of it.
use Rattle.std.specs.Prelude.{List, IsTrue}
use Rattle.verilog_trees.specs.Syntax.{Item}
use Rattle.verilog_meaning.specs.Expression.{Scope}
use Rattle.verilog_designs.specs.Reads.{BitSet}
use Rattle.verilog_designs.specs.Dependence.{Bit, is_in}
use Rattle.v_loops.specs.OneModule.{DependsFarIn}

-- The bit is one of the roots, or depends on one of them by one or more steps.
pub data ComesFrom (s : Scope) (items : List Item) (roots : BitSet) (u : Bit) : Type 0 where
  itself : IsTrue (is_in roots u) → ComesFrom s items roots u
  through : (y : Bit) → DependsFarIn s items u y → IsTrue (is_in roots y) → ComesFrom s items roots u

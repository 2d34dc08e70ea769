-- Registers of a design.
use Rattle.std.specs.Prelude.{ℕ, ◌⊎◌, IsTrue}
use Rattle.wb_values.specs.Value.{Name}
use Rattle.verilog_meaning.specs.Expression.{is_memory}
use Rattle.verilog_meaning.specs.Hierarchy.{Placed, placed_scope}
use Rattle.verilog_meaning.specs.Settled.{Design, IsPlacedIn, IsDeclared, is_counted}

-- Some bit of the name counts: a clocked block may assign it.
pub record HasCounted (p : Placed) (n : Name) : Type 0 where
  pub word : ℕ
  pub bit : ℕ
  pub counts : IsTrue (is_counted p n word bit)

-- A register is a net or variable of which a clocked block may assign some bit, or a memory. (Of a memory that no clocked block assigns
-- no bit counts: it holds 0.)
pub record IsRegister (d : Design) (p : Placed) (n : Name) : Type 0 where
  pub is_placed : IsPlacedIn d p
  pub is_declared : IsDeclared p n
  pub keeps : HasCounted p n ⊎ IsTrue (is_memory (placed_scope p n))

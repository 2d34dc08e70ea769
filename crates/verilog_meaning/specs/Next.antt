-- Registers, and what the clock's edge makes of them, 1364-2005, 9.2.2 and 11.4.
use Rattle.std.specs.Prelude.{◌≡◌, ◌≢◌, ℕ, false, [], Some, IsTrue}
use Rattle.wb_values.specs.Value.{Name, Valuation}
use Rattle.verilog_trees.specs.Syntax.{input}
use Rattle.verilog_meaning.specs.Register.{clocked_blocks, value_bit, after_edge}
use Rattle.verilog_meaning.specs.Hierarchy.{Placed, placed_scope}
use Rattle.verilog_meaning.specs.Settled.{Design, at_path, IsPlacedIn, inside, IsDeclared, IsValueOf, is_counted, HasPort}

-- Registers give each net, variable and memory a value of its width. Only the bits that clocked blocks may assign count;
-- the others are 0.
pub record AreRegisters (d : Design) (registers : Valuation) : Type 0 where
  pub fits : (p : Placed) (n : Name) → IsPlacedIn d p → IsDeclared p n
      → IsValueOf (placed_scope p n) (inside registers p n)
  pub rest_zero : (p : Placed) (n : Name) (k b : ℕ) → IsPlacedIn d p → IsDeclared p n
      → is_counted p n k b ≡ false → value_bit (inside registers p n) k b ≡ false

-- Inputs give each input of the top but the clock a value of its width.
abbrev pub AreInputs : Design → Valuation → Type 0
AreInputs d inputs = (p : Placed) (n : Name) → at_path d [] ≡ Some p → HasPort p.of_module n input → n ≢ d.clock
    → IsValueOf (placed_scope p n) (inputs n)

-- The registers after an edge of the clock at which this valuation is settled: in each module the bits that count are
-- those that its clocked blocks leave.
pub record IsNext (d : Design) (v next : Valuation) : Type 0 where
  pub registers : AreRegisters d next
  pub assigned : (p : Placed) (n : Name) (k b : ℕ) → IsPlacedIn d p → IsDeclared p n
      → IsTrue (is_counted p n k b)
      → value_bit (inside next p n) k b
      ≡ value_bit (after_edge (placed_scope p) (clocked_blocks p.of_module.items) (inside v p) n) k b

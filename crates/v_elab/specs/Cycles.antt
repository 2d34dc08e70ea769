-- What a cycle makes of what was elaborated: when its names have settled, and what the terms are worth then.
use Rattle.std.specs.Prelude.{◌≡◌, ℕ, Bool, true, false, Some, IsTrue}
use Rattle.wb_values.specs.Value.{Name, Valuation}
use Rattle.verilog_meaning.specs.Expression.{is_memory}
use Rattle.verilog_meaning.specs.Register.{value_bit, is_bit_of, counts, clocked_blocks, combinational_blocks, after_edge}
use Rattle.verilog_meaning.specs.Settled.{IsValueOf, assignments, HasAssigned, HasRunAll}
use Rattle.verilog_designs.specs.Names.{is_among}
use Rattle.v_settle.specs.OneModule.{is_driven}
use Rattle.v_design.specs.Parts.{Parts}
use Rattle.v_design.specs.Design.{worth, after_cycle}
use Rattle.v_registers.specs.Registers.{IsRegister}
use Rattle.v_elab.specs.Elaborated.{Body}

-- a net or variable
abbrev pub IsDeclaredIn : Body → Name → Type 0
IsDeclaredIn b n = IsTrue (is_among b.declared n)

-- v has settled where registers and inputs are these: it gives each name a value of its object, each continuous assignment holds, each
-- combinational block gives v back; a bit that counts as a register's is the register's, an input is what is given, and a bit that nothing
-- drives is 0.
pub record HasSettled (b : Body) (is_given : Name → Bool) (registers inputs v : Valuation) : Type 0 where
  pub fits : (n : Name) → IsDeclaredIn b n → IsValueOf (b.scope n) (v n)
  pub assigned : HasAssigned b.scope v (assignments b.items)
  pub combinational : HasRunAll b.scope v (combinational_blocks b.items)
  pub held : (n : Name) (k c : ℕ) → IsDeclaredIn b n → IsTrue (counts b.scope (clocked_blocks b.items) n k c) → value_bit (v n) k c ≡ value_bit (registers n) k c
  pub inputs_held : (n : Name) (k c : ℕ) → IsDeclaredIn b n → is_given n ≡ true → value_bit (v n) k c ≡ value_bit (inputs n) k c
  pub unset : (n : Name) (k c : ℕ) → IsDeclaredIn b n → IsTrue (is_bit_of (b.scope n) k c) → is_driven b.scope b.items n k c ≡ false
      → counts b.scope (clocked_blocks b.items) n k c ≡ false → is_given n ≡ false → value_bit (v n) k c ≡ false

-- The term of each net and variable is worth its value. What counts of a register after the cycle is what the clocked blocks leave at the
-- clock's edge, and what does not count is 0.
pub record IsCycled (b : Body) (e : Parts) (registers inputs v : Valuation) : Type 0 where
  pub settles : (n : Name) → IsDeclaredIn b n → is_memory (b.scope n) ≡ false → (id : ℕ) × (e.settled n ≡ Some id) × (worth e registers inputs id ≡ v n)
  pub steps : (n : Name) (k c : ℕ) → IsDeclaredIn b n → IsTrue (counts b.scope (clocked_blocks b.items) n k c)
      → value_bit (after_cycle e registers inputs n) k c ≡ value_bit (after_edge b.scope (clocked_blocks b.items) v n) k c
  pub rests : (n : Name) (k c : ℕ) → IsRegister b.scope (clocked_blocks b.items) n → IsDeclaredIn b n → counts b.scope (clocked_blocks b.items) n k c ≡ false
      → value_bit (after_cycle e registers inputs n) k c ≡ false

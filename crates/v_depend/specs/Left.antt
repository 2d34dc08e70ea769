-- What an assignment to a target leaves of a bit, part by part.
use Rattle.std.specs.Prelude.{◌≡◌, ◌↔◌, ℕ, cond, not, nat_lt, IsTrue}
use Rattle.wb_values.specs.Value.{Name}
use Rattle.verilog_trees.specs.Syntax.{Selects, whole, one, two, Target, place}
use Rattle.verilog_meaning.specs.Expression.{Object, Scope, is_memory, Bits, no_values, select_bits}
use Rattle.verilog_meaning.specs.Statement.{all_bits, target_width}
use Rattle.verilog_meaning.specs.Register.{is_set}
use Rattle.verilog_designs.specs.Reads.{BitSet, surely_reaches}
use Rattle.verilog_designs.specs.Dependence.{Bit, is_in, takes, index_reads}
use Rattle.v_depend.specs.Resting.{IsThere, OneIsUnsettled}

-- A bit is left resting: it did before and may stay, or it takes a place of the value that rests, or an index by which it may be reached does.
pub data IsLeft (unsettled : BitSet) (s : Scope) (RestsIn : ℕ → Type 0) (RestedBefore : Type 0) (t : Target) (u : Bit) : Type 0 where
  stays : IsTrue (not (is_in (surely_reaches s t) u)) → RestedBefore → IsLeft unsettled s RestsIn RestedBefore t u
  takes_place : (j : ℕ) → IsTrue (nat_lt j (target_width s t)) → IsTrue (takes s t u j) → RestsIn j → IsLeft unsettled s RestsIn RestedBefore t u
  by_index : OneIsUnsettled unsettled (index_reads s t u) → IsLeft unsettled s RestsIn RestedBefore t u

-- each bit of the number is a place that rests
abbrev pub set_in : ℕ → ℕ → Type 0
set_in x j = IsTrue (is_set x j)

-- the bits that selects take of an object, where their indexes are constants
abbrev pub part_bits : Scope → Object → Selects → Bits
part_bits s o whole = all_bits o
part_bits s o (one i) = cond (is_memory o) (all_bits o) (select_bits s no_values o i)
part_bits s o (two i j) = select_bits s no_values o j

-- What a change leaves of each bit is what an assignment of such a value to the target leaves.
abbrev pub Assigns : (unsettled : BitSet) → Scope → Target → (value : ℕ) → (before after : BitSet) → Type 0
Assigns unsettled s t x before after =
    (u : Bit) → IsThere s u → IsTrue (is_in after u) ↔ IsLeft unsettled s (set_in x) (IsTrue (is_in before u)) t u

-- The target is a part of this name, which takes these bits of it.
pub record IsPart (s : Scope) (t : Target) (n : Name) (b : Bits) : Type 0 where
  pub selects : Selects
  pub is_part : t ≡ place n selects
  pub bits : b ≡ part_bits s (s n) selects

-- Expressions that fit words: no part is wider than 128 bits, and objects and values fit.
use Rattle.std.specs.Prelude.{ℕ, ◌^◌, ◌≤◌, ◌<◌, slice_index, IfSome}
use Rattle.wb_values.specs.Value.{Value, as_number, as_words, Valuation}
use Rattle.verilog_trees.specs.Syntax.{Expression, number, name, concatenation, replication, as_signed, as_unsigned, unary, reduction, binary, shift, power, comparison, logical, conditional, Expressions, no_expressions, expression, Select, index, part, part_up, part_down, Selects, whole, one, two}
use Rattle.verilog_meaning.specs.Expression.{Object, Scope, object_width, width_of, widths_of, selects_width}

-- 1 to 128 bits
abbrev pub IsWidth : ℕ → Type 0
IsWidth w = (1 ≤ w) × (w ≤ 128)

-- An object has at most 128 bits (its words, for a memory), and the number of a parameter fits them.
abbrev pub IsNarrowObject : Object → Type 0
IsNarrowObject o = (object_width o ≤ 128) × IfSome o.constant (λ c. c < 2 ^ object_width o)

abbrev pub HasNarrowObjects : Scope → Type 0
HasNarrowObjects s = (n : _) → IsNarrowObject (s n)

-- A value fits the bits of its object, and so does each word of a memory.
abbrev pub FitsObject : Object → Value → Type 0
FitsObject o x = (as_number x < 2 ^ object_width o) × ((k : ℕ) → slice_index (as_words x) k < 2 ^ object_width o)

abbrev pub HasFittingValues : Scope → Valuation → Type 0
HasFittingValues s v = (n : _) → FitsObject (s n) (v n)

abbrev pub IsReady : Scope → Valuation → Type 0
IsReady s v = HasNarrowObjects s × HasFittingValues s v

abbrev mutual
  -- Each part of the expression has 1 to 128 bits, and each number's bits fit its width. (Only the forms with a width of
  -- their own are looked at: every other form is as wide as its widest operand, or has one bit.)
  pub IsNarrow : Scope → Expression → Type 0
  IsNarrow s (number k) = IsWidth k.width × (k.value < 2 ^ k.width)
  IsNarrow s (name n x) = IsWidth (selects_width s (s n) x) × AreSelectsNarrow s x
  IsNarrow s (concatenation es) = IsWidth (widths_of s es) × AreNarrow s es
  IsNarrow s (replication k es) = IsWidth (width_of s (replication k es)) × HasNarrowObjects s × IsNarrow s k × AreNarrow s es
  IsNarrow s (as_signed x) = IsNarrow s x
  IsNarrow s (as_unsigned x) = IsNarrow s x
  IsNarrow s (unary op x) = IsNarrow s x
  IsNarrow s (reduction op x) = IsNarrow s x
  IsNarrow s (binary op x y) = IsNarrow s x × IsNarrow s y
  IsNarrow s (shift op x n) = IsNarrow s x × IsNarrow s n
  IsNarrow s (power x n) = IsNarrow s x × IsNarrow s n
  IsNarrow s (comparison op x y) = IsNarrow s x × IsNarrow s y
  IsNarrow s (logical op x y) = IsNarrow s x × IsNarrow s y
  IsNarrow s (conditional c x y) = IsNarrow s c × IsNarrow s x × IsNarrow s y

  pub AreNarrow : Scope → Expressions → Type 0
  AreNarrow s no_expressions = Unit {0}
  AreNarrow s (expression e es) = IsNarrow s e × AreNarrow s es

  -- Bounds and widths of part selects are constants, read where no net or variable has a value, as the counts of
  -- replications are. (How many bits a part select takes is among the widths that are looked at.)
  pub IsSelectNarrow : Scope → Select → Type 0
  IsSelectNarrow s (index i) = IsNarrow s i
  IsSelectNarrow s (part h l) = HasNarrowObjects s × IsNarrow s h × IsNarrow s l
  IsSelectNarrow s (part_up b n) = HasNarrowObjects s × IsNarrow s b × IsNarrow s n
  IsSelectNarrow s (part_down b n) = HasNarrowObjects s × IsNarrow s b × IsNarrow s n

  pub AreSelectsNarrow : Scope → Selects → Type 0
  AreSelectsNarrow s whole = Unit {0}
  AreSelectsNarrow s (one x) = IsSelectNarrow s x
  AreSelectsNarrow s (two x y) = IsSelectNarrow s x × IsSelectNarrow s y

-- Scopes that differ in some nets.
use Rattle.std.specs.Prelude.{◌≡◌, true, false, nat_le, None}
use Rattle.verilog_meaning.specs.Expression.{Object}
use Rattle.verilog_rules.specs.Expression.{Broken}

-- a net or a variable: declared, and no parameter
abbrev pub IsNet : Object → Type 0
IsNet o = (o.is_declared ≡ true) × (o.constant ≡ None)

-- Two objects that differ in their bits alone: their ranges run in one direction.
pub record AreAlike (o q : Object) : Type 0 where
  pub declared : o.is_declared ≡ q.is_declared
  pub range : o.has_range ≡ q.has_range
  pub memory : o.addresses ≡ q.addresses
  pub direction : nat_le o.right o.left ≡ nat_le q.right q.left

-- the rules that are broken, but for those on widths
abbrev pub five : Broken → Broken
five b = record b { width_over_128 = false; misshapen = false }

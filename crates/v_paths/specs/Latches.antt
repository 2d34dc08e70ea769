-- Latches: bits that a combinational block may assign, and does not assign on each path or reads before it has assigned them.
use Rattle.std.specs.Prelude.{◌≡◌, ℕ, Bool, true, false, ◌&&◌, ◌||◌, nat_lt, is_none, IsTrue, List, [], ◌∷◌}
use Rattle.wb_values.specs.Value.{Name}
use Rattle.verilog_trees.specs.Syntax.{Statement}
use Rattle.verilog_meaning.specs.Expression.{Scope}
use Rattle.verilog_meaning.specs.Register.{is_bit_of, may_assign}
use Rattle.verilog_designs.specs.Paths.{is_latched}
use Rattle.v_flow.specs.declared.span.Span.{Span}

-- some bit of a net or variable (a parameter has none)
pub record HasLatchedBit (s : Scope) (x : Statement) : Type 0 where
  pub name : Name
  pub word : ℕ
  pub bit : ℕ
  pub is_variable : is_none (s name).constant ≡ true
  pub is_bit : IsTrue (is_bit_of (s name) word bit)
  pub is_assigned : IsTrue (may_assign s x name word bit)
  pub latched : IsTrue (is_latched s x name word bit)

-- ---- spans with bits

abbrev pub has_bit : Span → Bool
has_bit x = nat_lt x.from_word x.to_word && nat_lt 0 x.bits

-- Some span has a bit, and its name is so.
abbrev pub one_has_bit : (Name → Bool) → List Span → Bool
one_has_bit is_so [] = false
one_has_bit is_so (x ∷ xs) = (has_bit x && is_so x.name.now) || one_has_bit is_so xs

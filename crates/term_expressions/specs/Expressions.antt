-- Verilog expressions for the forms of a model's terms, over expressions for their operands.
use Rattle.std.specs.Prelude.{◌≡◌, ℕ, ◌-◌, ◌<◌, ◌^◌, false, true}
use Rattle.wb_values.specs.Value.{Name, Valuation}
use Rattle.verilog_trees.specs.Syntax.{Expression, number, name, concatenation, as_signed, as_unsigned, comparison, shift, no_expressions, expression, one, part, index, ComparisonOperator, arithmetic_right}
use Rattle.verilog_meaning.specs.Expression.{Scope, width_of, sign_of, value_of, assigned_value}

-- An expression is worth a number of w bits: it has w bits and no sign, and in a context like that its value is the number.
pub record IsWorth (s : Scope) (v : Valuation) (e : Expression) (w x : ℕ) : Type 0 where
  pub width : width_of s e ≡ w
  pub unsigned : sign_of s e ≡ false
  pub value : value_of s v e w false ≡ x
  pub fits : x < 2 ^ w

-- An assignment of the expression gives a net of w bits the number.
abbrev pub IsAssigned : Scope → Valuation → Expression → (w x : ℕ) → Type 0
IsAssigned s v e w x = assigned_value s v w e ≡ x

-- a constant: w'dx
abbrev pub sized : (w x : ℕ) → Expression
sized w x = number (record { width = w; sized = true; signed = false; value = x; unknown = 0; wild = 0; has_unknown = false; has_wild = false })

-- $unsigned($signed(e) >>> f)
abbrev pub arithmetic_shift : Expression → Expression → Expression
arithmetic_shift e f = as_unsigned (shift arithmetic_right (as_signed e) f)

-- a comparison in two's complement
abbrev pub signed_comparison : ComparisonOperator → Expression → Expression → Expression
signed_comparison op e f = comparison op (as_signed e) (as_signed f)

-- {e, f}
abbrev pub pair_of : Expression → Expression → Expression
pair_of e f = concatenation (expression e (expression f no_expressions))

-- a number that is written without a size, as bounds and indexes are
abbrev pub plain : ℕ → Expression
plain x = number (record { width = 32; sized = false; signed = true; value = x; unknown = 0; wild = 0; has_unknown = false; has_wild = false })

-- n[h:l]
abbrev pub bits_of : Name → (h l : ℕ) → Expression
bits_of n h l = name n (one (part (plain h) (plain l)))

-- m[e]
abbrev pub word_at : Name → Expression → Expression
word_at m e = name m (one (index e))

-- {(n-w)'d0, e}
abbrev pub filled : (n w : ℕ) → Expression → Expression
filled n w e = pair_of (sized (n - w) 0) e

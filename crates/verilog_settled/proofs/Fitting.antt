-- The value of an expression fits its context, where what is read fits.
use Rattle.std.proofs.Common.{◌≡◌, ℕ, ◌^◌, ◌<◌, ◌≤◌, Bool, false, refl, Option, Some, None, unwrap_or, arith}
use Rattle.wb_values.specs.Value.{Name, as_number, Valuation}
use Rattle.verilog_trees.specs.Syntax.{Expression, number, name, concatenation, replication, as_signed, as_unsigned, unary, reduction, binary, shift, power, comparison, logical, conditional, Expressions, no_expressions, expression, Selects, whole, one, two}
use Rattle.verilog_meaning.specs.Expression.{Scope, object_width, width_of, widths_of, value_of, joined_value, selected, selects_width}
use Rattle.wb_laws.specs.Widths.{ReadFits, LeavesFit, AllLeavesFit}
use Rattle.wb_laws.proofs.Widths.{fits}
use Rattle.verilog_settled.specs.Locality.{HasNoConstantMemory, LeavesAre, AllLeavesAre}
use Rattle.verilog_settled.proofs.Values.{alike_turned, numbers_below, words_below}
use Rattle.verilog_settled.proofs.Names.{IsReadable, no_constant}
use Rattle.verilog_settled.proofs.Expressions.{AreReadable}

pub read_fits : (s : Scope) (v w : Valuation) (HasValue : Name → Type 0) → HasNoConstantMemory s → (n : Name) (x : Selects)
    → IsReadable s v w HasValue n → ReadFits (s n) (v n) x
read_fits s v w HasValue p n whole r = by_constant (s n).constant refl
  where
    by_constant : (c : Option ℕ) → (s n).constant ≡ c → unwrap_or c (as_number (v n)) < 2 ^ object_width (s n)
    by_constant (Some c) e = r.small c e
    by_constant None e = numbers_below (s n) (v n) (w n) (r.alike e)
read_fits s v w HasValue p n (one i) r = λ m k. words_below (s n) (v n) (w n) k (r.alike (no_constant s n p m))
read_fits s v w HasValue p n (two i j) r = tt

-- the same of the valuations in the other order
pub turned : (s : Scope) (v w : Valuation) (HasValue IsKnown : Name → Type 0) → AreReadable s v w HasValue IsKnown → AreReadable s w v HasValue IsKnown
turned s v w HasValue IsKnown r n k =
    record { small = (r n k).small; alike = λ e. alike_turned (s n) (v n) (w n) ((r n k).alike e); has_value = (r n k).has_value }

mutual
  pub leaves_fit : (s : Scope) (v w : Valuation) (HasValue IsKnown : Name → Type 0) → HasNoConstantMemory s → AreReadable s v w HasValue IsKnown
      → (e : Expression) → LeavesAre IsKnown e → LeavesFit s v e
  leaves_fit s v w HasValue IsKnown p r (number k) l = l
  leaves_fit s v w HasValue IsKnown p r (name n x) l = read_fits s v w HasValue p n x (r n l.0)
  leaves_fit s v w HasValue IsKnown p r (concatenation es) l = all_leaves_fit s v w HasValue IsKnown p r es l
  leaves_fit s v w HasValue IsKnown p r (replication k es) l = all_leaves_fit s v w HasValue IsKnown p r es l
  leaves_fit s v w HasValue IsKnown p r (as_signed x) l = leaves_fit s v w HasValue IsKnown p r x l
  leaves_fit s v w HasValue IsKnown p r (as_unsigned x) l = leaves_fit s v w HasValue IsKnown p r x l
  leaves_fit s v w HasValue IsKnown p r (unary op x) l = leaves_fit s v w HasValue IsKnown p r x l
  leaves_fit s v w HasValue IsKnown p r (reduction op x) l = tt
  leaves_fit s v w HasValue IsKnown p r (binary op x y) l =
      (leaves_fit s v w HasValue IsKnown p r x l.0, leaves_fit s v w HasValue IsKnown p r y l.1)
  leaves_fit s v w HasValue IsKnown p r (shift op x n) l = leaves_fit s v w HasValue IsKnown p r x l.0
  leaves_fit s v w HasValue IsKnown p r (power x n) l = tt
  leaves_fit s v w HasValue IsKnown p r (comparison op x y) l = tt
  leaves_fit s v w HasValue IsKnown p r (logical op x y) l = tt
  leaves_fit s v w HasValue IsKnown p r (conditional c x y) l =
      (leaves_fit s v w HasValue IsKnown p r x l.1, leaves_fit s v w HasValue IsKnown p r y l.2)

  pub all_leaves_fit : (s : Scope) (v w : Valuation) (HasValue IsKnown : Name → Type 0) → HasNoConstantMemory s → AreReadable s v w HasValue IsKnown
      → (es : Expressions) → AllLeavesAre IsKnown es → AllLeavesFit s v es
  all_leaves_fit s v w HasValue IsKnown p r no_expressions l = tt
  all_leaves_fit s v w HasValue IsKnown p r (expression e es) l =
      (leaves_fit s v w HasValue IsKnown p r e l.0, all_leaves_fit s v w HasValue IsKnown p r es l.1)

-- in a context at least as wide
pub value_fits : (s : Scope) (v w : Valuation) (HasValue IsKnown : Name → Type 0) → HasNoConstantMemory s → AreReadable s v w HasValue IsKnown
    → (e : Expression) (width : ℕ) (signed : Bool) → LeavesAre IsKnown e → width_of s e ≤ width → value_of s v e width signed < 2 ^ width
value_fits s v w HasValue IsKnown p r e width signed l h = fits s v e width signed (leaves_fit s v w HasValue IsKnown p r e l) h

pub selected_fits : (s : Scope) (v w : Valuation) (HasValue : Name → Type 0) → HasNoConstantMemory s → (n : Name) (x : Selects)
    → IsReadable s v w HasValue n → selected s v (s n) (v n) x < 2 ^ selects_width s (s n) x
selected_fits s v w HasValue p n x r = fits s v (name n x) (selects_width s (s n) x) false (read_fits s v w HasValue p n x r) (omega arith)

pub parts_fit : (s : Scope) (v w : Valuation) (HasValue IsKnown : Name → Type 0) → HasNoConstantMemory s → AreReadable s v w HasValue IsKnown
    → (es : Expressions) → AllLeavesAre IsKnown es → joined_value s v es < 2 ^ widths_of s es
parts_fit s v w HasValue IsKnown p r es l = fits s v (concatenation es) (widths_of s es) false (all_leaves_fit s v w HasValue IsKnown p r es l) (omega arith)

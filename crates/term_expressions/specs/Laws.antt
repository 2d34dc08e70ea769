-- Each form of a term is worth what the expression for it is.
use Rattle.std.specs.Prelude.{◌≡◌, ℕ, ◌+◌, ◌-◌, ◌<◌, ◌≤◌, ◌^◌, Bool, false, cond, slice_index, Some, None}
use Rattle.wb_values.specs.Value.{Name, Valuation, number, as_words}
use Rattle.wb_values.specs.Number.{word_not, word_neg, word_add, word_sub, word_mul, word_and, word_or, word_xor, word_shl, word_lshr, word_ashr, word_eq, word_ult, word_ule, word_slt, word_sle, word_concat, word_extract, word_sext}
use Rattle.verilog_trees.specs.Syntax.{Expression, unary, complement, minus, binary, add, subtract, multiply, bitwise_and, bitwise_or, bitwise_xor, shift, left, right, comparison, less, less_or_equal, equal, conditional, as_signed}
use Rattle.verilog_meaning.specs.Expression.{Scope, object_width, assigned_value, bit}
use Rattle.verilog_meaning.specs.Statement.{target_width}
use Rattle.verilog_meaning.specs.Settled.{Has, whole_of, whole_name}
use Rattle.term_expressions.specs.Expressions.{IsWorth, IsAssigned, sized, arithmetic_shift, signed_comparison, pair_of, filled, bits_of, word_at}

-- operands of one width, under a scope and a valuation
abbrev pub OfOne : ((s : Scope) (v : Valuation) (e : Expression) (w x : ℕ) → Type 0) → Type 0
OfOne Is = (s : Scope) (v : Valuation) (e : Expression) (w x : ℕ) → IsWorth s v e w x → Is s v e w x

abbrev pub OfTwo : ((s : Scope) (v : Valuation) (e f : Expression) (w x y : ℕ) → Type 0) → Type 0
OfTwo Is = (s : Scope) (v : Valuation) (e f : Expression) (w x y : ℕ) → IsWorth s v e w x → IsWorth s v f w y → Is s v e f w x y

abbrev pub ComplementIsNot : Type 0
ComplementIsNot = OfOne (λ s v e w x. IsWorth s v (unary complement e) w (word_not w x))

abbrev pub MinusIsNeg : Type 0
MinusIsNeg = OfOne (λ s v e w x. IsWorth s v (unary minus e) w (word_neg w x))

abbrev pub SumIsAdd : Type 0
SumIsAdd = OfTwo (λ s v e f w x y. IsWorth s v (binary add e f) w (word_add w x y))

abbrev pub DifferenceIsSub : Type 0
DifferenceIsSub = OfTwo (λ s v e f w x y. IsWorth s v (binary subtract e f) w (word_sub w x y))

abbrev pub ProductIsMul : Type 0
ProductIsMul = OfTwo (λ s v e f w x y. IsWorth s v (binary multiply e f) w (word_mul w x y))

abbrev pub BitwiseAndIsAnd : Type 0
BitwiseAndIsAnd = OfTwo (λ s v e f w x y. IsWorth s v (binary bitwise_and e f) w (word_and x y))

abbrev pub BitwiseOrIsOr : Type 0
BitwiseOrIsOr = OfTwo (λ s v e f w x y. IsWorth s v (binary bitwise_or e f) w (word_or x y))

abbrev pub BitwiseXorIsXor : Type 0
BitwiseXorIsXor = OfTwo (λ s v e f w x y. IsWorth s v (binary bitwise_xor e f) w (word_xor x y))

abbrev pub ShiftLeftIsShl : Type 0
ShiftLeftIsShl = OfTwo (λ s v e f w x n. IsWorth s v (shift left e f) w (word_shl w x n))

abbrev pub ShiftRightIsLshr : Type 0
ShiftRightIsLshr = OfTwo (λ s v e f w x n. IsWorth s v (shift right e f) w (word_lshr w x n))

abbrev pub ArithmeticShiftIsAshr : Type 0
ArithmeticShiftIsAshr = OfTwo (λ s v e f w x n. IsWorth s v (arithmetic_shift e f) w (word_ashr w x n))

abbrev pub EqualIsEq : Type 0
EqualIsEq = OfTwo (λ s v e f w x y. IsWorth s v (comparison equal e f) 1 (bit (word_eq x y)))

abbrev pub LessIsUlt : Type 0
LessIsUlt = OfTwo (λ s v e f w x y. IsWorth s v (comparison less e f) 1 (bit (word_ult x y)))

abbrev pub LessOrEqualIsUle : Type 0
LessOrEqualIsUle = OfTwo (λ s v e f w x y. IsWorth s v (comparison less_or_equal e f) 1 (bit (word_ule x y)))

abbrev pub SignedLessIsSlt : Type 0
SignedLessIsSlt = OfTwo (λ s v e f w x y. IsWorth s v (signed_comparison less e f) 1 (bit (word_slt w x y)))

abbrev pub SignedLessOrEqualIsSle : Type 0
SignedLessOrEqualIsSle = OfTwo (λ s v e f w x y. IsWorth s v (signed_comparison less_or_equal e f) 1 (bit (word_sle w x y)))

-- The left part is the high one.
abbrev pub PartsAreConcat : Type 0
PartsAreConcat =
    (s : Scope) (v : Valuation) (e f : Expression) (u w x y : ℕ) → IsWorth s v e u x → IsWorth s v f w y
    → IsWorth s v (pair_of e f) (u + w) (word_concat w x y)

abbrev pub FilledIsZext : Type 0
FilledIsZext = (s : Scope) (v : Valuation) (e : Expression) (w n x : ℕ) → w < n → IsWorth s v e w x → IsWorth s v (filled n w e) n x

-- a net to which a signed expression is assigned
abbrev pub SignedIsSext : Type 0
SignedIsSext = (s : Scope) (v : Valuation) (e : Expression) (w n x : ℕ) → w ≤ n → IsWorth s v e w x → IsAssigned s v (as_signed e) n (word_sext n w x)

-- The condition is a number of one bit.
abbrev pub ConditionalIsIte : Type 0
ConditionalIsIte =
    (s : Scope) (v : Valuation) (c e f : Expression) (b : Bool) (w x y : ℕ) → IsWorth s v c 1 (bit b) → IsWorth s v e w x → IsWorth s v f w y
    → IsWorth s v (conditional c e f) w (cond b x y)

abbrev pub SizedIsConst : Type 0
SizedIsConst = (s : Scope) (v : Valuation) (w x : ℕ) → x < 2 ^ w → IsWorth s v (sized w x) w x

-- ---- names

-- A net or variable of w bits, no memory, without a sign.
pub record IsPlainNet (s : Scope) (n : Name) (w : ℕ) : Type 0 where
  pub width : object_width (s n) ≡ w
  pub unsigned : (s n).signed ≡ false
  pub no_memory : (s n).addresses ≡ None
  pub no_parameter : (s n).constant ≡ None

abbrev pub NameIsItsValue : Type 0
NameIsItsValue =
    (s : Scope) (v : Valuation) (n : Name) (w x : ℕ) → IsPlainNet s n w → v n ≡ number x → x < 2 ^ w → IsWorth s v (whole_name n) w x

-- Bits h to l of a net that is declared [w-1:0], of a width that words have.
abbrev pub BitsAreExtract : Type 0
BitsAreExtract =
    (s : Scope) (v : Valuation) (n : Name) (w h l x : ℕ) → IsPlainNet s n w → (s n).right ≡ 0 → v n ≡ number x → l ≤ h → h < w → w ≤ 128
    → IsWorth s v (bits_of n h l) (h + 1 - l) (word_extract h l x)

-- A memory of 2^a words of w bits, without a sign.
pub record IsMemory (s : Scope) (n : Name) (a w : ℕ) : Type 0 where
  pub width : object_width (s n) ≡ w
  pub unsigned : (s n).signed ≡ false
  pub addresses : (s n).addresses ≡ Some (0, 2 ^ a - 1)

-- A word of it, at the number of an expression of a bits.
abbrev pub WordIsLoad : Type 0
WordIsLoad =
    (s : Scope) (v : Valuation) (m : Name) (e : Expression) (a w i : ℕ) → IsMemory s m a w → IsWorth s v e a i
    → slice_index (as_words (v m)) i < 2 ^ w → IsWorth s v (word_at m e) w (slice_index (as_words (v m)) i)

-- ---- assignments

-- A net of the expression's width takes its number.
abbrev pub StandingIsAssigned : Type 0
StandingIsAssigned = OfOne (λ s v e w x. IsAssigned s v e w x)

-- Where the assignment of an expression to a net holds, in a valuation that gives the net a number of its width, the net has the number
-- that it is assigned.
abbrev pub AssignedNetHasItsNumber : Type 0
AssignedNetHasItsNumber =
    (s : Scope) (v : Valuation) (n : Name) (e : Expression) (w x old : ℕ) → IsPlainNet s n w → v n ≡ number old → old < 2 ^ w
    → IsAssigned s v e w x → x < 2 ^ w → Has s v (whole_of n) (assigned_value s v (target_width s (whole_of n)) e) → v n ≡ number x

-- Widths, signs and values of expressions, 1364-2005, 5.1, 5.4 and 5.5: one line for each form.
use Rattle.std.specs.Prelude.{ℕ, zero, suc, unwrap_or, is_some, option_and_then, ◌+◌, ◌-◌, ◌*◌, ◌/◌, ◌%◌, ◌^◌, min, max, Bool, true, false, cond, not, ◌&&◌, ◌||◌, ◌==◌, nat_le, nat_lt, slice_index, Option, Some, None, ℤ, pos, negsuc, ◌+ℤ◌, ◌-ℤ◌, int_lt, int_le, int_div, int_rem, count_ones}
use Rattle.wb_values.specs.Value.{Name, Value, as_number, as_words, Valuation, Entries, entry_of, number as a_number}
use Rattle.wb_values.specs.Number.{signed_value, word_not, word_neg, word_add, word_sub, word_mul, word_and, word_or, word_xor, word_shl, word_lshr, word_ashr, word_sext}
use Rattle.verilog_trees.specs.Syntax.{UnaryOperator, plus, minus, complement, ReductionOperator, is_zero, all_ones, not_all_ones, any_one, no_one, odd_ones, even_ones, BinaryOperator, add, subtract, multiply, divide, modulo, bitwise_and, bitwise_or, bitwise_xor, bitwise_xnor, ShiftOperator, left, right, arithmetic_right, ComparisonOperator, less, less_or_equal, greater, greater_or_equal, equal, not_equal, LogicalOperator, both, either, Expression, number, name, concatenation, replication, as_signed, as_unsigned, unary, reduction, binary, shift, power, comparison, logical, conditional, Expressions, no_expressions, expression, Select, index, part, part_up, part_down, Selects, whole, one, two}

-- What a name of a module stands for: whether it is declared (as a net, a variable, a memory or a parameter); whether it is signed;
-- whether it has a range, and its bits [left:right], those of a word for a memory; for a memory its addresses [first:last]; and for
-- a parameter its number.
-- A net or variable without a range is a scalar, with the bits [0:0]: `wire a` has no range, and `wire [0:0] a` has one (4.3).
-- A parameter that is declared without a range has that of its value of w bits, [w-1:0] (4.10.1).
pub record Object : Type 0 where
  pub is_declared : Bool
  pub signed : Bool
  pub has_range : Bool
  pub left : ℕ
  pub right : ℕ
  pub addresses : Option (ℕ × ℕ)
  pub constant : Option ℕ

-- A scope gives each name its object.
abbrev pub Scope : Type 0
Scope = Name → Object

-- What a name that is not declared is read as: one bit, which nothing gives a value. (Such names are refused before.)
abbrev pub undeclared : Object
undeclared = record { is_declared = false; signed = false; has_range = false; left = 0; right = 0; addresses = None; constant = None }

abbrev pub object_or_undeclared : Option Object → Object
object_or_undeclared (Some o) = o
object_or_undeclared None = undeclared

-- the scope that a list of declared names gives
abbrev pub scope_of : Entries Object → Scope
scope_of es n = object_or_undeclared (entry_of es n)

-- how far apart two numbers are
abbrev pub distance : ℕ → ℕ → ℕ
distance m n = max m n - min m n

-- how many bits a net, a variable, a parameter or a memory's word has
abbrev pub object_width : Object → ℕ
object_width o = distance o.left o.right + 1

-- The place of the bit with this index, counted from 0 at the low end. Places below 0 and from the width on are out of range.
abbrev pub place_of_bit : Object → ℤ → ℤ
place_of_bit o i = cond (nat_le o.right o.left) (i -ℤ pos o.right) (pos o.right -ℤ i)

-- the number of a word within a memory with these addresses, counted from 0 at the least address, where it is in range
abbrev pub word_number : ℕ × ℕ → ℤ → Option ℕ
word_number a (pos i) = cond (nat_le (min a.0 a.1) i && nat_le i (max a.0 a.1)) (Some (i - min a.0 a.1)) None
word_number a (negsuc i) = None

-- so many bits from a place on
pub record Bits : Type 0 where
  pub low : ℤ
  pub count : ℕ

-- Bits of a number. Those below place 0 read 0; those past its width read 0, since the number has none there.
abbrev pub bits_from : ℤ → ℕ → ℕ → ℕ
bits_from (pos k) n x = x / 2 ^ k % 2 ^ n
bits_from (negsuc k) n x = x * 2 ^ (k + 1) % 2 ^ n

abbrev pub bits_taken : ℕ → Bits → ℕ
bits_taken x b = bits_from b.low b.count x

-- an operand in a wider context: the sign bit is copied where the whole is signed
abbrev pub widened : Bool → ℕ → ℕ → ℕ → ℕ
widened signed from to x = cond signed (word_sext to from x) x

-- the number that bits stand for, by their sign
abbrev pub integer_from : Bool → ℕ → ℕ → ℤ
integer_from signed w x = cond signed (signed_value w x) (pos x)

abbrev pub natural_of : ℤ → ℕ
natural_of (pos n) = n
natural_of (negsuc n) = 0

abbrev pub bit : Bool → ℕ
bit b = cond b 1 0

abbrev pub is_nonzero : ℕ → Bool
is_nonzero x = nat_lt 0 x

-- the bits of an integer modulo 2^w
abbrev pub bits_of_integer : ℕ → ℤ → ℕ
bits_of_integer w (pos n) = n % 2 ^ w
bits_of_integer w (negsuc n) = word_not w (n % 2 ^ w)

-- so many copies of a number of w bits side by side
abbrev pub side_by_side : ℕ → ℕ → ℕ → ℕ
side_by_side zero w x = 0
side_by_side (suc n) w x = x * 2 ^ (n * w) + side_by_side n w x

abbrev pub unary_value : UnaryOperator → ℕ → ℕ → ℕ
unary_value plus w x = x
unary_value minus w x = word_neg w x
unary_value complement w x = word_not w x

-- of an operand of w bits
abbrev pub reduction_value : ReductionOperator → ℕ → ℕ → Bool
reduction_value is_zero w x = x == 0
reduction_value all_ones w x = x == 2 ^ w - 1
reduction_value not_all_ones w x = not (x == 2 ^ w - 1)
reduction_value any_one w x = is_nonzero x
reduction_value no_one w x = x == 0
reduction_value odd_ones w x = count_ones x % 2 == 1
reduction_value even_ones w x = count_ones x % 2 == 0

-- / cuts toward 0, and % has the sign of its left side
abbrev pub binary_value : BinaryOperator → ℕ → Bool → ℕ → ℕ → ℕ
binary_value add w signed x y = word_add w x y
binary_value subtract w signed x y = word_sub w x y
binary_value multiply w signed x y = word_mul w x y
binary_value divide w signed x y = bits_of_integer w (int_div (integer_from signed w x) (integer_from signed w y))
binary_value modulo w signed x y = bits_of_integer w (int_rem (integer_from signed w x) (integer_from signed w y))
binary_value bitwise_and w signed x y = word_and x y
binary_value bitwise_or w signed x y = word_or x y
binary_value bitwise_xor w signed x y = word_xor x y
binary_value bitwise_xnor w signed x y = word_not w (word_xor x y)

-- by the unsigned n; >>> copies the sign where the whole is signed
abbrev pub shift_value : ShiftOperator → ℕ → Bool → ℕ → ℕ → ℕ
shift_value left w signed x n = word_shl w x n
shift_value right w signed x n = word_lshr w x n
shift_value arithmetic_right w signed x n = cond signed (word_ashr w x n) (word_lshr w x n)

-- by an exponent from 0 on; one below 0 is refused before
abbrev pub power_value : ℕ → ℕ → ℤ → ℕ
power_value w x n = x ^ natural_of n % 2 ^ w

abbrev pub comparison_value : ComparisonOperator → ℤ → ℤ → Bool
comparison_value less x y = int_lt x y
comparison_value less_or_equal x y = int_le x y
comparison_value greater x y = int_lt y x
comparison_value greater_or_equal x y = int_le y x
comparison_value equal x y = int_le x y && int_le y x
comparison_value not_equal x y = int_lt x y || int_lt y x

abbrev pub logical_value : LogicalOperator → Bool → Bool → Bool
logical_value both a b = a && b
logical_value either a b = a || b

abbrev pub is_memory : Object → Bool
is_memory o = is_some o.addresses

-- A word of a memory by one index is read whole, with the memory's sign; every other select is unsigned.
abbrev pub selects_sign : Object → Selects → Bool
selects_sign o whole = o.signed
selects_sign o (one x) = is_memory o && o.signed
selects_sign o (two x y) = false

-- Signs (5.5.1).
abbrev pub sign_of : Scope → Expression → Bool
sign_of s (number k) = k.signed
sign_of s (name n x) = selects_sign (s n) x
sign_of s (concatenation es) = false
sign_of s (replication k es) = false
sign_of s (as_signed x) = true
sign_of s (as_unsigned x) = false
sign_of s (unary op x) = sign_of s x
sign_of s (reduction op x) = false
sign_of s (binary op x y) = sign_of s x && sign_of s y
sign_of s (shift op x n) = sign_of s x
sign_of s (power x n) = sign_of s x
sign_of s (comparison op x y) = false
sign_of s (logical op x y) = false
sign_of s (conditional c x y) = sign_of s x && sign_of s y

-- what a valuation has where only constants are read
abbrev pub no_values : Valuation
no_values n = a_number 0

-- what stands under a name that is no memory: a parameter's number, or the valuation's
abbrev pub whole_value : Object → Value → ℕ
whole_value o x = unwrap_or o.constant (as_number x)

-- the word of a memory, 0 where the address is out of range
abbrev pub word_or_zero : Option ℕ → Value → ℕ
word_or_zero None x = 0
word_or_zero (Some k) x = slice_index (as_words x) k

-- the word that an index reads
abbrev pub indexed_word : Object → ℤ → Value → ℕ
indexed_word o i x = word_or_zero (option_and_then (λ a. word_number a i) o.addresses) x

-- The bits that a part select takes. Its indexes run as the range was declared; those of +: and -: go up and down from the base.
abbrev pub bits_between : Object → ℤ → ℤ → Bits
bits_between o h l = record { low = place_of_bit o l; count = natural_of (cond (int_lt h l) (l -ℤ h) (h -ℤ l)) + 1 }

abbrev pub bits_upward : Object → ℤ → ℕ → Bits
bits_upward o b n =
    record { low = cond (nat_le o.right o.left) (place_of_bit o b) (place_of_bit o (b +ℤ (pos n -ℤ pos 1))); count = n }

abbrev pub bits_downward : Object → ℤ → ℕ → Bits
bits_downward o b n =
    record { low = cond (nat_le o.right o.left) (place_of_bit o (b -ℤ (pos n -ℤ pos 1))) (place_of_bit o b); count = n }

abbrev mutual
  -- Widths (5.4.1). Counts and bounds are constants, read where no net or variable has a value.
  pub width_of : Scope → Expression → ℕ
  width_of s (number k) = k.width
  width_of s (name n x) = selects_width s (s n) x
  width_of s (concatenation es) = widths_of s es
  width_of s (replication k es) =
      natural_of (integer_from (sign_of s k) (width_of s k) (value_of s no_values k (width_of s k) (sign_of s k))) * widths_of s es
  width_of s (as_signed x) = width_of s x
  width_of s (as_unsigned x) = width_of s x
  width_of s (unary op x) = width_of s x
  width_of s (reduction op x) = 1
  width_of s (binary op x y) = max (width_of s x) (width_of s y)
  width_of s (shift op x n) = width_of s x
  width_of s (power x n) = width_of s x
  width_of s (comparison op x y) = 1
  width_of s (logical op x y) = 1
  width_of s (conditional c x y) = max (width_of s x) (width_of s y)

  -- of all parts of a concatenation together
  pub widths_of : Scope → Expressions → ℕ
  widths_of s no_expressions = 0
  widths_of s (expression e es) = width_of s e + widths_of s es

  pub selects_width : Scope → Object → Selects → ℕ
  selects_width s o whole = object_width o
  selects_width s o (one x) = cond (is_memory o) (object_width o) (select_bits s no_values o x).count
  selects_width s o (two x y) = (select_bits s no_values o y).count

  -- The value of an expression in a context of this width and sign (5.4.2, 5.5.2), under a valuation.
  -- The width is at least the expression's own. The sign is true only where the expression is signed.
  pub value_of : Scope → Valuation → Expression → ℕ → Bool → ℕ
  value_of s v (number k) w signed = widened signed k.width w k.value
  value_of s v (name n x) w signed = widened signed (selects_width s (s n) x) w (selected s v (s n) (v n) x)
  value_of s v (concatenation es) w signed = widened signed (widths_of s es) w (joined_value s v es)
  value_of s v (replication k es) w signed =
      let count : ℕ = natural_of (integer_from (sign_of s k) (width_of s k) (value_of s no_values k (width_of s k) (sign_of s k))) in
      widened signed (count * widths_of s es) w (side_by_side count (widths_of s es) (joined_value s v es))
  value_of s v (as_signed x) w signed = widened signed (width_of s x) w (value_of s v x (width_of s x) (sign_of s x))
  value_of s v (as_unsigned x) w signed = widened signed (width_of s x) w (value_of s v x (width_of s x) (sign_of s x))
  value_of s v (unary op x) w signed = unary_value op w (value_of s v x w signed)
  value_of s v (reduction op x) w signed =
      bit (reduction_value op (width_of s x) (value_of s v x (width_of s x) (sign_of s x)))
  value_of s v (binary op x y) w signed = binary_value op w signed (value_of s v x w signed) (value_of s v y w signed)
  value_of s v (shift op x n) w signed =
      shift_value op w signed (value_of s v x w signed) (value_of s v n (width_of s n) (sign_of s n))
  value_of s v (power x n) w signed =
      power_value w (value_of s v x w signed) (integer_from (sign_of s n) (width_of s n) (value_of s v n (width_of s n) (sign_of s n)))
  value_of s v (comparison op x y) w signed =
      let m : ℕ = max (width_of s x) (width_of s y) in
      let t : Bool = sign_of s x && sign_of s y in
      bit (comparison_value op (integer_from t m (value_of s v x m t)) (integer_from t m (value_of s v y m t)))
  value_of s v (logical op x y) w signed =
      bit (logical_value op (is_nonzero (value_of s v x (width_of s x) (sign_of s x))) (is_nonzero (value_of s v y (width_of s y) (sign_of s y))))
  value_of s v (conditional c x y) w signed =
      cond (is_nonzero (value_of s v c (width_of s c) (sign_of s c))) (value_of s v x w signed) (value_of s v y w signed)

  -- the parts side by side, the first at the high end
  pub joined_value : Scope → Valuation → Expressions → ℕ
  joined_value s v no_expressions = 0
  joined_value s v (expression e es) =
      value_of s v e (width_of s e) (sign_of s e) * 2 ^ widths_of s es + joined_value s v es

  -- what the selects after a name read of its value
  pub selected : Scope → Valuation → Object → Value → Selects → ℕ
  selected s v o x whole = whole_value o x
  selected s v o x (one i) =
      cond (is_memory o) (indexed_word o (select_index s v i) x) (bits_taken (whole_value o x) (select_bits s v o i))
  selected s v o x (two i j) = bits_taken (indexed_word o (select_index s v i) x) (select_bits s v o j)

  -- the number of an index by its own sign. (A part select of a memory, which has none, is refused before.)
  pub select_index : Scope → Valuation → Select → ℤ
  select_index s v (index i) = integer_from (sign_of s i) (width_of s i) (value_of s v i (width_of s i) (sign_of s i))
  select_index s v (part h l) = negsuc 0
  select_index s v (part_up b n) = negsuc 0
  select_index s v (part_down b n) = negsuc 0

  -- The bits that a select takes. The bounds of a part select and the widths of +: and -: are constants.
  pub select_bits : Scope → Valuation → Object → Select → Bits
  select_bits s v o (index i) =
      record { low = place_of_bit o (integer_from (sign_of s i) (width_of s i) (value_of s v i (width_of s i) (sign_of s i))); count = 1 }
  select_bits s v o (part h l) =
      bits_between o (integer_from (sign_of s h) (width_of s h) (value_of s no_values h (width_of s h) (sign_of s h)))
      (integer_from (sign_of s l) (width_of s l) (value_of s no_values l (width_of s l) (sign_of s l)))
  select_bits s v o (part_up b n) =
      bits_upward o (integer_from (sign_of s b) (width_of s b) (value_of s v b (width_of s b) (sign_of s b)))
      (natural_of (integer_from (sign_of s n) (width_of s n) (value_of s no_values n (width_of s n) (sign_of s n))))
  select_bits s v o (part_down b n) =
      bits_downward o (integer_from (sign_of s b) (width_of s b) (value_of s v b (width_of s b) (sign_of s b)))
      (natural_of (integer_from (sign_of s n) (width_of s n) (value_of s no_values n (width_of s n) (sign_of s n))))

-- An expression by itself (5.4): in a context of its own width and sign.
abbrev pub self_value : Scope → Valuation → Expression → ℕ
self_value s v e = value_of s v e (width_of s e) (sign_of s e)

-- the integer that it stands for by its own sign
abbrev pub integer_of : Scope → Valuation → Expression → ℤ
integer_of s v e = integer_from (sign_of s e) (width_of s e) (self_value s v e)

-- as a condition
abbrev pub is_true : Scope → Valuation → Expression → Bool
is_true s v e = is_nonzero (self_value s v e)

-- The value that an assignment gives a target of w bits (5.4, 5.5.3): evaluated in the wider of both widths, by the
-- expression's own sign, then cut.
abbrev pub assigned_value : Scope → Valuation → ℕ → Expression → ℕ
assigned_value s v w e = value_of s v e (max w (width_of s e)) (sign_of s e) % 2 ^ w

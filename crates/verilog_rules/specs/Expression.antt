-- What is refused in an expression, in the scope of its module. Each rule is judged by itself, over the expression and all that
-- stands in it: operands, parts, counts, indexes and bounds. What has no value breaks no rule but the one that refuses it.
use Rattle.std.specs.Prelude.{ℕ, ◌+◌, ◌*◌, ◌^◌, max, Bool, true, false, not, cond, ◌&&◌, ◌||◌, ◌==◌, nat_le, nat_lt, Option, Some, None, is_none, ℤ, pos, ◌-ℤ◌, int_lt, int_le}
use Rattle.wb_values.specs.Choice.{some_if}
use Rattle.verilog_trees.specs.Syntax.{Number, UnaryOperator, ReductionOperator, BinaryOperator, add, subtract, multiply, divide, modulo, bitwise_and, bitwise_or, bitwise_xor, bitwise_xnor, ShiftOperator, ComparisonOperator, LogicalOperator, Expression, number, name, concatenation, replication, as_signed, as_unsigned, unary, reduction, binary, shift, power, comparison, logical, conditional, Expressions, no_expressions, expression, Select, index, part, part_up, part_down, Selects, whole, one, two}
use Rattle.verilog_meaning.specs.Expression.{Object, Scope, distance, object_width, is_memory, no_values, natural_of, sign_of, width_of, widths_of, value_of, integer_of}

-- The kinds of refusal, in the order in which they are answered.
pub data Kind : Type 0 where
  undeclared_name has_xz_digit bad_constant_expression wider_than_128 bad_select_of_name bad_use_of_memory : Kind

-- Which rules are broken. The last is none of the kinds: it says that a tree is of no text, since a number does not fit its
-- width, or has none, or parts have no bits.
pub record Broken : Type 0 where
  pub undeclared : Bool
  pub has_xz : Bool
  pub bad_constant : Bool
  pub width_over_128 : Bool
  pub bad_select : Bool
  pub memory_use : Bool
  pub misshapen : Bool

abbrev pub nothing : Broken
nothing = record { undeclared = false; has_xz = false; bad_constant = false; width_over_128 = false; bad_select = false; memory_use = false; misshapen = false }

-- the rules that one or the other breaks
abbrev pub also : Broken → Broken → Broken
also a b =
    record {
      undeclared = a.undeclared || b.undeclared;
      has_xz = a.has_xz || b.has_xz;
      bad_constant = a.bad_constant || b.bad_constant;
      width_over_128 = a.width_over_128 || b.width_over_128;
      bad_select = a.bad_select || b.bad_select;
      memory_use = a.memory_use || b.memory_use;
      misshapen = a.misshapen || b.misshapen;
    }

abbrev pub is_unbroken : Broken → Bool
is_unbroken b =
    not b.undeclared && (not b.has_xz && (not b.bad_constant && (not b.width_over_128 && (not b.bad_select && (not b.memory_use && not b.misshapen)))))

-- the first broken rule in the order of the kinds
abbrev pub first_broken : Broken → Option Kind
first_broken b =
    cond b.undeclared (Some undeclared_name)
    (cond b.has_xz (Some has_xz_digit)
    (cond b.bad_constant (Some bad_constant_expression)
    (cond b.width_over_128 (Some wider_than_128)
    (cond b.bad_select (Some bad_select_of_name)
    (some_if b.memory_use bad_use_of_memory)))))

-- one rule, where this is so
abbrev pub constant_if : Bool → Broken
constant_if b = record { undeclared = false; has_xz = false; bad_constant = b; width_over_128 = false; bad_select = false; memory_use = false; misshapen = false }

abbrev pub select_if : Bool → Broken
select_if b = record { undeclared = false; has_xz = false; bad_constant = false; width_over_128 = false; bad_select = b; memory_use = false; misshapen = false }

abbrev pub width_if : Bool → Broken
width_if b = record { undeclared = false; has_xz = false; bad_constant = false; width_over_128 = b; bad_select = false; memory_use = false; misshapen = false }

-- Where an expression stands: where anything may be read, or where a constant is wanted. The value of a constant is that in the
-- context of a width and a sign; its width may have no value.
pub data Position : Type 0 where
  anywhere : Position
  constant : Option ℕ → Bool → Position

-- the same place in the context of another width and sign
abbrev pub in_context : Position → Option ℕ → Bool → Position
in_context anywhere w t = anywhere
in_context (constant v u) w t = constant w t

abbrev pub wants_constant : Position → Bool
wants_constant anywhere = false
wants_constant (constant w t) = true

-- the wider of two, where both are there
abbrev pub wider : Option ℕ → Option ℕ → Option ℕ
wider (Some v) (Some w) = Some (max v w)
wider _ _ = None

-- HasXZ: an x digit, or a z or ? digit. (These stand alone as items of a casez, which no expression by itself is.)
-- WidthOver128: a number of more than 128 bits.
abbrev pub by_number : Number → Broken
by_number k =
    record {
      undeclared = false;
      has_xz = k.has_unknown || k.has_wild;
      bad_constant = false;
      width_over_128 = nat_lt 128 k.width;
      bad_select = false;
      memory_use = false;
      misshapen = nat_le k.width 128 && not (nat_le 1 k.width && nat_lt k.value (2 ^ k.width));
    }

abbrev pub is_index : Select → Bool
is_index (index i) = true
is_index (part h l) = false
is_index (part_up from n) = false
is_index (part_down from n) = false

-- BadSelect: a select of a name without a range (a parameter always has one), and a second select of what is no memory.
abbrev pub has_bad_select : Object → Selects → Bool
has_bad_select o whole = false
has_bad_select o (one x) = not (is_memory o) && not o.has_range
has_bad_select o (two x y) = not (is_memory o) || not o.has_range

-- MemoryUse: a memory without an index, or with a first select that is no single index.
abbrev pub lacks_index : Selects → Bool
lacks_index whole = true
lacks_index (one x) = not (is_index x)
lacks_index (two x y) = not (is_index x)

-- more than 65,536 words
abbrev pub has_many_words : Option (ℕ × ℕ) → Bool
has_many_words None = false
has_many_words (Some a) = nat_lt 65535 (distance a.0 a.1)

-- What a name breaks with what stands after it. Of a name that is not declared nothing else is judged.
-- BadConstant: a net or a variable where a constant is wanted. WidthOver128: a net of more than 128 bits.
abbrev pub by_name : Position → Object → Selects → Broken
by_name p o x =
    record {
      undeclared = not o.is_declared;
      has_xz = false;
      bad_constant = o.is_declared && (wants_constant p && is_none o.constant);
      width_over_128 = o.is_declared && nat_lt 128 (object_width o);
      bad_select = o.is_declared && has_bad_select o x;
      memory_use = o.is_declared && (is_memory o && (lacks_index x || has_many_words o.addresses));
      misshapen = false;
    }

-- BadConstant: a replication count, or a width of +: or -:, below 1; an exponent below 0.
abbrev pub is_below : ℤ → Option ℤ → Bool
is_below k (Some i) = int_lt i k
is_below k None = false

-- WidthOver128: parts, or copies of them, that together have more than 128 bits.
abbrev pub by_total : Option ℕ → Broken
by_total None = nothing
by_total (Some w) =
    record { undeclared = false; has_xz = false; bad_constant = false; width_over_128 = nat_lt 128 w; bad_select = false; memory_use = false; misshapen = w == 0 }

-- so many copies, at least one
abbrev pub copies : Option ℤ → Option ℕ → Option ℕ
copies (Some n) (Some w) = some_if (int_le (pos 1) n) (natural_of n * w)
copies _ _ = None

abbrev pub is_at_most_128 : Option ℕ → Bool
is_at_most_128 None = false
is_at_most_128 (Some w) = nat_le w 128

-- how many bits stand from the bound h to the bound l, both among them
abbrev pub count_between : ℤ → ℤ → ℕ
count_between h l = natural_of (cond (int_lt h l) (l -ℤ h) (h -ℤ l)) + 1

abbrev pub bits_between_bounds : Option ℤ → Option ℤ → Option ℕ
bits_between_bounds (Some h) (Some l) = Some (count_between h l)
bits_between_bounds _ _ = None

-- BadSelect: a part select against the direction of the declared range. A range [k:k] descends.
abbrev pub runs_against : Object → Option ℤ → Option ℤ → Bool
runs_against o (Some h) (Some l) = cond (nat_le o.right o.left) (int_lt h l) (int_lt l h)
runs_against o _ _ = false

abbrev pub is_over_128 : Option ℕ → Bool
is_over_128 None = false
is_over_128 (Some w) = nat_lt 128 w

-- What [h:l] breaks by the bits that it takes of an object.
abbrev pub by_bounds : Object → Option ℤ → Option ℤ → Broken
by_bounds o h l = also (select_if (o.is_declared && runs_against o h l)) (width_if (is_over_128 (bits_between_bounds h l)))

-- BadConstant: an unsized number as a part of a concatenation or replication.
abbrev pub is_unsized : Expression → Bool
is_unsized (number k) = not k.sized
is_unsized (name n x) = false
is_unsized (concatenation es) = false
is_unsized (replication k es) = false
is_unsized (as_signed x) = false
is_unsized (as_unsigned x) = false
is_unsized (unary op x) = false
is_unsized (reduction op x) = false
is_unsized (binary op x y) = false
is_unsized (shift op x n) = false
is_unsized (power x n) = false
is_unsized (comparison op x y) = false
is_unsized (logical op x y) = false
is_unsized (conditional c x y) = false

abbrev pub divides : BinaryOperator → Bool
divides add = false
divides subtract = false
divides multiply = false
divides divide = true
divides modulo = true
divides bitwise_and = false
divides bitwise_or = false
divides bitwise_xor = false
divides bitwise_xnor = false

-- BadConstant: / or % where no constant is wanted; and else a divisor that is 0 in its context, where it has a value there. (A
-- context is no narrower than what stands in it.)
abbrev pub is_bad_divisor : Scope → Position → Expression → Bool → Bool
is_bad_divisor s anywhere y has = true
is_bad_divisor s (constant None t) y has = false
is_bad_divisor s (constant (Some w) t) y has = has && ((nat_le (width_of s y) w && nat_le w 128) && (value_of s no_values y w t == 0))

-- BadConstant: ** where no constant is wanted; and else an exponent below 0.
abbrev pub is_bad_exponent : Position → Option ℤ → Bool
is_bad_exponent anywhere n = true
is_bad_exponent (constant w t) n = is_below (pos 0) n

-- the number of a constant in which no rule is broken
abbrev pub number_if : Broken → Scope → Expression → Option ℤ
number_if b s k = some_if (is_unbroken b) (integer_of s no_values k)

-- by itself: in the context of its own width, where that has a value, and sign
abbrev pub by_itself : Scope → Position → Bool → Expression → Position
by_itself s p has x = in_context p (some_if has (width_of s x)) (sign_of s x)

abbrev pub as_constant : Scope → Bool → Expression → Position
as_constant s has k = constant (some_if has (width_of s k)) (sign_of s k)

abbrev mutual
  -- The rules that an expression in this place breaks.
  pub broken : Scope → Position → Expression → Broken
  broken s p (number k) = by_number k
  broken s p (name n x) = also (by_name p (s n) x) (broken_selects s p (s n) x)
  broken s p (concatenation es) = also (by_total (some_if (have_widths s es) (widths_of s es))) (broken_parts s p es)
  broken s p (replication k es) =
      let b : Broken = broken s (as_constant s (has_width s k) k) k in
      also (also (constant_if (is_below (pos 1) (number_if b s k))) b)
      (also (by_total (copies (number_if b s k) (some_if (have_widths s es) (widths_of s es)))) (broken_parts s p es))
  broken s p (as_signed x) = broken s (by_itself s p (has_width s x) x) x
  broken s p (as_unsigned x) = broken s (by_itself s p (has_width s x) x) x
  broken s p (unary op x) = broken s p x
  broken s p (reduction op x) = broken s (by_itself s p (has_width s x) x) x
  broken s p (binary op x y) =
      let b : Broken = broken s p y in
      also (broken s p x) (also (constant_if (divides op && is_bad_divisor s p y (is_unbroken b))) b)
  broken s p (shift op x n) = also (broken s p x) (broken s (by_itself s p (has_width s n) n) n)
  broken s p (power x n) =
      let b : Broken = broken s (by_itself s p (has_width s n) n) n in
      also (broken s p x) (also (constant_if (is_bad_exponent p (number_if b s n))) b)
  broken s p (comparison op x y) =
      let w : Option ℕ = wider (some_if (has_width s x) (width_of s x)) (some_if (has_width s y) (width_of s y)) in
      let t : Bool = sign_of s x && sign_of s y in
      also (broken s (in_context p w t) x) (broken s (in_context p w t) y)
  broken s p (logical op x y) = also (broken s (by_itself s p (has_width s x) x) x) (broken s (by_itself s p (has_width s y) y) y)
  broken s p (conditional c x y) = also (also (broken s (by_itself s p (has_width s c) c) c) (broken s p x)) (broken s p y)

  pub broken_parts : Scope → Position → Expressions → Broken
  broken_parts s p no_expressions = nothing
  broken_parts s p (expression e es) =
      also (also (constant_if (is_unsized e)) (broken s (by_itself s p (has_width s e) e) e)) (broken_parts s p es)

  pub broken_selects : Scope → Position → Object → Selects → Broken
  broken_selects s p o whole = nothing
  broken_selects s p o (one x) = also (broken_select s p x) (cond (is_memory o) nothing (broken_bits s o x))
  broken_selects s p o (two x y) = also (broken_select s p x) (also (broken_select s p y) (broken_bits s o y))

  -- what a select breaks by the expressions in it: bounds, and widths of +: and -:, must be constant
  pub broken_select : Scope → Position → Select → Broken
  broken_select s p (index i) = broken s (by_itself s p (has_width s i) i) i
  broken_select s p (part h l) = also (broken s (as_constant s (has_width s h) h) h) (broken s (as_constant s (has_width s l) l) l)
  broken_select s p (part_up b n) =
      let c : Broken = broken s (as_constant s (has_width s n) n) n in
      also (broken s (by_itself s p (has_width s b) b) b) (also (constant_if (is_below (pos 1) (number_if c s n))) c)
  broken_select s p (part_down b n) =
      let c : Broken = broken s (as_constant s (has_width s n) n) n in
      also (broken s (by_itself s p (has_width s b) b) b) (also (constant_if (is_below (pos 1) (number_if c s n))) c)

  -- what a select of bits breaks by the bits that it takes of the object
  pub broken_bits : Scope → Object → Select → Broken
  broken_bits s o (index i) = nothing
  broken_bits s o (part h l) =
      by_bounds o (number_if (broken s (as_constant s (has_width s h) h) h) s h) (number_if (broken s (as_constant s (has_width s l) l) l) s l)
  broken_bits s o (part_up b n) = width_if (is_over_128 (copies (number_if (broken s (as_constant s (has_width s n) n) n) s n) (Some 1)))
  broken_bits s o (part_down b n) = width_if (is_over_128 (copies (number_if (broken s (as_constant s (has_width s n) n) n) s n) (Some 1)))

  -- Whether the width of an expression has a value, of at most 128 bits: the names that it rests on are declared, the constants
  -- that it rests on have values, and no part of it is wider.
  pub has_width : Scope → Expression → Bool
  has_width s (number k) = nat_le k.width 128
  has_width s (name n x) = ((s n).is_declared && nat_le (object_width (s n)) 128) && selects_have_width s (s n) x
  has_width s (concatenation es) = is_at_most_128 (some_if (have_widths s es) (widths_of s es))
  has_width s (replication k es) =
      is_at_most_128 (copies (number_if (broken s (as_constant s (has_width s k) k) k) s k) (some_if (have_widths s es) (widths_of s es)))
  has_width s (as_signed x) = has_width s x
  has_width s (as_unsigned x) = has_width s x
  has_width s (unary op x) = has_width s x
  has_width s (reduction op x) = true
  has_width s (binary op x y) = has_width s x && has_width s y
  has_width s (shift op x n) = has_width s x
  has_width s (power x n) = has_width s x
  has_width s (comparison op x y) = true
  has_width s (logical op x y) = true
  has_width s (conditional c x y) = has_width s x && has_width s y

  pub have_widths : Scope → Expressions → Bool
  have_widths s no_expressions = true
  have_widths s (expression e es) = has_width s e && have_widths s es

  pub selects_have_width : Scope → Object → Selects → Bool
  selects_have_width s o whole = true
  selects_have_width s o (one x) = is_memory o || select_has_width s x
  selects_have_width s o (two x y) = select_has_width s y

  pub select_has_width : Scope → Select → Bool
  select_has_width s (index i) = true
  select_has_width s (part h l) =
      is_at_most_128 (bits_between_bounds (number_if (broken s (as_constant s (has_width s h) h) h) s h) (number_if (broken s (as_constant s (has_width s l) l) l) s l))
  select_has_width s (part_up b n) = is_at_most_128 (copies (number_if (broken s (as_constant s (has_width s n) n) n) s n) (Some 1))
  select_has_width s (part_down b n) = is_at_most_128 (copies (number_if (broken s (as_constant s (has_width s n) n) n) s n) (Some 1))

-- The rules that a constant breaks, in the context of its own width and sign, and its number, where it breaks none.
abbrev pub broken_constant : Scope → Expression → Broken
broken_constant s k = broken s (as_constant s (has_width s k) k) k

abbrev pub constant_number : Scope → Expression → Option ℤ
constant_number s k = number_if (broken_constant s k) s k

-- The first rule that an expression by itself breaks.
abbrev pub refusal_of : Scope → Expression → Option Kind
refusal_of s e = first_broken (broken s anywhere e)

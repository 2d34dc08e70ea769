-- Expressions whose values are known, over unsigned a and b and signed s, of 8 bits each.
use Rattle.std.specs.Prelude.{ℕ, Bool, true, false, [], ◌∷◌, Some}
use Rattle.wb_values.specs.Value.{Name, Valuation, valuation_of, number as a_number, words}
use Rattle.verilog_trees.specs.Syntax.{Expression, number, name, concatenation, replication, unary, minus, binary, add, divide, modulo, power, shift, right, arithmetic_right, comparison, less, no_expressions, expression, index, part, part_up, part_down, Select, whole, one as one_select, two as two_selects}
use Rattle.verilog_meaning.specs.Expression.{Object, Scope, undeclared, scope_of}

abbrev byte : Bool → Object
byte signed = record undeclared { is_declared = true; signed = signed; has_range = true; left = 7 }

-- a, b and s
abbrev a : Name
a = 97 ∷ []

abbrev b : Name
b = 98 ∷ []

abbrev s : Name
s = 115 ∷ []

abbrev pub names : Scope
names = scope_of ((a, byte false) ∷ ((b, byte false) ∷ ((s, byte true) ∷ [])))

abbrev pub operands : ℕ → ℕ → Valuation
operands x y = valuation_of ((a, a_number x) ∷ ((b, a_number y) ∷ []))

abbrev pub signed_operand : ℕ → Valuation
signed_operand x = valuation_of ((s, a_number x) ∷ [])

abbrev pub no_operands : Valuation
no_operands = valuation_of []

-- 1
abbrev pub plain_one : Expression
plain_one = number (record { width = 32; sized = false; signed = true; value = 1; unknown = 0; wild = 0; has_unknown = false; has_wild = false })

-- 8'd1
abbrev pub unsigned_one : Expression
unsigned_one = number (record { width = 8; sized = true; signed = false; value = 1; unknown = 0; wild = 0; has_unknown = false; has_wild = false })

-- x as an unsigned number of 8 bits, and as a signed one
abbrev pub byte_of : ℕ → Expression
byte_of x = number (record { width = 8; sized = true; signed = false; value = x; unknown = 0; wild = 0; has_unknown = false; has_wild = false })

abbrev pub signed_byte_of : ℕ → Expression
signed_byte_of x = number (record { width = 8; sized = true; signed = true; value = x; unknown = 0; wild = 0; has_unknown = false; has_wild = false })

-- x / y, x % y and x ** y
abbrev pub quotient_of : Expression → Expression → Expression
quotient_of x y = binary divide x y

abbrev pub remainder_of : Expression → Expression → Expression
remainder_of x y = binary modulo x y

abbrev pub power_of : Expression → Expression → Expression
power_of x y = power x y

-- 2'b10
abbrev pub two_bits : Expression
two_bits = number (record { width = 2; sized = true; signed = false; value = 2; unknown = 0; wild = 0; has_unknown = false; has_wild = false })

-- {n{x}}
abbrev pub copies_of : Expression → Expression → Expression
copies_of n x = replication n (expression x no_expressions)

-- (a + b) >> 1
abbrev pub shifted_sum : Expression
shifted_sum = shift right (binary add (name a whole) (name b whole)) plain_one

-- s >>> 1
abbrev pub half : Expression
half = shift arithmetic_right (name s whole) plain_one

-- {s} >>> 1
abbrev pub half_part : Expression
half_part = shift arithmetic_right (concatenation (expression (name s whole) no_expressions)) plain_one

-- -x < 1
abbrev pub minus_is_below : Expression → Expression
minus_is_below x = comparison less (unary minus x) plain_one

-- v of bits [7:0], u of bits [0:7], a memory m of words [0:1] with bits [7:0], and a parameter p of 8 bits
abbrev v : Name
v = 118 ∷ []

abbrev u : Name
u = 117 ∷ []

abbrev m : Name
m = 109 ∷ []

abbrev p : Name
p = 112 ∷ []

abbrev pub part_names : Scope
part_names = scope_of ((v, byte false) ∷ ((u, record (byte false) { left = 0; right = 7 }) ∷ ((m, record (byte false) { addresses = Some (0, 1) }) ∷ ((p, record (byte false) { constant = Some 165 }) ∷ []))))

-- v and u are 8'hA5, which is 8'b10100101, and m[1] is 8'h2D, which is 8'b00101101.
abbrev pub part_values : Valuation
part_values = valuation_of ((v, a_number 165) ∷ ((u, a_number 165) ∷ ((m, words (0 ∷ (45 ∷ []))) ∷ [])))

-- x of v, of u, of p and of m[1]
abbrev pub of_v : Select → Expression
of_v x = name v (one_select x)

abbrev pub of_u : Select → Expression
of_u x = name u (one_select x)

abbrev pub of_p : Select → Expression
of_p x = name p (one_select x)

abbrev pub of_word : Select → Expression
of_word x = name m (two_selects (index plain_one) x)

-- [h:l], [x +: n] and [x -: n]
abbrev pub part_of : ℕ → ℕ → Select
part_of h l = part (byte_of h) (byte_of l)

abbrev pub up_from : Expression → ℕ → Select
up_from x n = part_up x (byte_of n)

abbrev pub down_from : Expression → ℕ → Select
down_from x n = part_down x (byte_of n)

-- -1
abbrev pub minus_one : Expression
minus_one = unary minus plain_one

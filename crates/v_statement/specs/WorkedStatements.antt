-- Statements whose effects are known.
use Rattle.std.specs.Prelude.{ℕ, true, false, not, ◌==◌, [], ◌∷◌, Some, None}
use Rattle.wb_values.specs.Value.{Name, number as a_number, words, Valuation, valuation_of}
use Rattle.verilog_trees.specs.Syntax.{Expression, number, no_expressions, expression, Select, index, part, part_up, part_down, whole, one, two, place, joined, no_targets, target, Statement, blocking, nonblocking, block, no_statements, statement, CaseItems, no_items, arm, default_arm, name}
use Rattle.verilog_meaning.specs.Expression.{Object, Scope, scope_of, undeclared}

abbrev pub a : Name
a = 97 ∷ []

abbrev pub b : Name
b = 98 ∷ []

abbrev pub k : Name
k = 107 ∷ []

abbrev pub m : Name
m = 109 ∷ []

abbrev pub q : Name
q = 113 ∷ []

abbrev pub w : Name
w = 119 ∷ []

abbrev pub byte : Object
byte = record undeclared { is_declared = true; has_range = true; left = 7 }

abbrev pub ascending_byte : Object
ascending_byte = record byte { left = 0; right = 7 }

-- reg [7:0] a, b, q; reg [0:7] w; reg k; reg [7:0] m [0:4];
abbrev pub small_names : Scope
small_names =
    scope_of
    ((a, byte) ∷ (b, byte) ∷ (q, byte) ∷ (w, ascending_byte) ∷ (k, record undeclared { is_declared = true }) ∷ (m, record byte { addresses = Some (0, 4) }) ∷ [])

-- an unsigned number of w bits, with these z and ? bits
abbrev pub digits : ℕ → ℕ → ℕ → Expression
digits w x wild = number (record { width = w; sized = true; signed = false; value = x; unknown = 0; wild = wild; has_unknown = false; has_wild = not (wild == 0) })

-- begin q <= 1; q <= 2; end
abbrev pub assigned_twice : Statement
assigned_twice =
    block None
    (statement (nonblocking (place q whole) (digits 8 1 0)) (statement (nonblocking (place q whole) (digits 8 2 0)) no_statements))

-- x <= y;
abbrev pub copied_from : Name → Name → Statement
copied_from x y = nonblocking (place x whole) (name y whole)

abbrev pub five_and_nine : Valuation
five_and_nine = valuation_of ((a, a_number 5) ∷ (b, a_number 9) ∷ [])

-- m[i] <= 7;
abbrev pub stored_at : ℕ → Statement
stored_at i = nonblocking (place m (one (index (digits 8 i 0)))) (digits 8 7 0)

abbrev pub five_zeros : Valuation
five_zeros = valuation_of ((m, words (0 ∷ 0 ∷ 0 ∷ 0 ∷ 0 ∷ [])) ∷ [])

-- {x, y} <= 16'h1234 or a number of another width
abbrev pub split : Name → Name → Expression → Statement
split x y e = nonblocking (joined (target (place x whole) (target (place y whole) no_targets))) e

abbrev pub set : ℕ → Statement
set x = blocking (place q whole) (digits 8 x 0)

-- 8'b000001??: q = 1; default: q = 2;
abbrev pub wild_item : CaseItems
wild_item = arm (expression (digits 8 4 3) no_expressions) (set 1) (default_arm (set 2) no_items)

-- default: q = 2; 5: q = 1;
abbrev pub default_first : CaseItems
default_first = default_arm (set 2) (arm (expression (digits 8 5 0) no_expressions) (set 1) no_items)

-- the bits [h:l] of a name, and so many bits up and down from the value of b
abbrev pub between : ℕ → ℕ → Select
between h l = part (digits 8 h 0) (digits 8 l 0)

abbrev pub up_from_b : ℕ → Select
up_from_b n = part_up (name b whole) (digits 8 n 0)

abbrev pub down_from_b : ℕ → Select
down_from_b n = part_down (name b whole) (digits 8 n 0)

-- x[i] = e;
abbrev pub part_set : Name → Select → Expression → Statement
part_set x i e = blocking (place x (one i)) e

-- x[i] <= e;
abbrev pub part_later : Name → Select → Expression → Statement
part_later x i e = nonblocking (place x (one i)) e

-- q and w are 8'h55, and b is this number
abbrev pub fives_with : ℕ → Valuation
fives_with x = valuation_of ((q, a_number 85) ∷ (w, a_number 85) ∷ (b, a_number x) ∷ [])

-- q[-2 +: 4] = 11;
abbrev pub from_minus_two : Statement
from_minus_two =
    part_set q (part_up (number (record { width = 8; sized = true; signed = true; value = 254; unknown = 0; wild = 0; has_unknown = false; has_wild = false })) (digits 8 4 0)) (digits 4 11 0)

-- m[i][3:0] <= 12;
abbrev pub low_half_stored_at : ℕ → Statement
low_half_stored_at i = nonblocking (place m (two (index (digits 8 i 0)) (between 3 0))) (digits 4 12 0)

-- {q[7:4], w[b -: 2], q[1:0]} = 8'b10111010;
abbrev pub joined_parts : Statement
joined_parts =
    blocking
    (joined
    (target (place q (one (between 7 4))) (target (place w (one (down_from_b 2))) (target (place q (one (between 1 0))) no_targets))))
    (digits 8 186 0)

-- {q[3:0], q[5:2]} = 8'hA9;
abbrev pub parts_named_twice : Statement
parts_named_twice = blocking (joined (target (place q (one (between 3 0))) (target (place q (one (between 5 2))) no_targets))) (digits 8 169 0)

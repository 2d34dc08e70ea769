-- Small expressions, statements and a module, with what the definitions give for them.
use Rattle.std.specs.Prelude.{ℕ, ℤ, Bool, true, false, List, [], ◌∷◌, Option, Some, None, codes}
use Rattle.wb_values.specs.Value.{Name, number, words, Valuation, valuation_of}
use Rattle.verilog_trees.specs.Syntax.{Expression, no_expressions, expression, whole, one, place, Statement, nonblocking, no_statements, statement, block, add, minus, less, Range, output, reg, posedge, on_events, Connections, by_name, by_order, Item, listed, Module}
use Rattle.verilog_trees.specs.Syntax as verilog
use Rattle.verilog_meaning.specs.Expression.{Object, Scope, scope_of, assigned_value, undeclared}
use Rattle.verilog_meaning.specs.Hierarchy.{Declaration, module_scope, constants_of, no_overrides, instance_step, dotted}
use Rattle.verilog_meaning.specs.Settled.{PortPlace, port_named, port_numbered}
use Rattle.verilog_meaning.specs.Process.{Process, assignment, connection, inner, clocked}

-- the whole of a name
abbrev pub reading : Name → Expression
reading n = verilog.name n whole

abbrev pub unsized_number : ℕ → Expression
unsized_number x = verilog.number (record { width = 32; sized = false; signed = true; value = x; unknown = 0; wild = 0; has_unknown = false; has_wild = false })

abbrev pub sized_number : ℕ → ℕ → Expression
sized_number w x = verilog.number (record { width = w; sized = true; signed = false; value = x; unknown = 0; wild = 0; has_unknown = false; has_wild = false })

-- A module with inputs a and b of 8 bits, a signed wire sa of 8 bits, and a memory m of 5 bytes.
abbrev pub bits_of_width : Bool → ℕ → Object
bits_of_width signed left = record undeclared { is_declared = true; signed = signed; has_range = true; left = left }

abbrev pub small_scope : Scope
small_scope =
    scope_of
    ((codes "a", bits_of_width false 7) ∷ (codes "b", bits_of_width false 7) ∷ (codes "sa", bits_of_width true 7)
    ∷ (codes "q", bits_of_width false 1) ∷ (codes "i", bits_of_width false 2)
    ∷ (codes "m", record (bits_of_width false 7) { addresses = Some (0, 4) })
    ∷ (codes "up", record (bits_of_width false 0) { right = 7 })
    ∷ [])

abbrev pub small_values : ℕ → ℕ → ℕ → Valuation
small_values a b i =
    valuation_of
    ((codes "a", number a) ∷ (codes "b", number b) ∷ (codes "sa", number a) ∷ (codes "q", number 0) ∷ (codes "i", number i)
    ∷ (codes "m", words (10 ∷ 11 ∷ 12 ∷ 13 ∷ 14 ∷ 0 ∷ 0 ∷ 0 ∷ [])) ∷ (codes "up", number 1) ∷ [])

-- the value that an expression gives a target of w bits
abbrev pub given : ℕ → ℕ → ℕ → ℕ → Expression → ℕ
given w a b i e = assigned_value small_scope (small_values a b i) w e

-- (a + b) >> 1
abbrev pub half_sum : Expression
half_sum = verilog.shift verilog.right (verilog.binary add (reading (codes "a")) (reading (codes "b"))) (unsized_number 1)

-- sa >>> 1 and {sa} >>> 1
abbrev pub half_signed : Expression
half_signed = verilog.shift verilog.arithmetic_right (reading (codes "sa")) (unsized_number 1)

abbrev pub half_joined : Expression
half_joined = verilog.shift verilog.arithmetic_right (verilog.concatenation (expression (reading (codes "sa")) no_expressions)) (unsized_number 1)

-- sa + a, a signed and an unsigned operand
abbrev pub mixed_sum : Expression
mixed_sum = verilog.binary add (reading (codes "sa")) (reading (codes "a"))

abbrev pub negative : Expression → Expression
negative e = verilog.unary minus e

-- e < 1
abbrev pub below_one : Expression → Expression
below_one e = verilog.comparison less e (unsized_number 1)

-- m[i], up[0] and up[7]
abbrev pub indexed : Name → Expression → Expression
indexed n i = verilog.name n (one (verilog.index i))

-- begin q <= 1; q <= 2; end
abbrev pub set_q : ℕ → Statement
set_q x = nonblocking (place (codes "q") whole) (unsized_number x)

abbrev pub two_updates : Statement
two_updates = block None (statement (set_q 1) (statement (set_q 2) no_statements))

-- m[i] <= 9
abbrev pub store_nine : Statement
store_nine = nonblocking (place (codes "m") (one (verilog.index (reading (codes "i"))))) (unsized_number 9)

abbrev pub small_range : ℕ → ℕ → Option Range
small_range l r = Some (record { left = unsized_number l; right = unsized_number r })

abbrev pub named_three : Connections
named_three =
    by_name ((codes "x", Some (reading (codes "a"))) ∷ (codes "y", None) ∷ (codes "z", Some (reading (codes "b"))) ∷ [])

abbrev pub ordered_two : Connections
ordered_two = by_order (None ∷ Some (reading (codes "b")) ∷ [])

-- module t (q); output [1:0] q; parameter p = 5; wire a = 1'd1; reg [1:0] q; always @(posedge a) begin .. end
-- wire [0:0] b; assign b = a; s u (.x(a), .y(), .z(b)), v (, b); endmodule
abbrev pub small_items : List Item
small_items =
    verilog.port (record { direction = output; kind = None; signed = false; range = small_range 1 0; names = codes "q" ∷ [] })
    ∷ verilog.parameter (record { is_local = false; signed = false; range = None; values = (codes "p", unsized_number 5) ∷ [] })
    ∷ verilog.wires false None ((codes "a", Some (sized_number 1 1)) ∷ [])
    ∷ verilog.variables false (small_range 1 0) ((codes "q", None) ∷ [])
    ∷ verilog.always (on_events (record { edge = posedge; signal = codes "a" } ∷ [])) two_updates
    ∷ verilog.wires false (small_range 0 0) ((codes "b", None) ∷ [])
    ∷ verilog.assign ((place (codes "b") whole, reading (codes "a")) ∷ [])
    ∷ verilog.instances (codes "s") (by_order []) ((codes "u", named_three) ∷ (codes "v", ordered_two) ∷ [])
    ∷ []

abbrev pub small_module : Module
small_module = record { module_name = codes "t"; parameters = []; ports = listed (codes "q" ∷ []); items = small_items }

abbrev pub small_object : Name → Object
small_object n = module_scope small_module (constants_of small_module no_overrides) n

-- what its names stand for: a scalar, a vector of one bit, a parameter without a range
abbrev pub scalar : Object
scalar = record undeclared { is_declared = true }

abbrev pub vector_of_one : Object
vector_of_one = record scalar { has_range = true }

abbrev pub plain_five : Object
plain_five = record vector_of_one { signed = true; left = 31; constant = Some 5 }

-- all that is declared of q
abbrev pub output_reg : Declaration
output_reg =
    record { of_name = codes "q"; direction = Some output; kind = Some reg; signed = false; range = small_range 1 0; addresses = None }

abbrev pub to_port_of : Name → PortPlace → Name → Process
to_port_of u q n = connection (record { of_instance = u; to_port = q; expression = reading n })

abbrev pub inner_of : Name → Connections → Process
inner_of u cs = inner u (record { of_module = codes "s"; parameters = by_order []; connections = cs })

abbrev pub small_processes : List Process
small_processes =
    assignment (place (codes "a") whole) (sized_number 1 1)
    ∷ clocked two_updates
    ∷ assignment (place (codes "b") whole) (reading (codes "a"))
    ∷ to_port_of (codes "u") (port_named (codes "x")) (codes "a")
    ∷ to_port_of (codes "u") (port_named (codes "z")) (codes "b")
    ∷ inner_of (codes "u") named_three
    ∷ to_port_of (codes "v") (port_numbered 1) (codes "b")
    ∷ inner_of (codes "v") ordered_two
    ∷ []

-- r within a generated block of the instance u of the top
abbrev pub within_block : Option ℤ → Name
within_block index = dotted (record { of_name = codes "blk"; index = index } ∷ instance_step (codes "u") ∷ []) (codes "r")

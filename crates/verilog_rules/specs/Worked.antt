-- The expressions of the worked cases.
use Rattle.std.specs.Prelude.{ℕ, true, false, [], ◌∷◌, Some, codes}
use Rattle.wb_values.specs.Value.{Name}
use Rattle.verilog_trees.specs.Syntax.{Expression, no_expressions, expression, whole, one, two, divide}
use Rattle.verilog_trees.specs.Syntax as verilog
use Rattle.verilog_meaning.specs.Expression.{Object, Scope, scope_of, undeclared}

-- Unsigned nets a of [7:0], up of [0:7], w of [99:0] and the scalar s, a memory m of 5 bytes, and the parameters P of value 3 and N of value 8.
abbrev pub bits : ℕ → ℕ → Object
bits l r = record undeclared { is_declared = true; has_range = true; left = l; right = r }

abbrev pub names : Scope
names =
    scope_of
    ((codes "a", bits 7 0) ∷ (codes "up", bits 0 7) ∷ (codes "w", bits 99 0) ∷ (codes "s", record undeclared { is_declared = true })
    ∷ (codes "m", record (bits 7 0) { addresses = Some (0, 4) })
    ∷ (codes "P", record (bits 31 0) { signed = true; constant = Some 3 })
    ∷ (codes "N", record (bits 31 0) { signed = true; constant = Some 8 })
    ∷ [])

abbrev pub of_name : Name → Expression
of_name n = verilog.name n whole

abbrev pub unknown : Expression
unknown = of_name (codes "u")

abbrev pub byte_net : Expression
byte_net = of_name (codes "a")

abbrev pub wide_net : Expression
wide_net = of_name (codes "w")

abbrev pub scalar : Expression
scalar = of_name (codes "s")

abbrev pub memory : Expression
memory = of_name (codes "m")

abbrev pub three : Expression
three = of_name (codes "P")

abbrev pub eight : Expression
eight = of_name (codes "N")

-- a plain decimal, and one of 8 bits
abbrev pub plain : ℕ → Expression
plain x = verilog.number (record { width = 32; sized = false; signed = true; value = x; unknown = 0; wild = 0; has_unknown = false; has_wild = false })

abbrev pub byte : ℕ → Expression
byte x = verilog.number (record { width = 8; sized = true; signed = false; value = x; unknown = 0; wild = 0; has_unknown = false; has_wild = false })

-- 4'b1?00 and 4'b1x00
abbrev pub with_wild : Expression
with_wild = verilog.number (record { width = 4; sized = true; signed = false; value = 8; unknown = 0; wild = 4; has_unknown = false; has_wild = true })

abbrev pub with_unknown : Expression
with_unknown = verilog.number (record { width = 4; sized = true; signed = false; value = 8; unknown = 4; wild = 0; has_unknown = true; has_wild = false })

-- {x} and {x, y}
abbrev pub alone : Expression → Expression
alone x = verilog.concatenation (expression x no_expressions)

abbrev pub joined : Expression → Expression → Expression
joined x y = verilog.concatenation (expression x (expression y no_expressions))

-- {k{x}}
abbrev pub copies : Expression → Expression → Expression
copies k x = verilog.replication k (expression x no_expressions)

abbrev pub quotient : Expression → Expression → Expression
quotient x y = verilog.binary divide x y

-- n[i], n[h:l], n[i][h:l] and n[b +: k]
abbrev pub bit_of : Name → Expression → Expression
bit_of name i = verilog.name name (one (verilog.index i))

abbrev pub part_of : Name → ℕ → ℕ → Expression
part_of name h l = verilog.name name (one (verilog.part (plain h) (plain l)))

abbrev pub part_of_word : Name → ℕ → ℕ → ℕ → Expression
part_of_word name i h l = verilog.name name (two (verilog.index (plain i)) (verilog.part (plain h) (plain l)))

abbrev pub up_from : Name → Expression → Expression → Expression
up_from name b k = verilog.name name (one (verilog.part_up b k))

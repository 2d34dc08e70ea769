-- Tables of masks, and what assignments do to them.
use Rattle.std.specs.Prelude.{ℕ, cond, not, bit_and, Bool, ◌&&◌, ◌||◌, ◌==◌, nat_lt, List, [], ◌∷◌}
use Rattle.wb_values.specs.Value.{Name, same_name}
use Rattle.verilog_meaning.specs.Register.{is_set}
use Rattle.verilog_designs.specs.Reads.{BitSet}
use Rattle.v_flow.specs.declared.span.Span.{Span}
use Rattle.v_depend.specs.declared.change.Change.{Change}

-- a span has a bit of what the table has
abbrev pub span_meets : (Name → ℕ) → Span → Bool
span_meets f x = nat_lt x.from_word x.to_word && not (bit_and x.bits (f x.name.now) == 0)

-- The bits after a change: of its name those that it keeps or sets, and all bits of other names.
abbrev pub changed : Change → BitSet → BitSet
changed c p n k b = cond (same_name c.name.now n) ((p n k b && is_set c.kept b) || is_set c.set b) (p n k b)

-- after one change after the other
abbrev pub all_changed : List Change → BitSet → BitSet
all_changed [] p = p
all_changed (c ∷ cs) p = all_changed cs (changed c p)

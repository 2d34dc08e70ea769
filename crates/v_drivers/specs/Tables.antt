-- Tables of what is driven: a mask for each name. Of a memory the mask has bit 0 where something in it is driven.
use Rattle.std.specs.Prelude.{ℕ, zero, cond, not, bit_and, bit_or, Bool, ◌&&◌, ◌==◌, nat_lt, List, [], ◌∷◌}
use Rattle.wb_values.specs.Value.{Name, same_name}
use Rattle.verilog_meaning.specs.Expression.{Scope, is_memory}
use Rattle.v_flow.specs.declared.span.Span.{Span}
use Rattle.v_flow.specs.Spans.{is_between}

-- a mask for each name
abbrev pub Masks : Type 0
Masks = Name → ℕ

-- what a span has of its name, as a mask
abbrev pub span_mask : Scope → Span → ℕ
span_mask s x = cond (is_memory (s x.name.now))
    (cond (nat_lt x.from_word x.to_word && nat_lt 0 x.bits) 1 0)
    (cond (is_between x.from_word x.to_word zero) x.bits 0)

-- what spans have of a name
abbrev pub spans_mask : Scope → List Span → Masks
spans_mask s [] n = 0
spans_mask s (x ∷ xs) n = bit_or (cond (same_name x.name.now n) (span_mask s x) 0) (spans_mask s xs n)

-- a span has something of what is in the table
abbrev pub span_meets : Scope → Masks → Span → Bool
span_meets s f x = not (bit_and (f x.name.now) (span_mask s x) == 0)

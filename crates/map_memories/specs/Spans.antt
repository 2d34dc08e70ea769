-- Spans that have a bit.
use Rattle.std.specs.Prelude.{Bool, false, not, ◌&&◌, ◌||◌, ◌==◌, nat_lt, List, [], ◌∷◌}
use Rattle.wb_values.specs.Value.{Name, same_name}
use Rattle.v_flow.specs.declared.span.Span.{Span}

abbrev pub has_bits : Span → Bool
has_bits x = nat_lt x.from_word x.to_word && not (x.bits == 0)

-- one of the spans has a bit of the name
abbrev pub is_among : List Span → Name → Bool
is_among [] n = false
is_among (x ∷ xs) n = (has_bits x && same_name x.name.now n) || is_among xs n

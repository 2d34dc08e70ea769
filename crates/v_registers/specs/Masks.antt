-- Which bits of the words of a name some spans have: those of spans that have all its words, and those of the others.
use Rattle.std.specs.Prelude.{ℕ, Bool, false, not, ◌&&◌, ◌||◌, ◌==◌, nat_le, List, [], ◌∷◌}
use Rattle.wb_values.specs.Value.{Name, same_name}
use Rattle.verilog_meaning.specs.Register.{is_set}
use Rattle.v_flow.specs.declared.span.Span.{Span}
use Rattle.v_flow.specs.Spans.{is_between}

-- The span has all of so many words.
abbrev pub is_whole : Span → (count : ℕ) → Bool
is_whole x n = x.from_word == 0 && nat_le n x.to_word

abbrev pub whole_bit : Span → Name → (count bit : ℕ) → Bool
whole_bit x n count b = same_name x.name.now n && (is_whole x count && is_set x.bits b)

abbrev pub part_bit : Span → Name → (count word bit : ℕ) → Bool
part_bit x n count k b = same_name x.name.now n && (not (is_whole x count) && (is_between x.from_word x.to_word k && is_set x.bits b))

abbrev pub whole_bits : List Span → Name → (count bit : ℕ) → Bool
whole_bits [] n count b = false
whole_bits (x ∷ xs) n count b = whole_bit x n count b || whole_bits xs n count b

abbrev pub part_bits : List Span → Name → (count word bit : ℕ) → Bool
part_bits [] n count k b = false
part_bits (x ∷ xs) n count k b = part_bit x n count k b || part_bits xs n count k b

-- some number has a bit
abbrev pub has_bits : List ℕ → Bool
has_bits [] = false
has_bits (m ∷ ms) = not (m == 0) || has_bits ms

-- Quotes in text that is passed over.
use Rattle.std.specs.Prelude.{ℕ, Bool, true, false, not, ◌&&◌, ◌||◌, ◌==◌, nat_lt, List, [], ◌∷◌, length, is_some}
use Rattle.verilog_text.specs.Lexical.{string_length}

-- The byte is no quote, or it stands among the last bytes, so many, or no quote on its line ends a string that begins with it.
unfoldable pub is_alone : (last : ℕ) → ℕ → List ℕ → Bool
is_alone last b bs = not (b == 34) || nat_lt (length bs) last || not (is_some (string_length false bs))

-- Each quote in front of the last bytes, so many, has no partner on its line.
unfoldable pub are_alone : (last : ℕ) → List ℕ → Bool
are_alone last [] = true
are_alone last (b ∷ bs) = is_alone last b bs && are_alone last bs

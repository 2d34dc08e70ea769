-- Words of the grammar, names, and lists with commas, read from the front of tokens.
use Rattle.std.specs.Prelude.{Bool, false, cond, List, [], ◌∷◌, Option, Some, None}
use Rattle.std.specs.Str.{bytes_eq}
use Rattle.wb_values.specs.Value.{Name}
use Rattle.wb_values.specs.ReservedWords.{is_reserved}
use Rattle.verilog_text.specs.Token.{Mark, comma, Token, word}
use Rattle.v_expr.specs.Repeat.{◌>>=◌, Read, repeated}
use Rattle.v_expr.specs.Reading.{after_mark}

abbrev pub is_word : Name → Token → Bool
is_word w (word found) = bytes_eq found w
is_word w _ = false

-- what stands behind a word, where it stands in front
unfoldable pub after_word : Name → List Token → Option (List Token)
after_word w [] = None
after_word w (t ∷ ts) = cond (is_word w t) (Some ts) None

-- a name is no reserved word
unfoldable pub name_at : List Token → Read Token Name
name_at (word n ∷ ts) = cond (is_reserved n) None (Some (n, ts))
name_at _ = None

unfoldable pub behind_comma : {A : Type 0} → (List Token → Read Token A) → List Token → Read Token A
behind_comma one ts = after_mark comma ts >>= one

-- one or more of a kind with commas between them, up to a mark, which is passed
unfoldable pub listed_at : {A : Type 0} → Mark → (List Token → Read Token A) → List Token → Read Token (List A)
listed_at m one ts = do
  first ← one ts
  others ← repeated (after_mark m) (behind_comma one) first.1
  Some (first.0 ∷ others.0, others.1)

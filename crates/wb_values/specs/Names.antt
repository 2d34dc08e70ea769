-- Bytes of names, and which names a model may have.
use Rattle.std.specs.Prelude.{ℕ, Bool, false, not, ◌&&◌, ◌||◌, ◌==◌, nat_le, List, [], ◌∷◌, length, codes}
use Rattle.std.specs.List.{list_all}
use Rattle.wb_values.specs.Value.{same_name}
use Rattle.wb_values.specs.ReservedWords.{is_reserved}

-- a letter or _
abbrev pub is_letter : ℕ → Bool
is_letter b = nat_le 65 b && nat_le b 90 || nat_le 97 b && nat_le b 122 || b == 95

abbrev pub is_digit : ℕ → Bool
is_digit b = nat_le 48 b && nat_le b 57

-- a letter, a digit or _
abbrev pub is_name_byte : ℕ → Bool
is_name_byte b = is_letter b || is_digit b

abbrev pub begins_with : (ℕ → Bool) → List ℕ → Bool
begins_with p [] = false
begins_with p (b ∷ bs) = p b

abbrev pub begins_with_wb : List ℕ → Bool
begins_with_wb (a ∷ b ∷ c ∷ rest) = (a == 119) && (b == 98) && (c == 95)
begins_with_wb _ = false

-- the words that are no names: reserved ones, fetch, and what begins with wb_
abbrev pub is_kept_word : List ℕ → Bool
is_kept_word text = is_reserved text || same_name text (codes "fetch") || begins_with_wb text

-- A legal name: a letter or _, then letters, digits and _, at most 64 bytes, and no kept word.
abbrev pub is_model_name : List ℕ → Bool
is_model_name text = begins_with is_letter text && list_all is_name_byte text && nat_le (length text) 64 && not (is_kept_word text)

-- What the code's settings stand for.
use Rattle.std.specs.Prelude.{ℕ, zero, suc, ◌^◌, ◌*◌, ◌+◌, ◌==◌, nat_lt, true, false, Bool, not, ◌&&◌, List, [], ◌∷◌, Option, Some, None}
use Rattle.std.specs.List.{list_any, list_all}
use Rattle.wb_values.specs.Value.{Name}
use Rattle.scripts.specs.Script as meaning
use Rattle.ila_sim.specs.declared.set.Set.{Set}
use Rattle.ila_sim.specs.Places.{called_at}

-- the setting under a name
abbrev pub set_called : Name → Set → meaning.Set
set_called n s = record { called = n; word = s.word; value = s.value }

-- the setting of a name of the list
abbrev pub set_at : List meaning.Settable → Set → meaning.Set
set_at ss s = set_called (called_at ss s.place) s

-- one number for the place and the word
abbrev pub key_of : Set → ℕ
key_of s = s.place * 2 ^ 64 + s.word

abbrev pub are_distinct_numbers : List ℕ → Bool
are_distinct_numbers [] = true
are_distinct_numbers (n ∷ ns) = not (list_any (λ m. n == m) ns) && are_distinct_numbers ns

-- the word is one of those that a name has
abbrev pub is_word_of : Option (ℕ × ℕ) → ℕ → Bool
is_word_of None k = k == 0
is_word_of (Some addresses) k = nat_lt k addresses.1

-- a word of the name, and a value that fits it
abbrev pub suits : meaning.Settable → Set → Bool
suits t s = is_word_of t.addresses s.word && t.fits s.word s.value

abbrev pub suits_at : List meaning.Settable → ℕ → Set → Bool
suits_at [] k s = false
suits_at (t ∷ ts) zero s = suits t s
suits_at (t ∷ ts) (suc k) s = suits_at ts k s

-- The setting is one of a name of the list: it sets a word that the name has, to a value that fits.
abbrev pub is_right : List meaning.Settable → Set → Bool
is_right ss s = suits_at ss s.place s

abbrev pub are_right : List meaning.Settable → List Set → Bool
are_right ss = list_all (is_right ss)

-- each place is below n
abbrev pub are_within : ℕ → List Set → Bool
are_within n = list_all (λ s. nat_lt s.place n)

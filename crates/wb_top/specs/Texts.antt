-- The texts that a call writes beside reports.
use Rattle.std.specs.Prelude.{◌≡◌, ◌<◌, ◌≤◌, ℕ, Bool, ◌&&◌, nat_le, nat_lt, List, [], ◌∷◌, ◌++◌, length, codes, decimal, IsTrue}
use Rattle.std.specs.List.{list_all}
use Rattle.check_limits.specs.Limits.{Limit, limit_memory, limit_unroll}

abbrev pub usage_text : List ℕ
usage_text = codes "usage" ++ 10 ∷ []

-- a file is too long: its number in the order of reading, from 0
abbrev pub length_text : ℕ → List ℕ
length_text k = codes "limit length " ++ (decimal k ++ 10 ∷ [])

-- a check is over a limit: how many bits of memory there are, or how many unrolled micro-steps
abbrev pub limit_text : Limit → List ℕ
limit_text (limit_memory bits) = codes "limit memory " ++ (decimal bits ++ 10 ∷ [])
limit_text (limit_unroll steps) = codes "limit unroll " ++ (decimal steps ++ 10 ∷ [])

-- printable ASCII, the space included
abbrev pub is_printable : ℕ → Bool
is_printable b = nat_le 32 b && nat_le b 126

-- a note has at least one byte and at most 80, each printable
pub record IsNote (text : List ℕ) : Type 0 where
  pub some : 0 < length text
  pub short : length text ≤ 80
  pub printable : IsTrue (list_all is_printable text)

-- the same as a test
abbrev pub fits_note : List ℕ → Bool
fits_note text = nat_lt 0 (length text) && nat_le (length text) 80 && list_all is_printable text

-- A refusal by a rule: its name, and a note that leads to the place.
abbrev pub IsRefusalBy : List ℕ → List ℕ → Type 0
IsRefusalBy rule text =
    (note : List ℕ) × IsNote note × (text ≡ codes "refused " ++ (rule ++ 10 ∷ (codes "note " ++ (note ++ 10 ∷ []))))

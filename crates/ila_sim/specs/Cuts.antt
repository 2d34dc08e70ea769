-- Where a text is cut, and which numbers are kept.
use Rattle.std.specs.Prelude.{ℕ, suc, ◌≡◌, nat_lt, cond, Bool, List, [], ◌∷◌, take, drop, length, Option, Some, None}
use Rattle.std.specs.Borrow.{Bor}
use Rattle.wb_values.specs.Choice.{some_if}
use Rattle.scripts.specs.Script.{is_space_or_tab, is_return, lines_of, words_of, without_skipped}

-- how many bytes stand before the first of a kind
unfoldable pub length_before : (ℕ → Bool) → List ℕ → ℕ
length_before p [] = 0
length_before p (b ∷ bs) = cond (p b) 0 (suc (length_before p bs))

unfoldable pub after_blanks : List ℕ → List ℕ
after_blanks [] = []
after_blanks (b ∷ bs) = cond (is_space_or_tab b) (after_blanks bs) (b ∷ bs)

-- The line without a carriage return at its end.
unfoldable pub without_last_return : List ℕ → List ℕ
without_last_return [] = []
without_last_return (b ∷ []) = cond (is_return b) [] (b ∷ [])
without_last_return (a ∷ b ∷ bs) = a ∷ without_last_return (b ∷ bs)

-- The number, where it is below the limit.
abbrev pub below : (limit : ℕ) → Option ℕ → Option ℕ
below limit (Some n) = some_if (nat_lt n limit) n
below limit None = None

-- a text cut at a place: what stands before it, and what stands behind it
abbrev pub cut_at : List ℕ → ℕ → List ℕ × List ℕ
cut_at text k = (take k text, drop (suc k) text)

-- the lines of a text, where one is left
abbrev pub lines_left : Option (Bor (List ℕ)) → List (List ℕ)
lines_left None = []
lines_left (Some text) = lines_of text.now

-- how much is left
abbrev pub room_left : Option (Bor (List ℕ)) → ℕ
room_left None = 0
room_left (Some text) = suc (length text.now)

abbrev pub IsNextWord : List ℕ → Option (Bor (List ℕ) × Bor (List ℕ)) → Type 0
IsNextWord line None = words_of line ≡ []
IsNextWord line (Some w) = words_of line ≡ w.0.now ∷ words_of w.1.now

abbrev pub IsNextKept : Option (Bor (List ℕ)) → Option (Bor (List ℕ) × Option (Bor (List ℕ))) → Type 0
IsNextKept left None = without_skipped (lines_left left) ≡ []
IsNextKept left (Some l) = without_skipped (lines_left left) ≡ l.0.now ∷ without_skipped (lines_left l.1)

-- The note of a place: its text as a note shows it.
use Rattle.std.specs.Prelude.{ℕ, Bool, cond, ◌&&◌, nat_le, List, [], ◌∷◌, take, map, codes}
use Prim.Native.Char.{code}
use Rattle.model_places.specs.Sites.{Way, Spot, Site, site_at, site_text}

-- printable ASCII, the space included
abbrev pub is_printable : ℕ → Bool
is_printable b = nat_le 32 b && nat_le b 126

-- what is not printable is shown as a question mark
abbrev pub shown : ℕ → ℕ
shown b = cond (is_printable b) b (code "?")

-- an empty text is shown as two quotation marks
abbrev pub or_quotes : List ℕ → List ℕ
or_quotes [] = codes "\"\""
or_quotes (b ∷ bs) = b ∷ bs

-- the note of a text: its first 80 bytes
abbrev pub note_of : List ℕ → List ℕ
note_of text = map shown (take 80 (or_quotes text))

-- the note that leads to a place
abbrev pub site_note : Site → List ℕ
site_note s = note_of (site_text s)

abbrev pub note_at : Way → Spot → List ℕ
note_at way spot = site_note (site_at way spot)

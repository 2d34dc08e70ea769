-- Where the tokens of files are read: the parts of the files after expansion, each with its place.
use Rattle.std.specs.Prelude.{ℕ, zero, suc, ◌+◌, ◌-◌, ◌<◌, ◌≤◌, ◌≡◌, ◌⊎◌, Bool, true, false, cond, List, [], ◌∷◌, ◌++◌, length, take, map, Option, Some, None}
use Rattle.wb_values.specs.Value.{Name, same_name}
use Rattle.verilog_text.specs.Lexical.{Piece, token, define, undefine, use_of, Front}
use Rattle.verilog_text.specs.Text.{Part, piece, stray, nested_use, end_of_file, front_after, without_byte_order_mark}

-- a file by its number, and a byte in it
pub record Site : Type 0 where
  pub file : ℕ
  pub start : ℕ

-- where a token was read, and how many bytes it has
pub record Spot : Type 0 where
  pub site : Site
  pub count : ℕ

-- so many bytes on
abbrev pub moved_on : ℕ → Site → Site
moved_on n at = record { file = at.file; start = at.start + n }

-- A part, the bytes that it takes, and whether it is read in the text of a macro. That text stands in its definition.
pub record PlacedPart : Type 0 where
  pub part : Part
  pub spot : Spot
  pub in_macro : Bool

abbrev pub parts_of : List PlacedPart → List Part
parts_of ps = map (λ p. p.part) ps

-- a text, and where it begins
pub record PlacedText : Type 0 where
  pub text : List ℕ
  pub site : Site

-- What a name stands for after a part, by what it stood for before it. The text of a definition ends with the definition.
abbrev pub text_told : Part → Spot → Name → Option PlacedText → Option PlacedText
text_told (piece (define m text)) s n earlier = cond (same_name m n) (Some (record { text = text; site = moved_on (s.count - length text) s.site })) earlier
text_told (piece (undefine m)) s n earlier = cond (same_name m n) None earlier
text_told _ s n earlier = earlier

-- what a name stands for after some parts
unfoldable pub text_after : List PlacedPart → Name → Option PlacedText
text_after [] n = None
text_after (p ∷ before) n = text_told p.part p.spot n (text_after before n)

-- What a text adds to the parts before it.
abbrev pub Placing : Type 0
Placing = PlacedText → List PlacedPart → List PlacedPart

abbrev pub with_text_of : Placing → Option PlacedText → List PlacedPart → List PlacedPart
with_text_of expand (Some t) before = expand t before
with_text_of expand None before = before

-- One piece more; a use of a macro takes along the parts of the macro's text. How a text is expanded is handed in.
abbrev pub with_placed_piece : Placing → Piece → Spot → (in_macro : Bool) → List PlacedPart → List PlacedPart
with_placed_piece expand (use_of n) s m before = with_text_of expand (text_after before n) (record { part = piece (use_of n); spot = s; in_macro = m } ∷ before)
with_placed_piece expand p s m before = record { part = piece p; spot = s; in_macro = m } ∷ before

-- what stands at the front of a text, which begins there with a byte before those
abbrev pub with_placed_front : (in_macro : Bool) → Placing → Front → Site → List ℕ → List PlacedPart → (more : ℕ → List PlacedPart → List PlacedPart) → List PlacedPart
with_placed_front m expand (Some f) at bs before more = more f.1 (with_placed_piece expand f.0 (record { site = at; count = suc (length (take f.1 bs)) }) m before)
with_placed_front m expand None at bs before more = more 0 (record { part = stray; spot = record { site = at; count = 1 }; in_macro = m } ∷ before)

-- What a text adds that begins there: what stands at its front, then what stands at the front of the rest, and so on. The first bytes,
-- so many, belong to the part before.
unfoldable pub with_placed_parts : (in_macro : Bool) → Placing → ℕ → Site → List ℕ → List PlacedPart → List PlacedPart
with_placed_parts m expand n at [] before = before
with_placed_parts m expand (suc n) at (b ∷ bs) before = with_placed_parts m expand n (moved_on 1 at) bs before
with_placed_parts m expand zero at (b ∷ bs) before =
    with_placed_front m expand (front_after (parts_of before) m b bs) at bs before (λ n parts. with_placed_parts m expand n (moved_on 1 at) bs parts)

-- what the text of a macro adds, with so many levels left for uses in it
unfoldable pub with_placed_text : (levels : ℕ) → Placing
with_placed_text zero t before = record { part = nested_use; spot = record { site = t.site; count = 0 }; in_macro = true } ∷ before
with_placed_text (suc levels) t before = with_placed_parts true (with_placed_text levels) 0 t.site t.text before

-- where a file's text begins, after a byte order mark
abbrev pub front_of_file : (number : ℕ) → List ℕ → Site
front_of_file number bytes = record { file = number; start = length bytes - length (without_byte_order_mark bytes) }

-- the parts of a file without its end
abbrev pub inside_file : (number : ℕ) → List ℕ → List PlacedPart → List PlacedPart
inside_file number bytes before = with_placed_parts false (with_placed_text 64) 0 (front_of_file number bytes) (without_byte_order_mark bytes) before

unfoldable pub with_placed_file : (number : ℕ) → List ℕ → List PlacedPart → List PlacedPart
with_placed_file number bytes before =
    record { part = end_of_file; spot = record { site = record { file = number; start = length bytes }; count = 0 }; in_macro = false } ∷ inside_file number bytes before

-- Files in order, the first of them of that number.
unfoldable pub with_placed_files : (number : ℕ) → List (List ℕ) → List PlacedPart → List PlacedPart
with_placed_files number [] before = before
with_placed_files number (f ∷ fs) before = with_placed_files (suc number) fs (with_placed_file number f before)

-- the parts of some files with their places
abbrev pub placed_parts : List (List ℕ) → List PlacedPart
placed_parts files = with_placed_files 0 files []

-- ---- tokens

abbrev pub spots_told : Part → Spot → List Spot → List Spot
spots_told (piece (token t)) s earlier = earlier ++ s ∷ []
spots_told _ s earlier = earlier

-- where the tokens of some parts are read, in order
unfoldable pub spots_read : List PlacedPart → List Spot
spots_read [] = []
spots_read (p ∷ before) = spots_told p.part p.spot (spots_read before)

-- where those are read that are not in the text of a macro
unfoldable pub spots_outside : List PlacedPart → List Spot
spots_outside [] = []
spots_outside (p ∷ before) = cond p.in_macro (spots_outside before) (spots_told p.part p.spot (spots_outside before))

-- Where each token of the files is read, in order, and how many bytes it has.
unfoldable pub spots_in : List (List ℕ) → List Spot
spots_in files = spots_read (placed_parts files)

-- The bytes end before that place.
abbrev pub EndsBefore : Spot → Site → Type 0
EndsBefore s at = (s.site.file < at.file) ⊎ ((s.site.file ≡ at.file) × (s.site.start + s.count ≤ at.start))

-- a token of one byte, as the worked cases have them
abbrev pub spot : (file start : ℕ) → Spot
spot file start = record { site = record { file = file; start = start }; count = 1 }

-- What the walk over the files comes to, with the places of what it reads.
use Rattle.std.specs.Prelude.{ℕ, zero, suc, ◌-◌, Bool, true, false, cond, List, [], ◌∷◌, ◌++◌, length, take, Option, Some, None, Ok, Err}
use Rattle.wb_values.specs.Value.{Name, same_name}
use Rattle.verilog_text.specs.Lexical.{Piece, token, define, undefine, use_of, Front}
use Rattle.verilog_text.specs.Text.{without_byte_order_mark}
use Rattle.v_lex.specs.Spots.{Site, Spot, moved_on}
use Rattle.v_lex.specs.Walk.{Reading, Outcome, first_reading, opened, with_use, with_piece, front_at, macro_read, file_read}

-- What is known of places behind a part of the files: where the texts of the macros stand, and where the tokens so far were read, in order.
pub record Sites : Type 0 where
  pub texts : Name → Option Site
  pub tokens : List Spot

abbrev pub first_sites : Sites
first_sites = record { texts = λ n. None; tokens = [] }

abbrev pub with_text : Name → Option Site → Sites → Sites
with_text n at s = record { texts = λ q. cond (same_name n q) at (s.texts q); tokens = s.tokens }

abbrev pub with_spot : Spot → Sites → Sites
with_spot t s = record { texts = s.texts; tokens = s.tokens ++ t ∷ [] }

-- what the reading of a macro's text adds; nothing where the macro is not defined
abbrev pub with_read_at : (Site → List ℕ → Reading → Sites → Sites) → Option (List ℕ) → Option Site → Reading → Sites → Sites
with_read_at read (Some text) (Some at) r s = read at text (with_use (length text) r) s
with_read_at read _ _ r s = s

-- What a piece of so many bytes adds that is read there: a token its spot; a definition the place of its text, with which it ends. What
-- the reading of a macro's text adds is handed in.
unfoldable pub piece_sites : (Site → List ℕ → Reading → Sites → Sites) → Piece → Site → (count : ℕ) → Reading → Sites → Sites
piece_sites read (token t) at count r s = with_spot (record { site = at; count = count }) s
piece_sites read (define n text) at count r s = with_text n (Some (moved_on (count - length text) at)) s
piece_sites read (undefine n) at count r s = with_text n None s
piece_sites read (use_of n) at count r s = with_read_at read (r.macros n) (s.texts n) r s
piece_sites read _ at count r s = s

-- what is added from there on, where reading goes on
abbrev pub sites_on : Outcome → (Reading → Sites → Sites) → Sites → Sites
sites_on (Ok r) more s = more r s
sites_on (Err e) more s = s

-- what a piece at the front adds, by what stands behind its first byte, and what is added from there on
abbrev pub sites_then : (List ℕ → Reading → Outcome) → (Site → List ℕ → Reading → Sites → Sites) → Front → Site → List ℕ → Reading → Sites → (ℕ → Reading → Sites → Sites) → Sites
sites_then read add (Some f) at bs r s more = sites_on (with_piece read f.0 r) (more f.1) (piece_sites add f.0 at (suc (length (take f.1 bs))) r s)
sites_then read add None at bs r s more = s

-- What a text adds that stands there, behind so many bytes of it that belong to the piece before, piece by piece.
unfoldable pub sites_from : (is_macro : Bool) → (List ℕ → Reading → Outcome) → (Site → List ℕ → Reading → Sites → Sites) → ℕ → Site → List ℕ → Reading → Sites → Sites
sites_from is_macro read add n at [] r s = s
sites_from is_macro read add (suc n) at (b ∷ bs) r s = sites_from is_macro read add n (moved_on 1 at) bs r s
sites_from is_macro read add zero at (b ∷ bs) r s =
    sites_then read add (front_at is_macro r b bs) at bs r s (λ n q t. sites_from is_macro read add n (moved_on 1 at) bs q t)

-- what the text of a macro adds, with so many levels left for uses
unfoldable pub macro_sites : (levels : ℕ) → Site → List ℕ → Reading → Sites → Sites
macro_sites zero at text r s = s
macro_sites (suc levels) at text r s = sites_from true (macro_read levels) (macro_sites levels) 0 at text r s

-- what a file adds, by its number
unfoldable pub file_sites : (number : ℕ) → List ℕ → Reading → Sites → Sites
file_sites number bytes r s =
    sites_from false (macro_read 64) (macro_sites 64) 0 (record { file = number; start = length bytes - length (without_byte_order_mark bytes) })
    (without_byte_order_mark bytes) (opened r) s

unfoldable pub files_sites : (number : ℕ) → List (List ℕ) → Reading → Sites → Sites
files_sites number [] r s = s
files_sites number (f ∷ fs) r s = sites_on (file_read f r) (files_sites (suc number) fs) (file_sites number f r s)

-- where each token of the files is read on this walk
unfoldable pub walked_spots : List (List ℕ) → List Spot
walked_spots files = (files_sites 0 files first_reading first_sites).tokens

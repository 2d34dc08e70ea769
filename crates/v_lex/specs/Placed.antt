-- Where the reading stands in the files.
use Rattle.std.specs.Prelude.{◌≡◌, ℕ, ◌+◌, ◌-◌, min, List, length, Option, Some, None, Result, Ok, Err, IfSome, ⊤}
use Rattle.std.specs.Borrow.{Bor}
use Rattle.std.specs.Ordering.{nat_cmp}
use Rattle.std.specs.Cmp.Lexicographic.{slice_cmp}
use Rattle.std.specs.BTreeMap.{BTreeMap, get_by}
use Rattle.std.specs.List.{All}
use Rattle.wb_values.specs.Value.{Name}
use Rattle.v_token.specs.declared.token.Token.{Token}
use Rattle.v_lex.specs.View.{IsPart, IsTextOf}
use Rattle.v_lex.specs.Places.{StandsAt, IsSlice}
use Rattle.v_lex.specs.declared.piece.Piece.{Piece}
use Rattle.v_lex.specs.declared.piece.Piece.TheVariants as code
use Rattle.v_lex.specs.declared.place.Place.{Place}
use Rattle.v_lex.specs.declared.stop.Stop.{Stop}
use Rattle.v_lex.specs.declared.state.Span.{Span}
use Rattle.v_lex.specs.declared.state.Reader.{Reader}

abbrev pub flat : Option (Option Span) → Option Span
flat (Some o) = o
flat None = None

-- the text of a macro and its place
abbrev pub span_under : BTreeMap (Bor (List ℕ)) (Option Span) → Name → Option Span
span_under t n = flat (get_by (λ k. slice_cmp nat_cmp n k.now) t)

-- The text stands at its place.
abbrev pub IsSpanOf : List (List ℕ) → Span → Type 0
IsSpanOf files s = StandsAt files s.place.file s.place.start s.text.now

-- All tokens and macros so far stand in the files.
pub record IsPlaced (files : List (List ℕ)) (macros : BTreeMap (Bor (List ℕ)) (Option Span)) (tokens : List Token) : Type 0 where
  pub slices : All (IsSlice files) tokens
  pub texts : (n : Name) → IfSome (span_under macros n) (IsSpanOf files)

abbrev pub IsReaderPlaced : List (List ℕ) → Reader → Type 0
IsReaderPlaced files r = IsPlaced files r.macros r.tokens.items

-- No token and no macro has changed.
abbrev pub Keeps : (old new : Reader) → Type 0
Keeps old new = (new.macros ≡ old.macros) × (new.tokens ≡ old.tokens)

-- A piece may come between those places: a token stands at the first of them, the text of a definition ends at the second.
abbrev pub IsPieceAt : List (List ℕ) → Piece → (here behind : Place) → Type 0
IsPieceAt files (code.Token k t) here behind = StandsAt files here.file here.start t.now × IsTextOf k t.now
IsPieceAt files (code.Define n t) here behind = StandsAt files behind.file (behind.start - length t.now) t.now
IsPieceAt files _ here behind = ⊤

-- The text that is used is that one.
abbrev pub IsUse : Result (Option Span) Stop → Option Span → Type 0
IsUse (Ok (Some s)) o = o ≡ Some s
IsUse (Ok None) o = o ≡ None
IsUse (Err e) o = ⊤

-- All stands in the files, and so does the text of a macro that is to be read.
abbrev pub IsTakenAt : Result (Option Span) Stop → List (List ℕ) → Reader → Type 0
IsTakenAt (Ok o) files r = IsReaderPlaced files r × IfSome o (IsSpanOf files)
IsTakenAt (Err e) files r = ⊤

-- The piece is a part of the text, and what stands behind it has its place.
abbrev pub IsFrontPart : Span → Piece → Span → Type 0
IsFrontPart text p rest =
    IsPart p text.text.now rest.text.now × (rest.place.file ≡ text.place.file)
    × (rest.place.start ≡ min (text.place.start + (length text.text.now - length rest.text.now)) 4294967295)

abbrev pub IsFrontAt : Result (Option (Piece × Span)) Stop → Span → Type 0
IsFrontAt (Ok o) text = IfSome o (λ f. IsFrontPart text f.0 f.1)
IsFrontAt (Err e) text = ⊤

-- What the code's types stand for.
use Rattle.std.specs.Prelude.{◌≡◌, ℕ, ◌-◌, Bool, not, List, [], ◌∷◌, length, take, drop, Option, Some, None, option_map, ⊤}
use Rattle.std.proofs.Common.{Bor}
use Rattle.wb_values.specs.Value.{Name}
use Rattle.verilog_text.specs.Lexical as pieces
use Rattle.v_lex.specs.declared.run.Run.{Run}
use Rattle.v_lex.specs.declared.run.Run.TheVariants as runs
use Rattle.verilog_text.specs.Token.{text_of}
use Rattle.v_token.specs.View.{token_of_kind}
use Rattle.v_token.specs.declared.token.TokenKind.{TokenKind}
use Rattle.v_lex.specs.declared.piece.Piece.{Piece}
use Rattle.v_lex.specs.declared.piece.Piece.TheVariants as code

-- the bytes that a run goes over
abbrev pub passes : Run → ℕ → Bool
passes runs.Word b = pieces.is_word_byte b
passes runs.Decimal b = pieces.is_decimal_byte b
passes runs.Graphic b = pieces.is_graphic b
passes runs.LineBlank b = pieces.is_line_blank b
passes runs.Line b = not (pieces.is_line_feed b)
passes (runs.Digits base) b = pieces.runs_on base b

-- what stands behind so many bytes
abbrev pub rest_after : List ℕ → Option ℕ → Option (List ℕ)
rest_after text n = option_map (λ k. drop k text) n

-- the piece and what stands behind it
abbrev pub after : List ℕ → pieces.Front → Option (pieces.Piece × List ℕ)
after bs f = option_map (λ p. (p.0, drop p.1 bs)) f

-- the front of a text by its first byte and what stands behind it
abbrev pub at_front : (ℕ → List ℕ → pieces.Front) → List ℕ → Option (pieces.Piece × List ℕ)
at_front f [] = None
at_front f (b ∷ bs) = after bs (f b bs)

abbrev pub piece_of : Piece → pieces.Piece
piece_of code.Nothing = pieces.nothing
piece_of (code.Token k text) = pieces.token (token_of_kind k text.now)
piece_of code.LeftOut = pieces.excluded
piece_of code.Misdirected = pieces.misdirected
piece_of (code.Define n text) = pieces.define n.now text.now
piece_of (code.Undefine n) = pieces.undefine n.now
piece_of (code.IfDefined wanted n) = pieces.if_defined wanted n.now
piece_of (code.ElseIf n) = pieces.else_if n.now
piece_of code.Otherwise = pieces.otherwise
piece_of code.EndIf = pieces.end_if
piece_of (code.Use n) = pieces.use_of n.now

abbrev pub front_of : Piece × Bor (List ℕ) → pieces.Piece × List ℕ
front_of f = (piece_of f.0, f.1.now)

abbrev pub or_front : Option (pieces.Piece × List ℕ) → Option (pieces.Piece × List ℕ) → Option (pieces.Piece × List ℕ)
or_front (Some f) other = Some f
or_front None other = other

-- the name and what stands behind it
abbrev pub name_after : List ℕ → Option (Name × ℕ) → Option (Name × List ℕ)
name_after text n = option_map (λ k. (k.0, drop k.1 text)) n

-- the text up to a rest of it
abbrev pub taken : List ℕ → (rest : List ℕ) → List ℕ
taken text rest = take (length text - length rest) text

-- That is the text of a token of that kind: the spelling of an operator or a mark.
abbrev pub IsTextOf : TokenKind → List ℕ → Type 0
IsTextOf k t = t ≡ text_of (token_of_kind k t)

-- A token has that text, and it is the token's; the piece is no definition.
abbrev pub HasText : Piece → List ℕ → Type 0
HasText (code.Token k t) w = (t.now ≡ w) × IsTextOf k t.now
HasText (code.Define n t) w = ⊥
HasText _ w = ⊤

-- The text of a definition stands in this text and ends where the rest begins; the piece is no token.
abbrev pub HasDefinition : Piece → (text rest : List ℕ) → Type 0
HasDefinition (code.Token k t) text rest = ⊥
HasDefinition (code.Define n t) text rest = (j : ℕ) × (t.now ≡ taken (drop j text) rest)
HasDefinition _ text rest = ⊤

-- The piece is neither a token nor a definition.
abbrev pub IsPlain : Piece → Type 0
IsPlain (code.Token k t) = ⊥
IsPlain (code.Define n t) = ⊥
IsPlain _ = ⊤

-- What a piece has of the text at whose front it stands: a token's text is all that is taken; the text of a definition stands in a
-- directive and ends with it.
abbrev pub IsPart : Piece → (text rest : List ℕ) → Type 0
IsPart (code.Token k t) text rest = (t.now ≡ taken text rest) × IsTextOf k t.now
IsPart (code.Define n t) text rest =
    (bs : List ℕ) × (text ≡ 96 ∷ bs) × ((j : ℕ) × (t.now ≡ taken (drop j bs) rest))
IsPart _ text rest = ⊤

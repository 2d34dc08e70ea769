-- The places that the code keeps.
use Rattle.std.specs.Prelude.{◌≡◌, ℕ, ◌+◌, ◌-◌, min, List, map, length, Option, Some, None, option_map, Result, Ok, Err, ⊤}
use Rattle.v_lex.specs.Walk.{Reading}
use Rattle.v_token.specs.declared.token.Token.{Token}
use Rattle.v_lex.specs.Reading.{reading_of}
use Rattle.v_lex.specs.Placed.{span_under}
use Rattle.v_lex.specs.Sites.{Sites}
use Rattle.v_lex.specs.Spots.{Site, Spot}
use Rattle.v_lex.specs.declared.piece.Piece.{Piece}
use Rattle.v_lex.specs.declared.piece.Piece.TheVariants as code
use Rattle.v_lex.specs.declared.place.Place.{Place}
use Rattle.v_lex.specs.declared.stop.Stop.{Stop}
use Rattle.v_lex.specs.declared.state.Span.{Span}
use Rattle.v_lex.specs.declared.state.Reader.{Reader}

abbrev pub site_of : Place → Site
site_of p = record { file = p.file; start = p.start }

-- the place of a token and how many bytes it has
abbrev pub spot_of : Token → Spot
spot_of t = record { site = record { file = t.file; start = t.start }; count = length t.text.now }

abbrev pub sites_of : Reader → Sites
sites_of r = record { texts = λ n. option_map (λ s. site_of s.place) (span_under r.macros n); tokens = map spot_of r.tokens.items }

-- A piece of so many bytes comes between those places: a token is all of it, the text of a definition ends with it.
abbrev pub IsSited : Piece → (here behind : Place) → (count : ℕ) → Type 0
IsSited (code.Token k t) here behind count = count ≡ length t.now
IsSited (code.Define n t) here behind count = (here.file ≡ behind.file) × (here.start + (count - length t.now) ≡ behind.start - min (length t.now) 4294967295)
IsSited _ here behind count = ⊤

-- The call leaves those sites, or those to which the text that it hands out adds its own.
abbrev pub LeavesSites : (Site → List ℕ → Reading → Sites → Sites) → Result (Option Span) Stop → Reader → Sites → Type 0
LeavesSites add (Ok None) new s = s ≡ sites_of new
LeavesSites add (Ok (Some x)) new s = s ≡ add (site_of x.place) x.text.now (reading_of new) (sites_of new)
LeavesSites add (Err e) new s = ⊤

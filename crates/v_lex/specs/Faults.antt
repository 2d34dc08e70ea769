-- Which places of faults are kept.
use Rattle.std.specs.Prelude.{◌≡◌, ℕ, cond, nat_lt, List, [], ◌∷◌, map, reverse, Option, Some, None, Result, Ok, Err, ⊤}
use Rattle.v_token.specs.declared.token.Token.{Token}
use Rattle.v_lex.specs.declared.fault.Fault.{Fault}
use Rattle.v_lex.specs.declared.fault.Remark.{Remark}
use Rattle.v_lex.specs.declared.fault.Remark.TheVariants.{Nothing, ManyLevels, ManyTokens}
use Rattle.v_lex.specs.declared.place.Place.{Place}
use Rattle.v_lex.specs.declared.piece.Piece.{Piece}
use Rattle.v_lex.specs.declared.stop.LexKind.TheVariants.{BadToken, BadDirective}
use Rattle.v_lex.specs.declared.stop.Stop.{Stop}
use Rattle.v_lex.specs.declared.stop.Stop.TheVariants.{Memory, Refused}
use Rattle.v_lex.specs.declared.state.Span.{Span}
use Rattle.v_lex.specs.declared.state.Conditional.{Conditional}
use Rattle.v_lex.specs.Reading.{first_in}
use Rattle.v_lex.specs.Notes.{number_place}

-- a place of which nothing is to be said
abbrev pub plain_at : Place → Fault
plain_at p = record { place = p; used = None; remark = Nothing }

-- the same place, with a remark
abbrev pub remarked : Remark → Fault → Fault
remarked r f = record { place = f.place; used = f.used; remark = r }

-- another place, with the same remark
abbrev pub moved_to : Place → Fault → Fault
moved_to p f = record { place = p; used = f.used; remark = f.remark }

-- where the open conditionals begin, the innermost first
abbrev pub openers_of : List Conditional → List Fault
openers_of cs = reverse (map (λ c. c.opener) cs)

-- the first fault is kept
abbrev pub first_kept : Option Fault → Fault → Fault
first_kept (Some f) other = f
first_kept None other = other

-- At the end of a file a conditional that is open is a fault where it begins: the innermost, where several are.
abbrev pub with_open : Option Fault → List Fault → Option Fault
with_open kept [] = kept
with_open kept (f ∷ fs) = Some (first_kept kept f)

-- the last of some tokens
abbrev pub last_token : List Token → Option Token
last_token ts = first_in (reverse ts)

-- Where no piece begins, the fault has that place.
abbrev pub IsStrayAt : Result (Option (Piece × Span)) Stop → Place → Type 0
IsStrayAt (Err (Refused k f)) p = f.place ≡ p
IsStrayAt (Err Memory) p = ⊤
IsStrayAt (Ok f) p = ⊤

-- If the call is refused, then with this fault.
abbrev pub IsFaultAt : {A : Type 0} → Result A Stop → Fault → Type 0
IsFaultAt (Err (Refused k f)) wanted = f ≡ wanted
IsFaultAt (Err Memory) wanted = ⊤
IsFaultAt (Ok x) wanted = ⊤

-- If a token is refused behind another, then where the number begins whose size is 0, or since there are too many.
abbrev pub IsTokenFault : {A : Type 0} → Result A Stop → (before : Option Token) → Fault → Type 0
IsTokenFault (Err (Refused BadToken f)) before here = f ≡ moved_to (number_place before here.place) here
IsTokenFault (Err (Refused BadDirective f)) before here = f ≡ remarked ManyTokens here
IsTokenFault _ before here = ⊤

abbrev pub or_place : Option Place → Place → Place
or_place (Some p) other = p
or_place None other = other

-- where a file uses a macro whose use stands at a place: there, if the place is in the text of none
abbrev pub use_in_file : Fault → Place
use_in_file f = or_place f.used f.place

-- What is read with so many levels left for uses, of 64, stands in the text of the last macro that was used in a file; nothing does with all of them left.
abbrev pub use_around : (levels : ℕ) → (last : Option Place) → Option Place
use_around levels last = cond (nat_lt levels 64) last None

-- the fault of a use in 64 others
abbrev pub too_many_levels : Place → (last : Option Place) → Fault
too_many_levels p last = record { place = p; used = last; remark = ManyLevels }

-- What the state of the reading stands for.
use Rattle.std.specs.Prelude.{◌≡◌, ℕ, Bool, List, [], ◌∷◌, map, reverse, Option, Some, None, Result, Ok, Err, is_some, option_map, ⊤, Vec}
use Rattle.std.specs.Global.{Global}
use Rattle.std.specs.Borrow.{Bor}
use Rattle.std.specs.Ordering.{nat_cmp}
use Rattle.std.specs.Cmp.Lexicographic.{slice_cmp}
use Rattle.std.specs.BTreeMap.{BTreeMap, get_by}
use Rattle.wb_values.specs.Value.{Name}
use Rattle.verilog_text.specs.Token as pure
use Rattle.verilog_text.specs.Text as texts
use Rattle.v_lex.specs.Walk as walk
use Rattle.verilog_text.specs.Lexical as pieces
use Rattle.v_token.specs.View.{tokens_of}
use Rattle.v_token.specs.declared.token.Token.{Token}
use Rattle.v_lex.specs.View.{piece_of, after}
use Rattle.v_lex.specs.declared.piece.Piece.{Piece}
use Rattle.v_lex.specs.declared.stop.LexKind.{LexKind}
use Rattle.v_lex.specs.declared.stop.LexKind.TheVariants.{NotText, BadToken, BadDirective, Unsupported, TooDeep}
use Rattle.v_lex.specs.declared.stop.Stop.{Stop}
use Rattle.v_lex.specs.declared.stop.Stop.TheVariants.{Memory, Refused}
use Rattle.v_lex.specs.declared.state.Span.{Span}
use Rattle.v_lex.specs.declared.state.Branch.{Branch}
use Rattle.v_lex.specs.declared.state.Branch.TheVariants.{Taken, Waiting, Passed}
use Rattle.v_lex.specs.declared.state.Conditional.{Conditional}
use Rattle.v_lex.specs.declared.state.Reader.{Reader}

abbrev pub refusal_of : LexKind → texts.Refusal
refusal_of NotText = texts.not_text
refusal_of BadToken = texts.bad_token
refusal_of BadDirective = texts.bad_directive
refusal_of Unsupported = texts.unsupported
refusal_of TooDeep = texts.too_deep

abbrev pub branch_of : Branch → texts.Branch
branch_of Taken = texts.taken
branch_of Waiting = texts.waiting
branch_of Passed = texts.passed

abbrev pub conditional_of : Conditional → texts.Conditional
conditional_of c = record { branch = branch_of c.branch; has_else = c.has_else }

-- the open conditionals, the innermost first
abbrev pub conditionals_of : List Conditional → List texts.Conditional
conditionals_of cs = reverse (map conditional_of cs)

abbrev pub text_in : Option (Option Span) → Option (List ℕ)
text_in (Some (Some s)) = Some s.text.now
text_in _ = None

-- the text of a macro
abbrev pub text_under : BTreeMap (Bor (List ℕ)) (Option Span) → Name → Option (List ℕ)
text_under t n = text_in (get_by (λ k. slice_cmp nat_cmp n k.now) t)

abbrev pub reading_of : Reader → walk.Reading
reading_of r = record {
  macros = text_under r.macros;
  conditionals = conditionals_of r.conditionals.items;
  tokens = tokens_of r.tokens.items;
  behind_zero = r.is_behind_zero;
  used = r.used;
  has_bad_directive = is_some r.misdirected;
  has_left_out = is_some r.left_out;
}

-- The call is refused as reading is, or leaves what reading gives, unless memory runs out.
abbrev pub IsOutcome : {A : Type 0} → Result A Stop → walk.Reading → walk.Outcome → Type 0
IsOutcome (Ok x) now o = o ≡ Ok now
IsOutcome (Err (Refused k p)) now o = o ≡ Err (refusal_of k)
IsOutcome (Err Memory) now o = ⊤

-- The call leaves that reading, unless memory runs out.
abbrev pub Leaves : {A : Type 0} → Result A Stop → walk.Reading → walk.Reading → Type 0
Leaves (Ok x) now r = now ≡ r
Leaves (Err (Refused k p)) now r = ⊥
Leaves (Err Memory) now r = ⊤

abbrev pub first_in : {A : Type 0} → List A → Option A
first_in [] = None
first_in (x ∷ xs) = Some x

abbrev pub without_first : {A : Type 0} → List A → List A
without_first [] = []
without_first (x ∷ xs) = xs

-- The call is refused as reading is, or leaves what is known where reading goes on with the text of a macro, where it hands one out.
abbrev pub IsTaken : (List ℕ → walk.Reading → walk.Outcome) → Result (Option Span) Stop → walk.Reading → walk.Outcome → Type 0
IsTaken read (Ok None) now o = o ≡ Ok now
IsTaken read (Ok (Some s)) now o = o ≡ read s.text.now now
IsTaken read (Err (Refused k p)) now o = o ≡ Err (refusal_of k)
IsTaken read (Err Memory) now o = ⊤

-- The front of a text: none of an empty one.
abbrev pub front_in : Bool → walk.Reading → List ℕ → Option (Option (pieces.Piece × List ℕ))
front_in is_macro r [] = Some None
front_in is_macro r (b ∷ bs) = option_map (λ f. Some f) (after bs (walk.front_at is_macro r b bs))

abbrev pub span_front : Piece × Span → pieces.Piece × List ℕ
span_front f = (piece_of f.0, f.1.text.now)

-- The call gives the front, or is refused since no token begins so.
abbrev pub IsFront : Result (Option (Piece × Span)) Stop → Option (Option (pieces.Piece × List ℕ)) → Type 0
IsFront (Ok f) o = o ≡ Some (option_map span_front f)
IsFront (Err (Refused k p)) o = (o ≡ None) × (refusal_of k ≡ texts.bad_token)
IsFront (Err Memory) o = ⊤

-- The call is refused as the definition says, or gives these tokens, unless memory runs out.
abbrev pub IsRead : Result (Vec Token Global) Stop → Result (List pure.Token) texts.Refusal → Type 0
IsRead (Ok v) o = o ≡ Ok (tokens_of v.items)
IsRead (Err (Refused k p)) o = o ≡ Err (refusal_of k)
IsRead (Err Memory) o = ⊤

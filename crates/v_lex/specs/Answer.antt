-- What the call that gives the tokens of files says.
use Rattle.std.specs.Prelude.{◌≡◌, ℕ, List, Result, Ok, Err, ⊤, Vec}
use Rattle.std.specs.Global.{Global}
use Rattle.verilog_text.specs.Token as pure
use Rattle.verilog_text.specs.Text as texts
use Rattle.v_token.specs.View.{tokens_of}
use Rattle.v_token.specs.declared.token.Token.{Token}
use Rattle.v_lex.specs.Reading.{refusal_of}
use Rattle.v_lex.specs.Notes.{note_of_fault}
use Rattle.v_lex.specs.declared.fault.Fault.{Fault}
use Rattle.v_lex.specs.declared.stop.LexKind.{LexKind}
use Rattle.v_lex.specs.declared.stop.LexStop.{LexStop}
use Rattle.v_lex.specs.declared.stop.LexStop.TheVariants.{Refused, NoMemory}

-- The tokens are those of the definition, or the files are refused as it says, unless memory runs out.
abbrev pub IsAnswer : Result (Vec Token Global) LexStop → Result (List pure.Token) texts.Refusal → Type 0
IsAnswer (Ok v) o = o ≡ Ok (tokens_of v.items)
IsAnswer (Err (Refused r)) o = o ≡ Err (refusal_of r.kind)
IsAnswer (Err NoMemory) o = ⊤

-- That kind is answered, unless memory runs out.
abbrev pub IsOfKind : LexKind → LexStop → Type 0
IsOfKind k (Refused r) = r.kind ≡ k
IsOfKind k NoMemory = ⊤

-- The note is that on this fault, unless memory runs out.
abbrev pub IsNoted : List (List ℕ) → Fault → LexStop → Type 0
IsNoted files f (Refused r) = (r.note.text.items ≡ note_of_fault files f) × (r.note.file ≡ f.place.file)
IsNoted files f NoMemory = ⊤

-- The note is that on a fault at some place of the files.
abbrev pub IsNotedSomewhere : List (List ℕ) → LexStop → Type 0
IsNotedSomewhere files (Refused r) = (f : Fault) × IsNoted files f (Refused r)
IsNotedSomewhere files NoMemory = ⊤

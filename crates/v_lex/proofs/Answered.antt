-- Answers by their kind.
use Rattle.std.proofs.Common.{◌≡◌, ℕ, List, Result, Err, sym, ap, ◌∙◌}
use Rattle.verilog_text.specs.Token as pure
use Rattle.verilog_text.specs.Text as texts
use Rattle.v_lex.specs.declared.stop.LexKind.{LexKind}
use Rattle.v_lex.specs.declared.stop.LexStop.{LexStop}
use Rattle.v_lex.specs.declared.stop.LexStop.TheVariants.{Refused, NoMemory}
use Rattle.v_lex.specs.Reading.{refusal_of}
use Rattle.v_lex.specs.declared.fault.Fault.{Fault}
use Rattle.v_lex.specs.Answer.{IsAnswer, IsOfKind, IsNoted, IsNotedSomewhere}

pub answered : (k : LexKind) (s : LexStop) (o : Result (List pure.Token) texts.Refusal) → IsOfKind k s → o ≡ Err (refusal_of k) → IsAnswer (Err s) o
answered k (Refused r) o is e = e ∙ ap (λ (x : LexKind). Err (refusal_of x)) (sym is)
answered k NoMemory o is e = tt

pub noted_somewhere : (files : List (List ℕ)) (f : Fault) (s : LexStop) → IsNoted files f s → IsNotedSomewhere files s
noted_somewhere files f (Refused r) noted = (f, noted)
noted_somewhere files f NoMemory noted = tt

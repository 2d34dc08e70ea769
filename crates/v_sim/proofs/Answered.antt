-- Answers about scripts.
use Rattle.std.proofs.Common.{◌≡◌, ℕ, List, Vec, Global, Some, Err, refl, sym, subst}
use Rattle.verilog_meaning.specs.Settled.{Design}
use Rattle.scripts.specs.Script.{Settables, ScriptReading, is_script, script_reading}
use Rattle.design_scripts.specs.Simulation.{IsTold}
use Rattle.ila_file.specs.Places.{note_text}
use Rattle.ila_sim.specs.Faults.{script_note}
use Rattle.ila_sim.specs.declared.script.Script.{Script}
use Rattle.ila_sim.specs.declared.refusal.ScriptKind.{ScriptKind}
use Rattle.ila_sim.specs.declared.refusal.ScriptKind.TheVariants.{BadLine, MissingInput}
use Rattle.ila_sim.specs.declared.refusal.ScriptRefusal.{ScriptRefusal}
use Rattle.ila_sim.specs.declared.whole.Simulation.TheVariants.{Text, Refused}
use Rattle.ila_sim.specs.declared.refusal.ScriptStop.{ScriptStop}
use Rattle.ila_sim.specs.declared.refusal.ScriptStop.TheVariants as stops
use Rattle.ila_sim.specs.Noted.{IsNoted}
use Rattle.ila_sim.specs.Scripts.{script_view, IsRefused, IsAnswered}
use Rattle.v_sim.specs.Whole.{IsAnswer}

pub told_answer : (d : Design) (seen n : Settables) (bytes : List ℕ) (s : Script) (text : Vec ℕ Global) (t : List ℕ) → seen ≡ n
    → script_reading seen bytes ≡ is_script (script_view seen s) → text.items ≡ t → IsTold d n (script_view n s) t → IsAnswer d n (script_reading n bytes) (Text text)
told_answer d seen n bytes s text t v r e h =
    subst (λ reading. IsAnswer d n reading (Text text)) (sym (subst (λ m. script_reading m bytes ≡ is_script (script_view m s)) v r))
    (subst (λ u. IsTold d n (script_view n s) u) (sym e) h)

refused_as : (d : Design) (n : Settables) (reading : ScriptReading) (refusal : ScriptRefusal) (k : ScriptKind) → refusal.kind ≡ k → IsRefused k reading
    → IsAnswer d n reading (Refused refusal)
refused_as d n reading refusal BadLine e h = subst (λ r. IsAnswer d n r (Refused refusal)) (sym h) e
refused_as d n reading refusal MissingInput e h = subst (λ r. IsAnswer d n r (Refused refusal)) (sym h) e

pub refused_answer : (d : Design) (seen n : Settables) (bytes : List ℕ) (refusal : ScriptRefusal) → seen ≡ n → IsRefused refusal.kind (script_reading seen bytes)
    → IsAnswer d n (script_reading n bytes) (Refused refusal)
refused_answer d seen n bytes refusal v h =
    refused_as d n (script_reading n bytes) refusal refusal.kind refl (subst (λ m. IsRefused refusal.kind (script_reading m bytes)) v h)

pub refused_by : (seen : Settables) (bytes : List ℕ) (stop : ScriptStop) (refusal : ScriptRefusal) → stop ≡ stops.Refused refusal → IsAnswered seen (Err stop) (script_reading seen bytes)
    → IsRefused refusal.kind (script_reading seen bytes)
refused_by seen bytes stop refusal e h = subst (λ t. IsAnswered seen (Err t) (script_reading seen bytes)) e h

pub noted_by : (seen : Settables) (bytes : List ℕ) (stop : ScriptStop) (refusal : ScriptRefusal) → stop ≡ stops.Refused refusal → IsNoted seen bytes stop
    → script_note refusal.kind seen bytes ≡ Some (note_text refusal.note)
noted_by seen bytes stop refusal e h = subst (λ t. IsNoted seen bytes t) e h

pub refused_note : (seen n : Settables) (bytes : List ℕ) (refusal : ScriptRefusal) → seen ≡ n → script_note refusal.kind seen bytes ≡ Some (note_text refusal.note)
    → script_note refusal.kind n bytes ≡ Some (note_text refusal.note)
refused_note seen n bytes refusal v h = subst (λ m. script_note refusal.kind m bytes ≡ Some (note_text refusal.note)) v h

-- What the code's faults and the notes of its refusals are seen as.
use Rattle.std.specs.Prelude.{◌≡◌, ⊤, List, ℕ, Some}
use Rattle.scripts.specs.Script.{Settables}
use Rattle.ila_file.specs.Places.{note_text}
use Rattle.ila_sim.specs.Faults as pure
use Rattle.ila_sim.specs.Faults.{script_note}
use Rattle.ila_sim.specs.declared.place.Fault.{Fault}
use Rattle.ila_sim.specs.declared.refusal.ScriptStop.{ScriptStop}
use Rattle.ila_sim.specs.declared.refusal.ScriptStop.TheVariants.{Refused, NoMemory}

abbrev pub fault_view : Fault → pure.Fault
fault_view f = record { word = f.word.now; says = f.says.now }

-- The note of a refusal of the bytes leads to what is refused.
abbrev pub IsNoted : Settables → List ℕ → ScriptStop → Type 0
IsNoted names bytes (Refused r) = script_note r.kind names bytes ≡ Some (note_text r.note)
IsNoted names bytes NoMemory = ⊤

-- What the code's scripts stand for.
use Rattle.std.specs.Prelude.{ℕ, ◌≡◌, ⊤, IsTrue, List, map, codes, Result, Ok, Err}
use Rattle.std.specs.List.{list_all}
use Rattle.scripts.specs.Script as meaning
use Rattle.scripts.specs.Script.{Settables, ScriptReading, is_script, bad_line, missing_input}
use Rattle.ila_sim.specs.declared.script.Script.{Script}
use Rattle.ila_sim.specs.declared.refusal.ScriptKind.{ScriptKind}
use Rattle.ila_sim.specs.declared.refusal.ScriptKind.TheVariants.{BadLine, MissingInput}
use Rattle.ila_sim.specs.declared.refusal.ScriptStop.{ScriptStop}
use Rattle.ila_sim.specs.declared.refusal.ScriptStop.TheVariants.{Refused, NoMemory}
use Rattle.ila_sim.specs.Lines.{sets_view}
use Rattle.ila_sim.specs.Sets.{are_right}

-- The script, whose settings are of these names.
abbrev pub script_view : Settables → Script → meaning.Script
script_view n s = record { state = sets_view n.states s.state.items; inputs = map (λ ss. sets_view n.inputs ss.items) s.inputs.items }

-- The settings of the script are of these names: of words that they have, to values that fit.
abbrev pub IsScriptWithin : Settables → Script → Type 0
IsScriptWithin n s = IsTrue (are_right n.states s.state.items) × IsTrue (list_all (λ ss. are_right n.inputs ss.items) s.inputs.items)

abbrev pub IsRefused : ScriptKind → ScriptReading → Type 0
IsRefused BadLine r = r ≡ bad_line
IsRefused MissingInput r = r ≡ missing_input

-- what is answered about a script, beside its reading
abbrev pub IsAnswered : Settables → Result Script ScriptStop → ScriptReading → Type 0
IsAnswered n (Ok s) r = r ≡ is_script (script_view n s)
IsAnswered n (Err (Refused refusal)) r = IsRefused refusal.kind r
IsAnswered n (Err NoMemory) r = ⊤

-- a refusal of this kind, or want of memory
abbrev pub IsStopOf : ScriptKind → ScriptStop → Type 0
IsStopOf kind (Refused refusal) = refusal.kind ≡ kind
IsStopOf kind NoMemory = ⊤

abbrev pub name_of_kind : ScriptKind → List ℕ
name_of_kind BadLine = codes "S1 BadLine"
name_of_kind MissingInput = codes "S2 MissingInput"

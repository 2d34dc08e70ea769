-- What the calls answer of a map file, beside its reading.
use Rattle.std.specs.Prelude.{◌≡◌, ⊤, ℕ, List, Option, Some, None, option_and_then, Result, Ok, Err}
use Rattle.serde_json.specs.Data.{Data}
use Rattle.model_places.specs.Sites.{Spot}
use Rattle.ila_file.specs.Places.{note_text}
use Rattle.map_files.specs.Meaning.{MapRule, BadShape, UnknownKey, MapReading, says, refused_by, judged_document}
use Rattle.map_file.specs.Places.{spot_note, shape_note, unknown_key_note}
use Rattle.map_file.specs.Rule.{rule_view}
use Rattle.map_file.specs.View.{map_view, heads_view}
use Rattle.map_file.specs.declared.stop.Stop.{Stop}
use Rattle.map_file.specs.declared.stop.Stop.TheVariants as pieces
use Rattle.map_file.specs.declared.stop.MapStop.{MapStop}
use Rattle.map_file.specs.declared.stop.MapStop.TheVariants.{Refused, NoMemory}
use Rattle.map_file.specs.declared.written.WrittenMap.{WrittenMap}
use Rattle.map_file.specs.declared.heads.Heads.{Heads}

-- A reading of a piece gives the value that the data stands for, or refuses where there is none, or wants memory.
abbrev pub IsReading : {T A : Type 0} → (T → A) → Result T Stop → Option A → Type 0
IsReading view (Ok x) wanted = wanted ≡ Some (view x)
IsReading view (Err pieces.Refused) wanted = wanted ≡ None
IsReading view (Err pieces.Memory) wanted = ⊤

-- The reading is the refusal at which a call stopped, unless that was for want of memory.
abbrev pub IsStoppedBy : MapStop → MapReading → Type 0
IsStoppedBy (Refused r) reading = reading ≡ refused_by (rule_view r.rule)
IsStoppedBy NoMemory reading = ⊤

-- the data of the bytes, by a view of it, or the refusal of bytes that have none
abbrev pub IsDocument : {T : Type 0} → (T → Data) → Result T MapStop → Option Data → Type 0
IsDocument view (Ok x) d = d ≡ Some (view x)
IsDocument view (Err s) d = IsStoppedBy s (judged_document d)

-- the written map, or the refusal
abbrev pub IsWritten : Result WrittenMap MapStop → MapReading → Type 0
IsWritten (Ok m) reading = reading ≡ says (map_view m)
IsWritten (Err s) reading = IsStoppedBy s reading

-- the heads of the map that the bytes say, or the refusal
abbrev pub IsHeadsRead : Result Heads MapStop → MapReading → Type 0
IsHeadsRead (Ok h) reading = reading ≡ says (heads_view h)
IsHeadsRead (Err s) reading = IsStoppedBy s reading

-- ---- notes

-- a refusal by this rule, with the note of this spot
abbrev pub IsRefusalAt : MapRule → Spot → MapStop → Type 0
IsRefusalAt rule spot (Refused r) = (rule_view r.rule ≡ rule) × (note_text r.note ≡ spot_note spot)
IsRefusalAt rule spot NoMemory = ⊤

-- The text is the note of a file's data by the rule: of the first place at which something of another kind stands, or of the first
-- unknown key. Of the rule BadJson nothing is said, and no later rule refuses a file alone.
abbrev pub IsNoteOf : MapRule → Option Data → List ℕ → Type 0
IsNoteOf BadShape o text = option_and_then shape_note o ≡ Some text
IsNoteOf UnknownKey o text = option_and_then unknown_key_note o ≡ Some text
IsNoteOf rule o text = ⊤

-- The note of a refusal of the data leads to the place that its rule gives.
abbrev pub IsNoted : Option Data → MapStop → Type 0
IsNoted o (Refused r) = IsNoteOf (rule_view r.rule) o (note_text r.note)
IsNoted o NoMemory = ⊤

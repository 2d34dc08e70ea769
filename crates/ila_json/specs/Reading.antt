-- What the calls answer of a model file, beside its reading.
use Rattle.std.specs.Prelude.{◌≡◌, ℕ, true, ⊤, List, Option, Some, None, option_map, option_and_then, IfSome, Result, Ok, Err}
use Rattle.serde_json.specs.Data.{Data}
use Rattle.model_files.specs.Meaning as meaning
use Rattle.model_files.specs.Shape.{model_in}
use Rattle.model_files.specs.Written.{WrittenModel as PureModel}
use Rattle.model_files.specs.Meaning.{ModelReading, stands_for, refused_by, ModelRule, BadJson, BadShape, UnknownKey, broken_rule, of_document}
use Rattle.model_places.specs.First.{first_note}
use Rattle.model_places.specs.KeyPlaces.{unknown_key_note}
use Rattle.model_places.specs.ShapePlaces.{shape_note}
use Rattle.ila_file.specs.Places.{note_text}
use Rattle.ila_file.specs.declared.written.WrittenModel.{WrittenModel}
use Rattle.ila_file.specs.View.{model_view}
use Rattle.ila_rules.specs.Rule.{rule_view}
use Rattle.ila_rules.specs.declared.rule.ModelRefusal.{ModelRefusal}
use Rattle.ila_model.specs.declared.model.IlaModel.{IlaModel}
use Rattle.ila_model.specs.Model.{model_of}
use Rattle.ila_whole.specs.Shaped.{is_shaped}
use Rattle.ila_json.specs.declared.stop.ModelStop.{ModelStop}
use Rattle.ila_json.specs.declared.stop.ModelStop.TheVariants.{Refused, NoMemory}

-- None where the bytes stand for a model.
abbrev pub refusal_in : ModelReading → Option ModelRule
refusal_in (stands_for m) = None
refusal_in (refused_by rule) = Some rule

-- what the code found is the refusal of the reading
abbrev pub IsRefusalIn : Option ModelRefusal → ModelReading → Type 0
IsRefusalIn found reading = option_map (λ r. rule_view r.rule) found ≡ refusal_in reading

-- The reading is the refusal at which a call stopped, unless that was for want of memory.
abbrev pub IsStoppedBy : ModelStop → ModelReading → Type 0
IsStoppedBy (Refused r) reading = reading ≡ refused_by (rule_view r.rule)
IsStoppedBy NoMemory reading = ⊤

-- the data of the bytes, by a view of it, or the refusal of bytes that have none
abbrev pub IsDocument : {T : Type 0} → (T → Data) → Result T ModelStop → Option Data → Type 0
IsDocument view (Ok x) d = d ≡ Some (view x)
IsDocument view (Err s) d = IsStoppedBy s (of_document d)

-- the written model, which no rule refuses, or the refusal
abbrev pub IsWritten : Result WrittenModel ModelStop → ModelReading → Type 0
IsWritten (Ok w) reading = (reading ≡ stands_for (meaning.model_of (model_view w))) × (broken_rule (model_view w) ≡ None) × (is_shaped (model_view w) ≡ true)
IsWritten (Err s) reading = IsStoppedBy s reading

-- the model that the bytes stand for, or the refusal
abbrev pub IsModelRead : Result IlaModel ModelStop → ModelReading → Type 0
IsModelRead (Ok m) reading = reading ≡ stands_for (model_of m)
IsModelRead (Err s) reading = IsStoppedBy s reading

-- ---- notes

-- The text is the note of a file's data, of the written model m, by the rule: of the first place at which something of another kind
-- stands, of the first unknown key, or of the first place at which a later rule is broken. Of the rule BadJson nothing is said.
abbrev pub IsNoteBy : ModelRule → Data → PureModel → List ℕ → Type 0
IsNoteBy BadJson d m text = ⊤
IsNoteBy BadShape d m text = shape_note d ≡ Some text
IsNoteBy UnknownKey d m text = unknown_key_note d ≡ Some text
IsNoteBy rule d m text = first_note rule m ≡ Some text

-- the same of the data of a file, whatever it is
abbrev pub IsNoteOf : ModelRule → Option Data → List ℕ → Type 0
IsNoteOf BadJson o text = ⊤
IsNoteOf BadShape o text = option_and_then shape_note o ≡ Some text
IsNoteOf UnknownKey o text = option_and_then unknown_key_note o ≡ Some text
IsNoteOf rule o text = option_and_then (first_note rule) (option_and_then model_in o) ≡ Some text

-- The note of a refusal of the data leads to the place that its rule gives.
abbrev pub IsNoted : Option Data → ModelStop → Type 0
IsNoted o (Refused r) = IsNoteOf (rule_view r.rule) o (note_text r.note)
IsNoted o NoMemory = ⊤

-- a refusal that was found is noted so
abbrev pub IsFoundNoted : Data → PureModel → Option ModelRefusal → Type 0
IsFoundNoted d m found = IfSome found (λ r. IsNoteBy (rule_view r.rule) d m (note_text r.note))

-- What a reading of the code gives, beside what the data stands for.
use Rattle.std.specs.Prelude.{◌≡◌, ⊤, Option, Some, None, Result, Ok, Err}
use Rattle.serde_json.specs.Data.{Data}
use Rattle.model_places.specs.ShapePlaces.{shape_note}
use Rattle.ila_file.specs.Places.{note_text}
use Rattle.ila_file.specs.declared.stop.ShapeStop.{ShapeStop}
use Rattle.ila_file.specs.declared.stop.ShapeStop.TheVariants as shapes
use Rattle.ila_file.specs.declared.stop.Stop.{Stop}
use Rattle.ila_file.specs.declared.stop.Stop.TheVariants.{Memory, Refused}

-- It gives the value that the data stands for, or refuses where there is none, or wants memory.
abbrev pub IsReading : {T A : Type 0} → (T → A) → Result T Stop → Option A → Type 0
IsReading view (Ok x) wanted = wanted ≡ Some (view x)
IsReading view (Err Refused) wanted = wanted ≡ None
IsReading view (Err Memory) wanted = ⊤

-- the same where a refusal has a note
abbrev pub IsNotedReading : {T A : Type 0} → (T → A) → Result T ShapeStop → Option A → Type 0
IsNotedReading view (Ok x) wanted = wanted ≡ Some (view x)
IsNotedReading view (Err (shapes.Refused note)) wanted = wanted ≡ None
IsNotedReading view (Err shapes.NoMemory) wanted = ⊤

-- The note of a refusal of the data leads to the first place at which something of another kind stands.
abbrev pub IsShapeNoted : Data → ShapeStop → Type 0
IsShapeNoted d (shapes.Refused note) = shape_note d ≡ Some (note_text note)
IsShapeNoted d shapes.NoMemory = ⊤

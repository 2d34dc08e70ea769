-- What the bytes of a map file say: a written map, or the first of the rules on files that refuses them.
use Rattle.std.specs.Prelude.{◌≡◌, ℕ, cond, List, Option, Some, None}
use Rattle.serde_json.specs.Data.{Data}
use Rattle.model_files.specs.Shape.{document}
use Rattle.map_files.specs.Written.{WrittenMap}
use Rattle.map_files.specs.Shape.{map_in}
use Rattle.map_files.specs.Keys.{map_has_unknown_key}

-- The rules on maps, in the order in which they are judged, each over the whole file before the next. The first three are rules on the
-- file alone. The others ask for a model and a design besides.
pub data MapRule : Type 0 where
  BadJson BadShape UnknownKey : MapRule
  UnknownState StateUnmapped UnknownInput InputUnmapped : MapRule
  BadExpression WidthMismatch MapUsesInput MemoryMismatch : MapRule
  UnknownInstruction BoundMissing BadBound : MapRule

-- What a file is before a model and a design are at hand: a written map, or refused by the first rule that it breaks.
pub data MapReading : Type 0 where
  says : WrittenMap → MapReading
  refused_by : MapRule → MapReading

abbrev pub judged_keys : Data → WrittenMap → MapReading
judged_keys d m = cond (map_has_unknown_key d) (refused_by UnknownKey) (says m)

abbrev pub judged_shape : Data → Option WrittenMap → MapReading
judged_shape d None = refused_by BadShape
judged_shape d (Some m) = judged_keys d m

abbrev pub judged_document : Option Data → MapReading
judged_document None = refused_by BadJson
judged_document (Some d) = judged_shape d (map_in d)

-- The reading of a map file's bytes.
abbrev pub map_reading : List ℕ → MapReading
map_reading bytes = judged_document (document bytes)

-- The bytes say this map: none of the first three rules refuses them.
abbrev pub SaysMap : List ℕ → WrittenMap → Type 0
SaysMap bytes m = map_reading bytes ≡ says m

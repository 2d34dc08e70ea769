-- When the parts of a model are those of a written one.
use Rattle.std.specs.Prelude.{◌≡◌, true, None}
use Rattle.model_files.specs.Written.{WrittenModel}
use Rattle.model_files.specs.Meaning.{broken_rule, model_of}
use Rattle.ila_model.specs.declared.parts.Parts.{Parts}
use Rattle.ila_model.specs.Meaning.{model_from}
use Rattle.ila_model.specs.Sorted.{is_well_sorted}
use Rattle.ila_whole.specs.Shaped.{is_shaped}

-- Where no rule refuses the written model, the parts, under its name, are the model that it stands for.
unfoldable pub ArePartsOf : WrittenModel → Parts → Type 0
ArePartsOf m p = broken_rule m ≡ None → model_from m.model_name p ≡ model_of m

-- No rule refuses the written model, and it has the shape of a file's.
abbrev pub IsFit : WrittenModel → Type 0
IsFit m = (broken_rule m ≡ None) × (is_shaped m ≡ true)

-- There the parts are well sorted.
unfoldable pub AreSortedParts : WrittenModel → Parts → Type 0
AreSortedParts m p = IsFit m → is_well_sorted p ≡ true

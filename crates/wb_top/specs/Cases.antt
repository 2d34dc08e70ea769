-- What the code's case of some files says of them.
use Rattle.std.specs.Prelude.{ℕ, List, Some}
use Rattle.check_cases.specs.Files.{IsKindOfFiles}
use Rattle.read_cases.specs.Told.{IsCaseOf}
use Rattle.wb_top.specs.Texts.{IsRefusalBy}
use Rattle.wb_top.specs.declared.cases.Case.{Case}
use Rattle.wb_top.specs.declared.cases.Case.TheVariants.{Setting, Refused}

-- A model and a design with its map, which are those of the files; or the text of a refusal by the first kind that refuses them.
abbrev pub IsCase : (m p : List ℕ) → List (List ℕ) → Case → Type 0
IsCase m p ds (Setting model mapped) = IsCaseOf m p ds model mapped
IsCase m p ds (Refused text) = (kind : List ℕ) × IsKindOfFiles m p ds (Some kind) × IsRefusalBy kind text.items

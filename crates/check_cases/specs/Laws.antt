-- The laws on what files stand for, and on the kinds by which they are refused.
use Rattle.std.specs.Prelude.{◌≡◌, ℕ, List, Option, Some}
use Rattle.refinement.specs.Map.{Setting}
use Rattle.check_cases.specs.Files.{IsSettingOf, IsKindOfFiles}

-- Files stand for at most one setting.
abbrev pub FilesAreOneSetting : Type 0
FilesAreOneSetting = (m p : List ℕ) (ds : List (List ℕ)) (s t : Setting) → IsSettingOf m p ds s → IsSettingOf m p ds t → s ≡ t

-- Files have at most one first kind.
abbrev pub FilesHaveOneKind : Type 0
FilesHaveOneKind = (m p : List ℕ) (ds : List (List ℕ)) (k l : Option (List ℕ)) → IsKindOfFiles m p ds k → IsKindOfFiles m p ds l → k ≡ l

-- Files that stand for a setting are refused by no kind.
abbrev pub SettingsAreNotRefused : Type 0
SettingsAreNotRefused =
    (m p : List ℕ) (ds : List (List ℕ)) (s : Setting) (kind : List ℕ) → IsSettingOf m p ds s → ¬ IsKindOfFiles m p ds (Some kind)

-- Names with their new names as texts.
use Rattle.std.specs.Prelude.{◌≡◌, List, [], ◌∷◌, map, ⊤}
use Rattle.std.specs.String.{string_bytes}
use Rattle.wb_values.specs.Value.{Name}
use Rattle.map_uses.specs.declared.names.NewText.{NewText}

abbrev pub old_names : List NewText → List Name
old_names xs = map (λ x. x.name.now) xs

-- the text of each is the new name of its name
abbrev pub AreNewTexts : (new : Name → Name) → List NewText → Type 0
AreNewTexts new [] = ⊤
AreNewTexts new (x ∷ xs) = (string_bytes x.text ≡ new x.name.now) × AreNewTexts new xs

-- Texts that follow others, with commas between them.
use Rattle.std.specs.Prelude.{ℕ, zero, suc, List, [], ◌∷◌, ◌++◌}
use Rattle.wb_values.specs.Value.{Name, Value}
use Rattle.reports.specs.Report.{with_commas, member_text, value_text}

-- each text after a comma
abbrev pub after_comma : List (List ℕ) → List ℕ
after_comma [] = []
after_comma (text ∷ texts) = 44 ∷ (text ++ after_comma texts)

-- what stands in front of a text: a comma, if there are texts before it
abbrev pub comma_after : ℕ → List ℕ
comma_after zero = []
comma_after (suc n) = 44 ∷ []

-- the rest of a list of texts, of which so many are written
abbrev pub rest_after : ℕ → List (List ℕ) → List ℕ
rest_after zero texts = with_commas texts
rest_after (suc n) texts = after_comma texts

abbrev pub entry_text : Name × Value → List ℕ
entry_text e = member_text e.0 (value_text e.1)

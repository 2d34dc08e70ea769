-- Refusals of model files: the rule, and the note of the first place, in the order in which a model is gone through, at which it is
-- broken.
use Rattle.std.specs.Prelude.{◌≡◌, ℕ, List, Option, Some, option_map, IfSome}
use Rattle.model_files.specs.Meaning.{ModelRule}
use Rattle.model_files.specs.Written.{WrittenModel}
use Rattle.model_places.specs.First.{first_note}
use Rattle.ila_file.specs.Places.{note_text}
use Rattle.ila_rules.specs.Rule.{rule_view}
use Rattle.ila_rules.specs.declared.rule.ModelRefusal.{ModelRefusal}

-- a refusal as its rule and the text of its note
abbrev pub refusal_view : ModelRefusal → ModelRule × List ℕ
refusal_view r = (rule_view r.rule, note_text r.note)

-- a rule with the text of a note, where there is one
abbrev pub noted : ModelRule → Option (List ℕ) → Option (ModelRule × List ℕ)
noted rule note = option_map (λ t. (rule, t)) note

-- The note leads to the first place at which the rule is broken.
abbrev pub IsNotedIn : WrittenModel → Option (ModelRule × List ℕ) → Type 0
IsNotedIn m found = IfSome found (λ r. first_note r.0 m ≡ Some r.1)

-- What is known of a reading by the refusal that was found, or by finding none, and of its note.
use Rattle.std.proofs.Common.{◌≡◌, ℕ, Bool, true, false, cond, List, [], ◌∷◌, Option, Some, None, option_map, option_and_then, refl, sym, ap, ◌∙◌, subst}
use Rattle.serde_json.specs.Data.{Data}
use Rattle.model_files.specs.Written.{WrittenModel}
use Rattle.model_files.specs.Keys.{model_has_unknown_key}
use Rattle.model_files.specs.Shape.{model_in}
use Rattle.model_places.specs.First.{breaks, first_among, first_note}
use Rattle.model_places.specs.KeyPlaces.{unknown_key_note}
use Rattle.model_places.specs.ShapePlaces.{shape_note}
use Rattle.model_places.specs.Notes.{site_note}
use Rattle.model_places.specs.Parts.{Thing, ModelPart, parts_of_model}
use Rattle.model_files.specs.Meaning.{ModelReading, stands_for, refused_by, ModelRule, BadJson, BadShape, UnknownKey, BadName, DuplicateName, UnknownName, BadWidth, BadSort, BadNumber, MemoryCopy, TooDeepChild, BadSteps, model_of, broken_rule, judged_by, with_known_keys}
use Rattle.ila_json.specs.Reading.{refusal_in, IsNoteBy, IsNoteOf}

pub refusal_found : (x : ModelReading) (r : ModelRule) → Some r ≡ refusal_in x → x ≡ refused_by r
refusal_found (stands_for m) r h = cc
refusal_found (refused_by q) r h =
    let same : r ≡ q = cc in
    ap refused_by (sym same)

pub none_found : (d : Data) (m : WrittenModel) → None ≡ refusal_in (with_known_keys d m) → (with_known_keys d m ≡ stands_for (model_of m)) × (broken_rule m ≡ None)
none_found d m h = by_test (model_has_unknown_key d) (broken_rule m) h where
  by_test : (b : Bool) (o : Option ModelRule) → None ≡ refusal_in (cond b (refused_by UnknownKey) (judged_by m o)) → (cond b (refused_by UnknownKey) (judged_by m o) ≡ stands_for (model_of m)) × (o ≡ None)
  by_test true o h = cc
  by_test false (Some r) h = cc
  by_test false None h = (refl, refl)

-- ---- notes

-- what no part of a written model breaks has no note
no_part : (is_broken : List Thing → Thing → Bool) → ((before : List Thing) (t : Thing) → is_broken before t ≡ false) → (before : List Thing) (ps : List ModelPart) → first_among is_broken before ps ≡ None
no_part is_broken h before [] = refl
no_part is_broken h before (p ∷ ps) =
    ap (λ b. cond b (Some p.site) (first_among is_broken (p.thing ∷ before) ps)) (h before p.thing) ∙ no_part is_broken h (p.thing ∷ before) ps

no_note : (rule : ModelRule) (m : WrittenModel) (text : List ℕ) → ((before : List Thing) (t : Thing) → breaks rule before t ≡ false) → first_note rule m ≡ Some text → ⊥
no_note rule m text none h = clash (first_note rule m) (ap (option_map site_note) (no_part (breaks rule) none [] (parts_of_model m))) h where
  clash : (o : Option (List ℕ)) → o ≡ None → o ≡ Some text → ⊥
  clash None e g = cc
  clash (Some t) e g = cc

-- the note of a later rule
pub note_later : (rule : ModelRule) (d : Data) (m : WrittenModel) (text : List ℕ) → first_note rule m ≡ Some text → IsNoteBy rule d m text
note_later BadJson d m text h = tt
note_later BadShape d m text h = absurd (no_note BadShape m text (λ before t. refl) h)
note_later UnknownKey d m text h = absurd (no_note UnknownKey m text (λ before t. refl) h)
note_later BadName d m text h = h
note_later DuplicateName d m text h = h
note_later UnknownName d m text h = h
note_later BadWidth d m text h = h
note_later BadSort d m text h = h
note_later BadNumber d m text h = h
note_later MemoryCopy d m text h = h
note_later TooDeepChild d m text h = h
note_later BadSteps d m text h = h

later_in : (rule : ModelRule) (d : Data) (m : WrittenModel) (text : List ℕ) → model_in d ≡ Some m → first_note rule m ≡ Some text
    → option_and_then (first_note rule) (model_in d) ≡ Some text
later_in rule d m text e h = ap (option_and_then (first_note rule)) e ∙ h

-- the note of a file's data by that of its written model
pub note_of_data : (rule : ModelRule) (d : Data) (m : WrittenModel) (text : List ℕ) → model_in d ≡ Some m → IsNoteBy rule d m text → IsNoteOf rule (Some d) text
note_of_data BadJson d m text e h = tt
note_of_data BadShape d m text e h = h
note_of_data UnknownKey d m text e h = h
note_of_data BadName d m text e h = later_in BadName d m text e h
note_of_data DuplicateName d m text e h = later_in DuplicateName d m text e h
note_of_data UnknownName d m text e h = later_in UnknownName d m text e h
note_of_data BadWidth d m text e h = later_in BadWidth d m text e h
note_of_data BadSort d m text e h = later_in BadSort d m text e h
note_of_data BadNumber d m text e h = later_in BadNumber d m text e h
note_of_data MemoryCopy d m text e h = later_in MemoryCopy d m text e h
note_of_data TooDeepChild d m text e h = later_in TooDeepChild d m text e h
note_of_data BadSteps d m text e h = later_in BadSteps d m text e h

-- of the rule BadJson nothing is said
pub note_of_json : (rule : ModelRule) (o : Option Data) (text : List ℕ) → rule ≡ BadJson → IsNoteOf rule o text
note_of_json rule o text e = subst (λ r. IsNoteOf r o text) (sym e) tt

pub note_of_shape : (rule : ModelRule) (d : Data) (text note : List ℕ) → rule ≡ BadShape → text ≡ note → shape_note d ≡ Some note → IsNoteOf rule (Some d) text
note_of_shape rule d text note e f h = subst (λ r. IsNoteOf r (Some d) text) (sym e) (h ∙ ap (λ t. Some t) (sym f))

pub note_of_key : (rule : ModelRule) (d : Data) (m : WrittenModel) (text note : List ℕ) → rule ≡ UnknownKey → text ≡ note → Some note ≡ unknown_key_note d → IsNoteBy rule d m text
note_of_key rule d m text note e f h = subst (λ r. IsNoteBy r d m text) (sym e) (sym h ∙ ap (λ t. Some t) (sym f))

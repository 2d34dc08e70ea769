-- What a model file says to emit, and what an emission ends with.
use Rattle.std.specs.Prelude.{◌≡◌, ℕ, Bool, true, false, cond, List, [], ◌∷◌, ◌++◌, codes}
use Rattle.model_meaning.specs.Model.{Model}
use Rattle.model_files.specs.Meaning.{ModelReading, stands_for, refused_by, model_reading}
use Rattle.ila_rules.specs.Rule.{rule_name}
use Rattle.emitted_designs.specs.Bounds.{has_children}
use Rattle.emitted_designs.specs.Map.{written_map, map_text}
use Rattle.ila_emit.specs.Emission.{IsEmittedText}
use Rattle.wb_top.specs.Texts.{IsRefusalBy}
use Rattle.wb_top.specs.declared.status.Status.{Status}
use Rattle.wb_top.specs.declared.status.Status.TheVariants.{Done, Refused}

-- A model whose design is emitted; or the file is refused by the kind of this name.
pub data Subject : Type 0 where
  emits : Model → Subject
  refused : (kind : List ℕ) → Subject

-- the kind of models that are not emitted yet
abbrev pub not_yet_kind : List ℕ
not_yet_kind = codes "N1 NotYet"

-- A model with child programs is not emitted yet.
abbrev pub for_model : Model → Subject
for_model m = cond (has_children m) (refused not_yet_kind) (emits m)

-- A rule that refuses the model file comes first.
abbrev pub with_model : ModelReading → Subject
with_model (stands_for m) = for_model m
with_model (refused_by rule) = refused (rule_name rule)

unfoldable pub subject_of : (model_bytes : List ℕ) → Subject
subject_of m = with_model (model_reading m)

-- The text is the Verilog of an emitted design of the model; or, where the map alone is asked for, the text of its map and a line feed.
abbrev pub IsTextFor : Model → (map_only : Bool) → List ℕ → Type 0
IsTextFor m false text = IsEmittedText m text
IsTextFor m true text = text ≡ map_text (written_map m) ++ 10 ∷ []

-- Done: the text that is asked for. Refused: by this kind.
abbrev pub IsEmitted : (map_only : Bool) → Subject → Status → List ℕ → Type 0
IsEmitted map_only (emits m) Done text = IsTextFor m map_only text
IsEmitted map_only (refused kind) Refused text = IsRefusalBy kind text
IsEmitted map_only _ status text = ⊥

-- of the one file
abbrev pub AreEmitted : (map_only : Bool) → List (List ℕ) → Status → List ℕ → Type 0
AreEmitted map_only (m ∷ []) status text = IsEmitted map_only (subject_of m) status text
AreEmitted map_only _ status text = ⊥

-- What is told of a model answers its emission.
use Rattle.std.proofs.Common.{◌≡◌, ◌∙◌, ◌<◌, ◌++◌, ℕ, Bool, cond, true, false, List, [], ◌∷◌, ap, lt-ltb, nat_lt, subst, sym}
use Rattle.model_meaning.specs.Model.{Model}
use Rattle.emitted_designs.specs.Bounds.{nesting_of}
use Rattle.emitted_designs.specs.Map.{written_map, map_text}
use Rattle.ila_emit.specs.Emission.{IsEmittedText}
use Rattle.wb_top.specs.Texts.{IsRefusalBy}
use Rattle.wb_top.specs.Emitted.{Subject, emits, refused, not_yet_kind, for_model, IsTextFor, IsEmitted}
use Rattle.wb_top.specs.declared.status.Status.{Status}
use Rattle.wb_top.specs.declared.status.Status.TheVariants.{Done, Refused}

without_children : (m : Model) → nesting_of m.top ≡ 0 → for_model m ≡ emits m
without_children m none = ap (λ n. cond (nat_lt 0 n) (refused not_yet_kind) (emits m)) none

with_children : (m : Model) → 0 < nesting_of m.top → for_model m ≡ refused not_yet_kind
with_children m some = ap (λ b. cond b (refused not_yet_kind) (emits m)) (lt-ltb 0 (nesting_of m.top) some)

-- of a model without child programs the text that is asked for
pub emitted_by : (m : Model) (map_only : Bool) (verilog refinement_map text : List ℕ) (status : Status)
    → nesting_of m.top ≡ 0 → IsEmittedText m verilog → refinement_map ≡ map_text (written_map m)
    → text ≡ cond map_only (refinement_map ++ 10 ∷ []) verilog → status ≡ Done → IsEmitted map_only (for_model m) status text
emitted_by m map_only verilog refinement_map text status none is_text is_map is done =
    subst (λ (s : Status). IsEmitted map_only (for_model m) s text) (sym done)
    (subst (λ (x : Subject). IsEmitted map_only x Done text) (sym (without_children m none)) (asked map_only is))
  where
    asked : (b : Bool) → text ≡ cond b (refinement_map ++ 10 ∷ []) verilog → IsTextFor m b text
    asked true same = same ∙ ap (λ (t : List ℕ). t ++ 10 ∷ []) is_map
    asked false same = subst (IsEmittedText m) (sym same) is_text

-- a model with child programs is refused
pub not_yet : (m : Model) (map_only : Bool) (text : List ℕ) (status : Status) → 0 < nesting_of m.top → IsRefusalBy not_yet_kind text
    → status ≡ Refused → IsEmitted map_only (for_model m) status text
not_yet m map_only text status some by is =
    subst (λ (s : Status). IsEmitted map_only (for_model m) s text) (sym is)
    (subst (λ (x : Subject). IsEmitted map_only x Refused text) (sym (with_children m some)) by)

-- What is known of a map file's reading by its shape and its first unknown key.
use Rattle.std.proofs.Common.{◌≡◌, true, false, cond, Some, None, is_some, is_none, sym, ap, ◌∙◌, subst, Err}
use Rattle.serde_json.specs.Data.{Data}
use Rattle.model_places.specs.Sites.{Spot}
use Rattle.map_files.specs.Written.{WrittenMap}
use Rattle.map_files.specs.Shape.{map_in}
use Rattle.map_files.specs.Keys.{map_has_unknown_key}
use Rattle.map_files.specs.Meaning.{MapRule, UnknownKey, says, refused_by, judged_shape}
use Rattle.map_file.specs.Places.{shape_misfit, unknown_key_spot}
use Rattle.map_file.specs.Reading.{IsReading, IsStoppedBy, IsRefusalAt}
use Rattle.map_file.specs.declared.stop.Stop.{Stop}
use Rattle.map_file.specs.declared.stop.Stop.TheVariants as pieces
use Rattle.map_file.specs.declared.stop.MapStop.{MapStop}
use Rattle.map_file.specs.declared.stop.MapStop.TheVariants.{Refused, NoMemory}
use Rattle.map_file.proofs.Fitting.{misfit_of_no_map}
use Rattle.map_file.proofs.UnknownKeys.{spot_of_unknown_key}

pub misfit_of_refused : {T : Type 0} (view : T → WrittenMap) (s : Stop) (d : Data) → s ≡ pieces.Refused → IsReading view (Err s) (map_in d) → is_none (shape_misfit d) ≡ false
misfit_of_refused view pieces.Memory d e h = cc
misfit_of_refused view pieces.Refused d e h = misfit_of_no_map d h

stopped : (s : MapStop) (rule : MapRule) (spot : Spot) → IsRefusalAt rule spot s → IsStoppedBy s (refused_by rule)
stopped (Refused r) rule spot h = ap refused_by (sym h.0)
stopped NoMemory rule spot h = tt

pub with_unknown_key : (s : MapStop) (d : Data) (m : WrittenMap) (spot : Spot) → map_in d ≡ Some m → Some spot ≡ unknown_key_spot d → IsRefusalAt UnknownKey spot s
    → IsStoppedBy s (judged_shape d (map_in d))
with_unknown_key s d m spot e g h =
    let some : map_has_unknown_key d ≡ true = sym (spot_of_unknown_key d) ∙ ap is_some (sym g) in
    subst (IsStoppedBy s) (sym (ap (judged_shape d) e ∙ ap (λ b. cond b (refused_by UnknownKey) (says m)) some)) (stopped s UnknownKey spot h)

pub with_known_keys_alone : (d : Data) (m : WrittenMap) → map_in d ≡ Some m → None ≡ unknown_key_spot d → judged_shape d (map_in d) ≡ says m
with_known_keys_alone d m e g =
    let none : map_has_unknown_key d ≡ false = sym (spot_of_unknown_key d) ∙ ap is_some (sym g) in
    ap (judged_shape d) e ∙ ap (λ b. cond b (refused_by UnknownKey) (says m)) none

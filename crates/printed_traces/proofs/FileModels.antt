-- A model that a file stands for keeps the rules of models.
use Rattle.std.proofs.Common.{◌≡◌, ℕ, Bool, true, false, cond, List, Option, Some, None, refl, subst}
use Rattle.serde_json.specs.Data.{Data}
use Rattle.model_meaning.specs.Model.{Model}
use Rattle.model_meaning.specs.Invariant.{IsModel}
use Rattle.model_files.specs.Written.{WrittenModel}
use Rattle.model_files.specs.Shape.{document, model_in}
use Rattle.model_files.specs.Keys.{model_has_unknown_key}
use Rattle.model_files.specs.Meaning.{ModelRule, UnknownKey, ModelReading, stands_for, refused_by, model_of, broken_rule, judged_by, of_shape, of_document, ModelOf}
use Rattle.ila_whole.proofs.ShapeOf.{shaped_in}
use Rattle.ila_whole.proofs.Kept.{kept}

same_model : (m n : Model) → stands_for m ≡ stands_for n → m ≡ n
same_model m n e = cc

module _ (m : Model) where
  of_rules : (d : Data) (w : WrittenModel) → model_in d ≡ Some w → (broken : Option ModelRule) → broken_rule w ≡ broken → judged_by w broken ≡ stands_for m
      → IsModel m
  of_rules d w shape None unbroken e = subst IsModel (same_model (model_of w) m e) (kept w unbroken (shaped_in d w shape))
  of_rules d w shape (Some rule) broken e = cc

  of_keys : (unknown : Bool) (reading : ModelReading) → (reading ≡ stands_for m → IsModel m) → cond unknown (refused_by UnknownKey) reading ≡ stands_for m
      → IsModel m
  of_keys true reading f e = cc
  of_keys false reading f e = f e

  of_written : (d : Data) (w : Option WrittenModel) → model_in d ≡ w → of_shape d w ≡ stands_for m → IsModel m
  of_written d None shape e = cc
  of_written d (Some w) shape e = of_keys (model_has_unknown_key d) (judged_by w (broken_rule w)) (of_rules d w shape (broken_rule w) refl) e

  of_data : (d : Option Data) → of_document d ≡ stands_for m → IsModel m
  of_data None e = cc
  of_data (Some d) e = of_written d (model_in d) refl e

pub of_file : (bytes : List ℕ) (m : Model) → ModelOf bytes m → IsModel m
of_file bytes m e = of_data m (document bytes) e

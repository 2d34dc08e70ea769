-- Whether a signal of one bit is 1, or 0.
use Rattle.std.proofs.Common.{◌≡◌, ℕ, Bool, true, false, refl, subst}
use Rattle.std.specs.Prelude.{◌==◌}
use Rattle.wb_values.specs.Value.{word, Valuation}
use Rattle.wb_terms.specs.Graph.{Graph}
use Rattle.v_operators.specs.Meaning.{Grows, IsOfSort, HasNumber, HasTruth, Compares}
use Rattle.v_operators.proofs.Growing.{number_kept}
use mir.Val.{bool_byte}
use Rattle.map_file.specs.View.{level}
use Rattle.map_terms.specs.Terms.{IsResetTerm}

pub reset_made : (g h k : Graph) (net c active n id : ℕ) → IsOfSort g net (word 1) → Grows g h → n ≡ active → ((p : Valuation) → HasNumber h c 1 p n)
    → Compares h k net c 1 id (λ x y. x == y) → IsResetTerm g net active k id
reset_made g h k net c active n id sort grows same constant made =
    record {
      of_sort = made.of_sort;
      value = λ p x at. subst (λ y. HasTruth k id p (x == y)) same (made.value p x n (number_kept net 1 p x grows sort.below at) (constant p));
    }

pub byte_level : (b : Bool) → bool_byte b ≡ level b
byte_level true = refl
byte_level false = refl

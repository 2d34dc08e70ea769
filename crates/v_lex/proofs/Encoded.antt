-- Bytes that are not UTF-8.
use Rattle.std.proofs.Common.{◌≡◌, ℕ, List, Bool, true, false, refl}
use Rattle.std.specs.Str.{is_utf8, IsUtf8}
use Rattle.std.proofs.lemmas.Str.{IsUtf8-from_is_utf8}

pub not_encoded : (bs : List ℕ) → ¬ (IsUtf8 bs) → false ≡ is_utf8 bs
not_encoded bs h = shown (is_utf8 bs) (λ e. h (IsUtf8-from_is_utf8 bs e)) where
  shown : (t : Bool) → (t ≡ true → ⊥) → false ≡ t
  shown true f = absurd (f refl)
  shown false f = refl

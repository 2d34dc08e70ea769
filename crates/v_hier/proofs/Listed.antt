-- Lists of names that may all be used.
use Rattle.std.proofs.Common.{◌≡◌, ◌∙◌, refl, ap, Bool, true, false, ◌&&◌, List, [], ◌∷◌, ◌++◌}
use Rattle.wb_values.specs.Value.{Name}
use Rattle.v_hier.specs.Reading.{all_known}

pub and-true : (b : Bool) → b && true ≡ b
and-true true = refl
and-true false = refl

pub and-assoc : (a b c : Bool) → (a && b) && c ≡ a && (b && c)
and-assoc true b c = refl
and-assoc false b c = refl

pub known-append : (k : Name → Bool) (xs ys : List Name) → all_known k (xs ++ ys) ≡ all_known k xs && all_known k ys
known-append k [] ys = refl
known-append k (x ∷ xs) ys = ap (λ b. k x && b) (known-append k xs ys) ∙ joined (k x) (all_known k xs) (all_known k ys)
  where
    joined : (a b c : Bool) → a && (b && c) ≡ (a && b) && c
    joined true b c = refl
    joined false b c = refl

-- two lists of which the tests are known
pub known-both : (k : Name → Bool) (xs ys : List Name) (a b : Bool) → all_known k xs ≡ a → all_known k ys ≡ b → all_known k (xs ++ ys) ≡ a && b
known-both k xs ys a b p q = known-append k xs ys ∙ ap (λ c. c && all_known k ys) p ∙ ap (λ c. a && c) q

-- A dotted name, one part after the other.
use Rattle.std.proofs.Common.{◌≡◌, ◌∙◌, ℕ, ap, sym, ◌∷◌, ◌++◌, Some}
use Rattle.std.specs.Prelude.{option_and_then}
use Rattle.wb_values.specs.Value.{Name}
use Rattle.refinement.specs.Map.{dotted_parts}
use Rattle.map_paths.specs.Located.{Below, located}
use Rattle.map_paths.proofs.Dots.{NoneIsDot, first_part, one_part, part_before}

pub located_part : (below : Below) (k : ℕ) (part more : Name) → NoneIsDot part
    → located below k (dotted_parts (part ++ 46 ∷ more)) ≡ option_and_then (λ j. located below j (dotted_parts more)) (below k part)
located_part below k part more h =
    let f = first_part more in
    ap (located below k) (part_before part more h ∙ ap (λ ps. part ∷ ps) f.2)
    ∙ ap (λ ps. option_and_then (λ j. located below j ps) (below k part)) (sym f.2)

pub located_last : (below : Below) (k : ℕ) (n : Name) → NoneIsDot n → located below k (dotted_parts n) ≡ Some (k, n)
located_last below k n h = ap (located below k) (one_part n h)

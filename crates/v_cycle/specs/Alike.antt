-- Values of one shape: what one of them has in it can be copied to the other.
use Rattle.std.specs.Prelude.{◌≡◌, List, [], ◌∷◌, length, ⊤}
use Rattle.wb_values.specs.Value.{Value, truth_value, number, words}

abbrev pub IsAlike : Value → Value → Type 0
IsAlike (truth_value a) (truth_value b) = ⊤
IsAlike (number m) (number n) = ⊤
IsAlike (words xs) (words ys) = length xs ≡ length ys
IsAlike _ _ = ⊥

abbrev pub AreAlike : List Value → List Value → Type 0
AreAlike [] [] = ⊤
AreAlike [] (y ∷ ys) = ⊥
AreAlike (x ∷ xs) [] = ⊥
AreAlike (x ∷ xs) (y ∷ ys) = IsAlike x y × AreAlike xs ys

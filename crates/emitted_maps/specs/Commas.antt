-- What stands between texts that follow one another.
use Rattle.std.specs.Prelude.{ℕ, zero, suc, List, [], ◌∷◌}

-- A comma, if so many texts are before it.
abbrev pub comma_behind : ℕ → List ℕ
comma_behind zero = []
comma_behind (suc n) = 44 ∷ []

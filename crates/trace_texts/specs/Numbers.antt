-- The numbers of a table by borrowed names.
use Rattle.std.specs.Prelude.{ℕ, List, map}
use Rattle.std.specs.Borrow.{Bor}
use Rattle.wb_values.specs.Value.{Entries}

abbrev pub numbers_in : List (Bor (List ℕ) × ℕ) → Entries ℕ
numbers_in t = map (λ e. (e.0.now, e.1)) t

-- Names as the lists of bytes that they are.
use Rattle.std.specs.Prelude.{ℕ, List, map}
use Rattle.std.specs.Borrow.{Bor}
use Rattle.wb_values.specs.Value.{Name}

abbrev pub texts : List (Bor (List ℕ)) → List Name
texts ns = map (λ n. n.now) ns

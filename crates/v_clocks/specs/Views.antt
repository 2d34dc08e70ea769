-- What the code's lists stand for.
use Rattle.std.specs.Prelude.{ℕ, Bool, true, false, List, [], ◌∷◌, map}
use Rattle.std.specs.Borrow.{Bor}
use Rattle.std.specs.BTreeSet.{BTreeSet}
use Rattle.wb_values.specs.Value.{Name}
use Rattle.v_hier.specs.Tables.{has_name}
use Rattle.v_clocks.specs.declared.uses.Use.{Use as CodeUse}
use Rattle.v_clocks.specs.declared.uses.Use.TheVariants.{NoClock, AsData, AsClock}
use Rattle.v_clocks.specs.Uses.{Use, no_clock, as_data, as_clock}

abbrev pub use_of : CodeUse → Use
use_of NoClock = no_clock
use_of AsData = as_data
use_of (AsClock p) = as_clock p.now

abbrev pub uses_in : List CodeUse → List Use
uses_in us = map use_of us

-- the sets of names
abbrev pub sets_of : List (BTreeSet (Bor (List ℕ))) → List (Name → Bool)
sets_of ss = map has_name ss

abbrev pub are_none : {X : Type 0} → List X → Bool
are_none [] = true
are_none (x ∷ xs) = false

-- The laws on the scope of names.
use Rattle.std.specs.Prelude.{◌≡◌, ℕ, List, slice_get, Contains, Some}
use Rattle.wb_values.specs.Value.{Name}
use Rattle.verilog_meaning.specs.Expression.{scope_of}
use Rattle.verilog_meaning.specs.Settled.{Design}
use Rattle.map_rules.specs.Expressions.{design_scope}
use Rattle.v_value.specs.Narrow.{HasNarrowObjects}
use Rattle.v_places.specs.Below.{Spot}
use Rattle.map_paths.specs.Located.{Below, AreBelow, AreStanding, scope_there}
use Rattle.map_scope.specs.Named.{objects_named}

-- The scope of names gives each of them what it means in the design.
abbrev pub ScopesAgreeWithDesigns : Type 0
ScopesAgreeWithDesigns =
    (d : Design) (spots : List Spot) (below : Below) → AreStanding d spots → AreBelow spots below → (names : List Name) (n : Name) → Contains names n
    → scope_of (objects_named spots below names) n ≡ design_scope d n

-- What it gives fits words where all does that the modules name.
abbrev pub ScopesAreNarrow : Type 0
ScopesAreNarrow =
    (spots : List Spot) (below : Below) → ((k : ℕ) (x : Spot) → slice_get spots k ≡ Some x → HasNarrowObjects (scope_there x)) → (names : List Name)
    → HasNarrowObjects (scope_of (objects_named spots below names))

-- What dotted names mean by a list of modules, and the scopes of some of these.
use Rattle.std.specs.Prelude.{◌≡◌, ℕ, List, [], ◌∷◌, slice_get, Option, Some, None}
use Rattle.wb_values.specs.Value.{Name, Entries}
use Rattle.verilog_meaning.specs.Expression.{Object}
use Rattle.refinement.specs.Map.{dotted_parts}
use Rattle.v_value.specs.declared.scope.Scope.{Scope}
use Rattle.v_value.specs.Scope.{scope_at}
use Rattle.v_places.specs.Below.{Spot}
use Rattle.map_paths.specs.Located.{Below, located, object_where, scope_there}

abbrev pub object_named : List Spot → Below → Name → Object
object_named spots below n = object_where spots (located below 0 (dotted_parts n))

-- each of these names with what it means
abbrev pub objects_named : List Spot → Below → List Name → Entries Object
objects_named spots below [] = []
objects_named spots below (n ∷ ns) = (n, object_named spots below n) ∷ objects_named spots below ns

-- the scope of the module, if there is one
abbrev pub IsScope : Option Scope → Spot → Type 0
IsScope None x = Unit {0}
IsScope (Some s) x = scope_at s ≡ scope_there x

-- the scope of the module with this number
abbrev pub IsScopeAt : List Spot → ℕ → Scope → Type 0
IsScopeAt xs k s = (x : Spot) × (slice_get xs k ≡ Some x) × (scope_at s ≡ scope_there x)

-- each scope that is there is that of the module with its number
abbrev pub AreScopes : List (Option Scope) → List Spot → Type 0
AreScopes os xs = (k : ℕ) (s : Scope) → slice_get os k ≡ Some (Some s) → IsScopeAt xs k s

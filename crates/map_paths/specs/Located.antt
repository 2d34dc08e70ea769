-- Where dotted names lead, by a list of the modules that stand in a design.
use Rattle.std.specs.Prelude.{◌≡◌, ◌≢◌, ◌<◌, ℕ, List, [], ◌∷◌, slice_get, Option, Some, None, option_and_then}
use Rattle.wb_values.specs.Value.{Name}
use Rattle.verilog_meaning.specs.Expression.{Object, Scope, undeclared}
use Rattle.verilog_meaning.specs.Hierarchy.{PathStep, Placed, placed_scope}
use Rattle.verilog_meaning.specs.Settled.{Design, IsPlacedIn}
use Rattle.verilog_designs.specs.Known.{known_module_scope}
use Rattle.v_places.specs.Below.{Spot}
use Rattle.v_places.specs.Places.{placed_by, IsPlaceAt}

-- the number of an instance, by its name in the module with a number
abbrev pub Below : Type 0
Below = ℕ → Name → Option ℕ

-- Parts of a dotted name lead from the module with a number to a module and a name within it.
abbrev pub located : Below → ℕ → List Name → Option (ℕ × Name)
located below k [] = None
located below k (n ∷ []) = Some (k, n)
located below k (u ∷ n ∷ parts) = option_and_then (λ j. located below j (n ∷ parts)) (below k u)

-- The instance has this number: it comes after the module around it, which has the number k. Or no instance of that module has the name.
abbrev pub IsBelow : List Spot → ℕ → Name → Option ℕ → Type 0
IsBelow spots k u (Some j) = (x : Spot) × (slice_get spots j ≡ Some x) × (x.parent < j) × (x.parent ≡ k) × (x.instance ≡ u)
IsBelow spots k u None = (j : ℕ) (x : Spot) → slice_get spots j ≡ Some x → x.parent < j → x.parent ≡ k → x.instance ≢ u

-- the numbers of all instances
abbrev pub AreBelow : List Spot → Below → Type 0
AreBelow spots below = (k : ℕ) (u : Name) → IsBelow spots k u (below k u)

-- ---- what names mean

-- the scope of a module of a list, with those of its parameters that have values
abbrev pub scope_there : Spot → Scope
scope_there x = known_module_scope x.of_module x.constants

-- The list has the modules that stand in the design, each once, at its path and with its scope there.
pub record AreStanding (d : Design) (spots : List Spot) : Type 0 where
  pub number : (p : Placed) → IsPlacedIn d p → (k : ℕ) × IsPlaceAt spots k p.path p
  pub stands : (k : ℕ) (path : List PathStep) (p : Placed) → IsPlaceAt spots k path p → IsPlacedIn d p
  pub scope : (k : ℕ) (path : List PathStep) (x : Spot) → IsPlaceAt spots k path (placed_by path x) → scope_there x ≡ placed_scope (placed_by path x)
  pub once : (i j : ℕ) (path : List PathStep) (p q : Placed) → IsPlaceAt spots i path p → IsPlaceAt spots j path q → i ≡ j

-- what a name means in the module with a number
abbrev pub object_there : Option Spot → Name → Object
object_there None n = undeclared
object_there (Some x) n = scope_there x n

-- what it means where a dotted name leads
abbrev pub object_where : List Spot → Option (ℕ × Name) → Object
object_where spots None = undeclared
object_where spots (Some p) = object_there (slice_get spots p.0) p.1

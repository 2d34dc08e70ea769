-- The names of a design in order as one list for each place: its module's names, those of each instance where it stands.
use Rattle.std.specs.Prelude.{◌≡◌, ◌<◌, ℕ, true, List, [], ◌∷◌, ◌++◌, slice_get, Option, Some, None, is_some}
use Rattle.wb_values.specs.Value.{Name}
use Rattle.verilog_registers.specs.Order.{Member, net, instance}
use Rattle.v_places.specs.Below.{Spot}
use Rattle.v_flat.specs.Entries.{SpotNames, named_after}

-- the list of a place, if there is one
abbrev pub list_at : (lists : ℕ → List Name) → Option ℕ → List Name
list_at lists None = []
list_at lists (Some c) = lists c

-- the name, if there is one
abbrev pub one_name : Option Name → List Name
one_name None = []
one_name (Some n) = n ∷ []

-- what a name of a place is called, if the place has it
abbrev pub called_under : SpotNames → Name → Option Name
called_under p = named_after None p.entries

-- The names of a module's members in their order: those of nets as they are called, those of an instance from the list of its place.
abbrev pub line : (f : Name → Option Name) → (child : Name → Option ℕ) → (lists : ℕ → List Name) → List Member → List Name
line f child lists [] = []
line f child lists (net n ∷ xs) = one_name (f n) ++ line f child lists xs
line f child lists (instance u ∷ xs) = list_at lists (child u) ++ line f child lists xs

-- The table has the numbers of the places that stand in the place with number k, by the names of their instances.
pub record AreBelow (spots : List Spot) (k : ℕ) (child : Name → Option ℕ) : Type 0 where
  pub each : (u : Name) (c : ℕ) → child u ≡ Some c → (x : Spot) × (slice_get spots c ≡ Some x) × (x.parent ≡ k) × (k < c) × (x.instance ≡ u)
  pub all : (c : ℕ) (x : Spot) → slice_get spots c ≡ Some x → x.parent ≡ k → k < c → is_some (child x.instance) ≡ true

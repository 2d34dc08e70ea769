-- The terms that nets and variables settle to, for each place where a module stands, out of a table that has them under what their names
-- are called in one scope.
use Rattle.std.specs.Prelude.{◌≡◌, ◌≢◌, ◌<◌, ◌++◌, ℕ, cond, List, [], ◌∷◌, drop, length, slice_get, Option, Some, None}
use Rattle.wb_values.specs.Value.{Name, same_name}
use Rattle.wb_values.specs.Choice.{first_of}
use Rattle.verilog_meaning.specs.Expression.{Scope, is_memory}
use Rattle.verilog_meaning.specs.Hierarchy.{PathStep, Placed, placed_scope, dotted}
use Rattle.verilog_meaning.specs.Settled.{Design, IsPlacedIn, IsDeclared}
use Rattle.flat_designs.specs.Flat.{Naming}
use Rattle.v_places.specs.Below.{Spot}
use Rattle.v_flat.specs.Entries.{DottedEntry, SpotNames, names_of}
use Rattle.v_flat.specs.Whole.{IsPlacing}
use Rattle.v_lower.specs.Lowered.{Images}
use Rattle.v_design.specs.declared.place.PlaceTerms.{PlaceTerms}
use Rattle.v_design.specs.Table.{term_in, terms_at}
use Rattle.v_design.specs.Design.{IsNet}

-- The design stands at these places, these are their names under the naming, and of each net and variable the one scope says what the
-- scope of its module says.
pub record IsCalledSo (d : Design) (called : Naming) (spots : List Spot) (names : List SpotNames) (s : Scope) : Type 0 where
  pub placing : IsPlacing d spots
  pub fronts : (path : List PathStep) (n : Name) → called path [] ++ n ≡ called path n
  pub are_names : names ≡ names_of called spots
  pub says_the_same : (p : Placed) (n : Name) → IsPlacedIn d p → IsDeclared p n → s (called p.path n) ≡ placed_scope p n

-- The name is the dotted one of a net or variable, and the table has the term under what that is called.
pub record IsTermOfNet (d : Design) (called : Naming) (terms : Images) (name : Name) (id : ℕ) : Type 0 where
  pub place : Placed
  pub of_name : Name
  pub is_net : IsNet d place of_name
  pub is_name : name ≡ dotted place.path of_name
  pub is_term : terms (called place.path of_name) ≡ Some id

-- Under its dotted name each net and variable has what the table has under what it is called, and no other name has a term.
pub record AreSettledBy (d : Design) (called : Naming) (terms : Images) (places : List PlaceTerms) : Type 0 where
  pub each : (p : Placed) (n : Name) → IsNet d p n → terms_at places (dotted p.path n) ≡ terms (called p.path n)
  pub no_others : (name : Name) (id : ℕ) → terms_at places name ≡ Some id → IsTermOfNet d called terms name id

-- ---- how the places are filled

-- the term under a name of the one scope, unless that is a memory
abbrev pub net_term : Scope → Images → Name → Option ℕ
net_term s terms n = cond (is_memory (s n)) None (terms n)

-- what a name has when those of a list have been entered one after the other, where it had this before
abbrev pub after_entries : Scope → Images → List DottedEntry → Name → Option ℕ → Option ℕ
after_entries s terms [] n before = before
after_entries s terms (e ∷ es) n before =
    after_entries s terms es n (cond (same_name e.of_name n) (first_of (net_term s terms e.text) before) before)

-- the names of a place, if it has any
abbrev pub entries_in : Option SpotNames → List DottedEntry
entries_in None = []
entries_in (Some p) = p.entries

-- the names of a place that are no constants, which come first
abbrev pub declared_entries : Spot → Option SpotNames → List DottedEntry
declared_entries x names = drop (length x.constants) (entries_in names)

-- Each of the first places, as many as this number, has the terms of its own nets and variables.
abbrev pub HaveOwnTerms : Scope → Images → List Spot → List SpotNames → (end : ℕ) → List PlaceTerms → Type 0
HaveOwnTerms s terms spots names end places =
    (k : ℕ) (x : Spot) → k < end → slice_get spots k ≡ Some x
    → (n : Name) → term_in places k n ≡ after_entries s terms (declared_entries x (slice_get names k)) n None

-- A place is entered under the name of its instance in the place that it stands in, if that comes before it.
pub record IsPutBelow (number : ℕ) (x : Spot) (before after : ℕ → Name → Option ℕ) : Type 0 where
  pub in_parent : x.parent < number → (u : Name) → after x.parent u ≡ cond (same_name x.instance u) (Some number) (before x.parent u)
  pub in_others : (k : ℕ) → (x.parent < number → k ≢ x.parent) → (u : Name) → after k u ≡ before k u

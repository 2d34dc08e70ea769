-- What the visible names of a machine stand for is in the store of terms, and stays so as definitions are put.
use Rattle.std.specs.Prelude.{ℕ, ◌≡◌, Bool, true, not, ◌&&◌, List, map, ⊤, Option, Some, None, Result, Ok, Err}
use Rattle.std.specs.Borrow.{Bor}
use Rattle.std.specs.BTreeMap.{BTreeMap}
use Rattle.std.specs.List.{list_all}
use Rattle.wb_values.specs.Value.{Name, Entries, entry_of}
use Rattle.model_files.specs.Written.{WrittenTerm}
use Rattle.model_files.specs.Scope.{Visible, PlacedTerm, written_sort, placed_definitions, with_definitions}
use Rattle.model_files.specs.Rules.{is_unknown_at, accepts_sort, has_fitting_constants}
use Rattle.wb_terms.specs.declared.nodes.TermId.{TermId}
use Rattle.wb_terms.specs.declared.store.PutStop.{PutStop}
use Rattle.wb_terms.specs.declared.store.PutStop.TheVariants.{BadSort, NoMemory}
use Rattle.wb_terms.specs.Graph.{Graph}
use Rattle.ila_build.specs.Standing.{found, IsFresh, StandsFor}

-- Each visible name stands for its term, which is in the store and has the sort of the name.
unfoldable pub Knows : Graph → BTreeMap (Bor (List ℕ)) TermId → Option TermId → Entries Visible → Type 0
Knows g t f names = (n : Name) (v : Visible) → entry_of names n ≡ Some v → StandsFor g v (found t f n)

-- A term of a file uses visible names, has a sort that its place takes, and its constants fit.
unfoldable pub is_right : PlacedTerm → Bool
is_right p = not (is_unknown_at p) && (accepts_sort p.place (written_sort p.names p.written) && has_fitting_constants p.written)

unfoldable pub are_right : List PlacedTerm → Bool
are_right ps = list_all is_right ps

-- The call is done with a fact, or memory is wanting, or it is refused, which is not so where this holds.
abbrev pub IsDone : Result ⊤ PutStop → (fact unless : Type 0) → Type 0
IsDone (Ok u) P Q = P
IsDone (Err BadSort) P Q = Q → ⊥
IsDone (Err NoMemory) P Q = ⊤

abbrev pub defined_names : Entries WrittenTerm → List Name
defined_names ds = map (λ d. d.0) ds

-- Where no rule refuses the definitions, their names stand for their terms besides what was known before.
unfoldable pub AreDefined : Graph → BTreeMap (Bor (List ℕ)) TermId → Graph → BTreeMap (Bor (List ℕ)) TermId → Result ⊤ PutStop → Entries WrittenTerm → Type 0
AreDefined g t h u r ds = (names : Entries Visible) → Knows g t None names → are_right (placed_definitions names ds) ≡ true → IsDone r (Knows h u None (with_definitions names ds)) (IsFresh t (defined_names ds))

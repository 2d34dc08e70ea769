-- The places of names in a list, and tables that find them.
use Rattle.std.specs.Prelude.{ℕ, zero, suc, cond, List, [], ◌∷◌, Option, Some, None, Bool}
use Rattle.std.specs.Borrow.{Bor}
use Rattle.std.specs.Ordering.{nat_cmp}
use Rattle.std.specs.Cmp.Lexicographic.{slice_cmp}
use Rattle.std.specs.BTreeMap.{BTreeMap, get_by}
use Rattle.std.specs.BTreeSet.{BTreeSet, contains_by}
use Rattle.wb_values.specs.Value.{Name, same_name}
use Rattle.scripts.specs.Script.{Settable}

-- the value under a name
abbrev pub under_name : {X : Type 0} → BTreeMap (Bor (List ℕ)) X → Name → Option X
under_name t n = get_by (λ k. slice_cmp nat_cmp n k.now) t

-- the number is in the set
abbrev pub has_number : BTreeSet ℕ → ℕ → Bool
has_number s n = contains_by (nat_cmp n) s

-- the place of the first with the name, where the first of the list has the place k
abbrev pub place_from : ℕ → List Settable → Name → Option ℕ
place_from k [] n = None
place_from k (s ∷ ss) n = cond (same_name s.called n) (Some k) (place_from (suc k) ss n)

-- the name at a place
abbrev pub called_at : List Settable → ℕ → Name
called_at [] k = []
called_at (s ∷ ss) zero = s.called
called_at (s ∷ ss) (suc k) = called_at ss k

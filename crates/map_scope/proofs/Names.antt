-- The scope of names against what they mean.
use Rattle.std.proofs.Common.{◌≡◌, ◌∙◌, ℕ, Bool, true, false, cond, inl, inr, refl, ap, sym, List, [], ◌∷◌, Option, Some, None, arith}
use Rattle.std.specs.Prelude.{slice_get}
use Rattle.std.proofs.lemmas.Slice.Eq.{bytes_eq-Decides}
use Rattle.std.proofs.lemmas.Bool.{false≢true}
use Rattle.wb_values.specs.Value.{Name, same_name, entry_of}
use Rattle.verilog_meaning.specs.Expression.{undeclared, object_or_undeclared, scope_of}
use Rattle.verilog_unique.proofs.Descent.{IsAmong, among_contains}
use Rattle.refinement.specs.Map.{dotted_parts}
use Rattle.v_value.specs.Narrow.{IsNarrowObject, HasNarrowObjects}
use Rattle.v_places.specs.Below.{Spot}
use Rattle.map_paths.specs.Located.{Below, located, object_there, object_where, scope_there}
use Rattle.map_paths.proofs.Leads.{names_have_their_meaning}
use Rattle.map_scope.specs.Named.{object_named, objects_named}
use Rattle.map_scope.specs.Laws.{ScopesAgreeWithDesigns, ScopesAreNarrow}

-- ---- what is found

module _ (spots : List Spot) (below : Below) where
  found : (names : List Name) (n : Name) → IsAmong names n → scope_of (objects_named spots below names) n ≡ object_named spots below n
  found [] n h = absurd h
  found (m ∷ ms) n h = by (same_name m n) refl h (λ k. found ms n k) where
    by : (b : Bool) → same_name m n ≡ b → IsAmong (m ∷ ms) n → (IsAmong ms n → scope_of (objects_named spots below ms) n ≡ object_named spots below n)
        → object_or_undeclared (cond b (Some (object_named spots below m)) (entry_of (objects_named spots below ms) n)) ≡ object_named spots below n
    by true e k next = ap (object_named spots below) ((bytes_eq-Decides m n).0 e)
    by false e (inl same) next = absurd (false≢true (sym e ∙ (bytes_eq-Decides m n).1 same))
    by false e (inr k) next = next k

pub scopes_agree : ScopesAgreeWithDesigns
scopes_agree d spots below places are_below names n c =
    found spots below names n (among_contains names n c) ∙ sym (names_have_their_meaning d spots below places are_below n)

-- ---- widths

nothing_fits : IsNarrowObject undeclared
nothing_fits = (omega arith, tt)

module _ (spots : List Spot) (below : Below) (fit : (k : ℕ) (x : Spot) → slice_get spots k ≡ Some x → HasNarrowObjects (scope_there x)) where
  there_fits : (k : ℕ) (n : Name) (o : Option Spot) → slice_get spots k ≡ o → IsNarrowObject (object_there o n)
  there_fits k n None e = nothing_fits
  there_fits k n (Some x) e = fit k x e n

  where_fits : (o : Option (ℕ × Name)) → IsNarrowObject (object_where spots o)
  where_fits None = nothing_fits
  where_fits (Some p) = there_fits p.0 p.1 (slice_get spots p.0) refl

  all_fit : (names : List Name) (n : Name) → IsNarrowObject (scope_of (objects_named spots below names) n)
  all_fit [] n = nothing_fits
  all_fit (m ∷ ms) n = by (same_name m n) (all_fit ms n) where
    by : (b : Bool) → IsNarrowObject (scope_of (objects_named spots below ms) n)
        → IsNarrowObject (object_or_undeclared (cond b (Some (object_named spots below m)) (entry_of (objects_named spots below ms) n)))
    by true next = where_fits (located below 0 (dotted_parts m))
    by false next = next

pub scopes_are_narrow : ScopesAreNarrow
scopes_are_narrow spots below fit names n = all_fit spots below fit names n

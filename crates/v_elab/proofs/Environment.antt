-- What names stand for where entries have values in their order.
use Rattle.std.proofs.Common.{◌≡◌, refl, ap, sym, subst, Bool, true, false, cond, map, List, [], ◌∷◌, ◌++◌, inl, inr, Some, is_some}
use Rattle.std.proofs.lemmas.Bool.{false≢true}
use Rattle.wb_values.specs.Value.{Name, same_name, Sort, Value, Entries, entry_of, Valuation, HasSort}
use Rattle.wb_terms.specs.Environment.{AreOfSorts, values_by_name}
use Rattle.verilog_unique.proofs.Options.{same_is}
use Rattle.verilog_unique.proofs.Descent.{IsAmong}

-- the values that f gives to entries
abbrev under : Entries Sort → Valuation → List Value
under ns f = map (λ n. f n.0) ns

pub found : (ns : Entries Sort) (f : Valuation) (m : Name) → is_some (entry_of ns m) ≡ true → entry_of (values_by_name ns (under ns f)) m ≡ Some (f m)
found [] f m h = absurd (false≢true h)
found (n ∷ ns) f m h = by (same_name n.0 m) refl (found ns f m) h
  where
    by : (t : Bool) → same_name n.0 m ≡ t → (is_some (entry_of ns m) ≡ true → entry_of (values_by_name ns (under ns f)) m ≡ Some (f m))
        → is_some (cond t (Some n.1) (entry_of ns m)) ≡ true → cond t (Some (f n.0)) (entry_of (values_by_name ns (under ns f)) m) ≡ Some (f m)
    by true e later g = ap (λ q. Some (f q)) (same_is n.0 m e)
    by false e later g = later g

pub found_first : (ns ms : Entries Sort) (f g : Valuation) (m : Name) → is_some (entry_of ns m) ≡ true
    → entry_of (values_by_name (ns ++ ms) (under ns f ++ under ms g)) m ≡ Some (f m)
found_first [] ms f g m h = absurd (false≢true h)
found_first (n ∷ ns) ms f g m h = by (same_name n.0 m) refl (found_first ns ms f g m) h
  where
    by : (t : Bool) → same_name n.0 m ≡ t
        → (is_some (entry_of ns m) ≡ true → entry_of (values_by_name (ns ++ ms) (under ns f ++ under ms g)) m ≡ Some (f m))
        → is_some (cond t (Some n.1) (entry_of ns m)) ≡ true
        → cond t (Some (f n.0)) (entry_of (values_by_name (ns ++ ms) (under ns f ++ under ms g)) m) ≡ Some (f m)
    by true e later k = ap (λ q. Some (f q)) (same_is n.0 m e)
    by false e later k = later k

pub found_second : (ns ms : Entries Sort) (f g : Valuation) (m : Name) → is_some (entry_of ns m) ≡ false → is_some (entry_of ms m) ≡ true
    → entry_of (values_by_name (ns ++ ms) (under ns f ++ under ms g)) m ≡ Some (g m)
found_second [] ms f g m h k = found ms g m k
found_second (n ∷ ns) ms f g m h k = by (same_name n.0 m) (λ i. found_second ns ms f g m i k) h
  where
    by : (t : Bool) → (is_some (entry_of ns m) ≡ false → entry_of (values_by_name (ns ++ ms) (under ns f ++ under ms g)) m ≡ Some (g m))
        → is_some (cond t (Some n.1) (entry_of ns m)) ≡ false
        → cond t (Some (f n.0)) (entry_of (values_by_name (ns ++ ms) (under ns f ++ under ms g)) m) ≡ Some (g m)
    by true later e = absurd (false≢true (sym e))
    by false later e = later e

-- values of their sorts, entry by entry
pub sorted_at : (ns : Entries Sort) (f : Valuation) (m : Name) (t : Sort) → AreOfSorts ns (under ns f) → IsAmong ns (m, t) → HasSort (f m) t
sorted_at [] f m t h k = absurd k
sorted_at (n ∷ ns) f m t h (inl e) = subst (λ (q : Name × Sort). HasSort (f q.0) q.1) e h.0
sorted_at (n ∷ ns) f m t h (inr k) = sorted_at ns f m t h.1 k

pub all_sorted : (ns : Entries Sort) (f : Valuation) → ((m : Name) (t : Sort) → IsAmong ns (m, t) → HasSort (f m) t) → AreOfSorts ns (under ns f)
all_sorted [] f h = tt
all_sorted (n ∷ ns) f h = (h n.0 n.1 (inl refl), all_sorted ns f (λ m t k. h m t (inr k)))

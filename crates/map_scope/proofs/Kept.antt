-- The scopes that are kept, by their numbers.
use Rattle.std.proofs.Common.{◌≡◌, ◌∙◌, ℕ, zero, suc, ◌+◌, ◌<◌, ◌≤◌, ◌⊎◌, inl, inr, refl, ap, sym, subst, List, [], ◌∷◌, ◌++◌, length, drop, get_or, map, Bor, Option, Some, None, option_map, MatchOption, HoldsAt, append_assoc, add-one, arith}
use Rattle.std.specs.Prelude.{slice_get}
use Rattle.wb_values.specs.Value.{Entries}
use Rattle.verilog_meaning.specs.Expression as meaning
use Rattle.v_value.specs.declared.scope.Object.{Object}
use Rattle.v_value.specs.declared.scope.Declaration.{Declaration}
use Rattle.v_value.specs.declared.scope.Scope.{Scope}
use Rattle.v_value.specs.Scope.{scope_at, object_of, objects_of}
use Rattle.v_places.specs.Below.{Spot}
use Rattle.v_places.specs.declared.place.Place.{Place}
use Rattle.v_places.specs.Views.{spot_of, spots_of}
use Rattle.v_places.proofs.Spots.{same_some}
use Rattle.map_paths.specs.Located.{Below, scope_there}
use Rattle.map_paths.proofs.Adding.{get_either}
use Rattle.map_scope.specs.Named.{object_named, objects_named, IsScope, IsScopeAt, AreScopes}

-- none is kept yet
pub none_kept : (xs : List Spot) → AreScopes [] xs
none_kept xs k s e = cc

-- one more
pub one_kept : (os : List (Option Scope)) (xs : List Spot) (o : Option Scope) (x : Spot) → AreScopes os xs → slice_get xs (length os) ≡ Some x → IsScope o x
    → AreScopes (os ++ o ∷ []) xs
one_kept os xs o x h e is k s g = by (get_either os o k (Some s) g) where
  is_new : (p : Option Scope) → IsScope p x → p ≡ Some s → scope_at s ≡ scope_there x
  is_new None i f = cc
  is_new (Some t) i f = subst (λ r. scope_at r ≡ scope_there x) (same_some t s f) i

  by : (slice_get os k ≡ Some (Some s)) ⊎ ((k ≡ length os) × (o ≡ Some s)) → IsScopeAt xs k s
  by (inl f) = h k s f
  by (inr f) = (x, ap (slice_get xs) f.0 ∙ e, is_new o is f.1)

-- ---- elements by their places

there : {A : Type 0} (xs : List A) (k : ℕ) (x : A) → k < length xs → ((d : A) → x ≡ get_or xs k d) → slice_get xs k ≡ Some x
there [] k x l e = absurd (omega (arith, l))
there (y ∷ xs) zero x l e = ap Some (sym (e x))
there (y ∷ xs) (suc k) x l e = there xs k x (omega (arith, l)) e

past : {A : Type 0} (xs : List A) (k : ℕ) → length xs ≤ k → slice_get xs k ≡ None
past [] k l = refl
past (x ∷ xs) zero l = absurd (omega (arith, l))
past (x ∷ xs) (suc k) l = past xs k (omega (arith, l))

-- what the code gets of a list
abbrev pub IsGot : {A : Type 0} → List A → ℕ → Option (Bor A) → Type 0
IsGot xs k o = MatchOption o (length xs ≤ k) (λ x. (k < length xs) × HoldsAt (λ y. x.now ≡ y) xs k)

pub got_some : {A : Type 0} (xs : List A) (k : ℕ) (o : Option (Bor A)) (x : Bor A) → o ≡ Some x → IsGot xs k o → slice_get xs k ≡ Some x.now
got_some {A = A} xs k o x e m = at (subst (IsGot xs k) e m) where
  at : IsGot xs k (Some x) → slice_get xs k ≡ Some x.now
  at h = there xs k x.now h.0 h.1

pub got_none : {A : Type 0} (xs : List A) (k : ℕ) (o : Option (Bor A)) → o ≡ None → IsGot xs k o → slice_get xs k ≡ None
got_none {A = A} xs k o e m = at (subst (IsGot xs k) e m) where
  at : IsGot xs k None → slice_get xs k ≡ None
  at h = past xs k h

seen : (ps : List Place) (k : ℕ) → slice_get (spots_of ps) k ≡ option_map spot_of (slice_get ps k)
seen [] k = refl
seen (p ∷ ps) zero = refl
seen (p ∷ ps) (suc k) = seen ps k

pub spot_got : (ps : List Place) (k : ℕ) (o : Option (Bor Place)) (p : Bor Place) → o ≡ Some p → IsGot ps k o → slice_get (spots_of ps) k ≡ Some (spot_of p.now)
spot_got ps k o p e m = seen ps k ∙ ap (option_map spot_of) (got_some ps k o p e m)

pub no_spot_got : (ps : List Place) (k : ℕ) (o : Option (Bor Place)) → o ≡ None → IsGot ps k o → slice_get (spots_of ps) k ≡ None
no_spot_got ps k o e m = seen ps k ∙ ap (option_map spot_of) (got_none ps k o e m)

spot_at : (ps : List Place) (k : ℕ) (p d : Place) → k < length ps → p ≡ get_or ps k d → slice_get (spots_of ps) k ≡ Some (spot_of p)
spot_at [] k p d l e = absurd (omega (arith, l))
spot_at (q ∷ ps) zero p d l e = ap (λ z. Some (spot_of z)) (sym e)
spot_at (q ∷ ps) (suc k) p d l e = spot_at ps k p d (omega (arith, l)) e

-- ---- a turn

pushed : {A : Type 0} (xs : List A) (x : A) → length (xs ++ x ∷ []) ≡ suc (length xs)
pushed [] x = refl
pushed (y ∷ xs) x = ap suc (pushed xs x)

-- the scope of one place more
pub scope_turn : (os ns : List (Option Scope)) (ps : List Place) (o : Option Scope) (i : ℕ) (p d : Place) → i < length ps → p ≡ get_or ps i d → ns ≡ os ++ o ∷ []
    → IsScope o (spot_of p) → (length os ≡ i) × AreScopes os (spots_of ps) → (length ns ≡ i + 1) × AreScopes ns (spots_of ps)
scope_turn os ns ps o i p d l e added is h = (
  ap length added ∙ (pushed os o ∙ (ap suc h.0 ∙ sym (add-one i))),
  subst (λ qs. AreScopes qs (spots_of ps)) (sym added)
      (one_kept os (spots_of ps) o (spot_of p) h.1 (ap (slice_get (spots_of ps)) h.0 ∙ spot_at ps i p d l e) is),
)

objects_pushed : (xs : List Declaration) (x : Declaration) → objects_of (xs ++ x ∷ []) ≡ objects_of xs ++ (x.name.now, object_of x.object) ∷ []
objects_pushed [] x = refl
objects_pushed (y ∷ xs) x = ap (λ es. (y.name.now, object_of y.object) ∷ es) (objects_pushed xs x)

dropped : (ns : List (Bor (List ℕ))) (i : ℕ) (d : Bor (List ℕ)) → i < length ns → map (λ n. n.now) (drop i ns) ≡ (get_or ns i d).now ∷ map (λ n. n.now) (drop (suc i) ns)
dropped [] i d l = absurd (omega (arith, l))
dropped (n ∷ ns) zero d l = refl
dropped (n ∷ ns) (suc i) d l = dropped ns i d (omega (arith, l))

-- the object of one name more
pub name_turn : (spots : List Spot) (below : Below) (ns : List (Bor (List ℕ))) (i : ℕ) (d : Bor (List ℕ)) (xs ys : List Declaration) (o : Object) (all : Entries meaning.Object)
    → i < length ns → ys ≡ xs ++ record { name = get_or ns i d; object = o } ∷ [] → object_of o ≡ object_named spots below (get_or ns i d).now
    → objects_of xs ++ objects_named spots below (map (λ n. n.now) (drop i ns)) ≡ all
    → objects_of ys ++ objects_named spots below (map (λ n. n.now) (drop (i + 1) ns)) ≡ all
name_turn spots below ns i d xs ys o all l added is h =
    let rest : Entries meaning.Object = objects_named spots below (map (λ n. n.now) (drop (suc i) ns)) in
    ap (λ k. objects_of ys ++ objects_named spots below (map (λ n. n.now) (drop k ns))) (add-one i)
    ∙ (ap (λ zs. objects_of zs ++ rest) added
    ∙ (ap (λ es. es ++ rest) (objects_pushed xs (record { name = get_or ns i d; object = o }))
    ∙ (append_assoc (objects_of xs) (((get_or ns i d).now, object_of o) ∷ []) rest
    ∙ (ap (λ z. objects_of xs ++ ((get_or ns i d).now, z) ∷ rest) is
    ∙ (ap (λ ms. objects_of xs ++ objects_named spots below ms) (sym (dropped ns i d l)) ∙ h)))))

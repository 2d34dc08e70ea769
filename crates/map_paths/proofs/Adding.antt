-- The numbers of instances, where modules are added one after the other.
use Rattle.std.proofs.Common.{◌≡◌, ◌∙◌, ℕ, zero, suc, ◌<◌, Bool, true, false, cond, ◌&&◌, ◌==◌, ◌⊎◌, inl, inr, refl, ap, sym, subst, List, [], ◌∷◌, ◌++◌, length, Option, Some, None, eqb-true, eq-eqb, ltb-true, lt-ltb, arith}
use Rattle.std.specs.Prelude.{slice_get, nat_lt}
use Rattle.std.proofs.lemmas.Bool.{true≢false, and_parts, and_from}
use Rattle.std.proofs.lemmas.Slice.Eq.{bytes_eq-Decides}
use Rattle.wb_values.specs.Value.{Name, same_name}
use Rattle.v_places.specs.Below.{Spot}
use Rattle.v_places.proofs.Spots.{same_some}
use Rattle.map_paths.specs.Located.{Below, IsBelow, AreBelow}
use Rattle.map_paths.specs.Tables.{with_child}

-- ---- lists with one more

get_old : {A : Type 0} (xs : List A) (x : A) (i : ℕ) (y : A) → slice_get xs i ≡ Some y → slice_get (xs ++ x ∷ []) i ≡ Some y
get_old [] x i y e = cc
get_old (z ∷ xs) x zero y e = e
get_old (z ∷ xs) x (suc i) y e = get_old xs x i y e

get_new : {A : Type 0} (xs : List A) (x : A) → slice_get (xs ++ x ∷ []) (length xs) ≡ Some x
get_new [] x = refl
get_new (z ∷ xs) x = get_new xs x

pub get_either : {A : Type 0} (xs : List A) (x : A) (i : ℕ) (y : A) → slice_get (xs ++ x ∷ []) i ≡ Some y → (slice_get xs i ≡ Some y) ⊎ ((i ≡ length xs) × (x ≡ y))
get_either [] x zero y e = inr (refl, same_some x y e)
get_either [] x (suc i) y e = cc
get_either (z ∷ xs) x zero y e = inl e
get_either (z ∷ xs) x (suc i) y e = at (get_either xs x i y e) where
  at : (slice_get xs i ≡ Some y) ⊎ ((i ≡ length xs) × (x ≡ y)) → (slice_get xs i ≡ Some y) ⊎ ((suc i ≡ suc (length xs)) × (x ≡ y))
  at (inl h) = inl h
  at (inr h) = inr (ap suc h.0, h.1)

-- ---- one module more

module _ (spots : List Spot) (x : Spot) (below : Below) (are : AreBelow spots below) where
  -- the module stands below this one, under this name
  abbrev is_child : ℕ → Name → Bool
  is_child k u = nat_lt x.parent (length spots) && (x.parent == k && same_name x.instance u)

  old_below : (k : ℕ) (u : Name) (o : Option ℕ) → IsBelow spots k u o → is_child k u ≡ false → IsBelow (spots ++ x ∷ []) k u o
  old_below k u (Some j) h e = (h.0, get_old spots x j h.0 h.1, h.2, h.3, h.4)
  old_below k u None h e = λ i y g before around called. by i y before around called (get_either spots x i y g) where
    by : (i : ℕ) (y : Spot) → y.parent < i → y.parent ≡ k → y.instance ≡ u → (slice_get spots i ≡ Some y) ⊎ ((i ≡ length spots) × (x ≡ y)) → ⊥
    by i y before around called (inl g) = h i y g before around called
    by i y before around called (inr g) =
        let earlier : x.parent < length spots = subst (λ (z : Spot). z.parent < length spots) (sym g.1) (omega (arith, before, g.0)) in
        let outer : x.parent ≡ k = ap (λ (z : Spot). z.parent) g.1 ∙ around in
        let name : x.instance ≡ u = ap (λ (z : Spot). z.instance) g.1 ∙ called in
        true≢false (sym (and_from (nat_lt x.parent (length spots)) (x.parent == k && same_name x.instance u) (lt-ltb x.parent (length spots) earlier)
        (and_from (x.parent == k) (same_name x.instance u) (eq-eqb x.parent k outer) ((bytes_eq-Decides x.instance u).1 name))) ∙ e)

  pub child_added : AreBelow (spots ++ x ∷ []) (with_child x (length spots) below)
  child_added k u = by (is_child k u) refl where
    by : (b : Bool) → is_child k u ≡ b → IsBelow (spots ++ x ∷ []) k u (cond b (Some (length spots)) (below k u))
    by true e =
        let both = and_parts (nat_lt x.parent (length spots)) (x.parent == k && same_name x.instance u) e in
        let rest = and_parts (x.parent == k) (same_name x.instance u) both.1 in
        (x, get_new spots x, ltb-true x.parent (length spots) both.0, eqb-true x.parent k rest.0, (bytes_eq-Decides x.instance u).0 rest.1)
    by false e = old_below k u (below k u) (are k u) e

pub none_below : AreBelow [] (λ k u. None)
none_below k u = λ j x e. cc

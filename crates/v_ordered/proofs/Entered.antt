-- Tables of places by the names of their instances, filled place after place.
use Rattle.std.proofs.Common.{◌≡◌, ◌≢◌, ◌∙◌, ◌<◌, ◌≤◌, ◌+◌, ℕ, zero, suc, refl, ap, sym, subst, arith, Bool, true, false, cond, ◌⊎◌, inl, inr, List, [], ◌∷◌, ◌++◌, length, set, get_or, Option, Some, None, is_some, Bor}
use Rattle.std.specs.Prelude.{slice_get}
use Rattle.std.specs.BTreeMap.{BTreeMap}
use Rattle.std.proofs.lemmas.Bool.{false≢true}
use Rattle.std.proofs.lemmas.Slice.Eq.{bytes_eq-Decides}
use Rattle.wb_values.specs.Value.{Name, same_name}
use Rattle.v_hier.specs.Tables.{under_name}
use Rattle.v_places.specs.declared.place.Place.{Place}
use Rattle.v_places.specs.Below.{Spot}
use Rattle.v_places.specs.Views.{spot_of, spots_of}
use Rattle.v_ordered.specs.Lines.{AreBelow}
use Rattle.v_ordered.specs.Tables.{number_at, IsEntered}

pub same_or_other : (m n : ℕ) → (m ≡ n) ⊎ (m ≢ n)
same_or_other zero zero = inl refl
same_or_other zero (suc n) = inr (λ e. absurd (omega (arith, e)))
same_or_other (suc m) zero = inr (λ e. absurd (omega (arith, e)))
same_or_other (suc m) (suc n) = by (same_or_other m n)
  where
    by : (m ≡ n) ⊎ (m ≢ n) → (suc m ≡ suc n) ⊎ (suc m ≢ suc n)
    by (inl e) = inl (ap suc e)
    by (inr h) = inr (λ e. h (omega (arith, e)))

-- ---- a list of tables with one replaced

replaced : (ts : List (BTreeMap (Bor (List ℕ)) ℕ)) (p : ℕ) (t : BTreeMap (Bor (List ℕ)) ℕ) (n : Name) → p < length ts → number_at (set ts p t) p n ≡ under_name t n
replaced [] p t n l = absurd (omega (arith, l))
replaced (x ∷ ts) zero t n l = refl
replaced (x ∷ ts) (suc p) t n l = replaced ts p t n (omega (arith, l))

pub read : (ts : List (BTreeMap (Bor (List ℕ)) ℕ)) (p : ℕ) (d : BTreeMap (Bor (List ℕ)) ℕ) (n : Name) → p < length ts → number_at ts p n ≡ under_name (get_or ts p d) n
read [] p d n l = absurd (omega (arith, l))
read (x ∷ ts) zero d n l = refl
read (x ∷ ts) (suc p) d n l = read ts p d n (omega (arith, l))

not_replaced : (ts : List (BTreeMap (Bor (List ℕ)) ℕ)) (p k : ℕ) (t : BTreeMap (Bor (List ℕ)) ℕ) (n : Name) → k ≢ p → number_at (set ts p t) k n ≡ number_at ts k n
not_replaced [] p k t n h = refl
not_replaced (x ∷ ts) zero zero t n h = absurd (h refl)
not_replaced (x ∷ ts) zero (suc k) t n h = refl
not_replaced (x ∷ ts) (suc p) zero t n h = refl
not_replaced (x ∷ ts) (suc p) (suc k) t n h = not_replaced ts p k t n (λ e. h (ap suc e))

pub passed_over : (number : ℕ) (x : Spot) (f : ℕ → Name → Option ℕ) → number ≤ x.parent → IsEntered number x f f
passed_over number x f h = record { in_parent = λ l. absurd (omega (arith, l, h)); in_others = λ k g n. refl }

pub entered : (number : ℕ) (x : Spot) (ts : List (BTreeMap (Bor (List ℕ)) ℕ)) (t d : BTreeMap (Bor (List ℕ)) ℕ) → x.parent < number → x.parent < length ts
    → ((n : Name) → under_name t n ≡ cond (same_name x.instance n) (Some number) (under_name (get_or ts x.parent d) n))
    → IsEntered number x (number_at ts) (number_at (set ts x.parent t))
entered number x ts t d l w h =
    record {
      in_parent = λ m n. replaced ts x.parent t n w ∙ h n ∙ ap (λ o. cond (same_name x.instance n) (Some number) o) (sym (read ts x.parent d n w));
      in_others = λ k g n. not_replaced ts x.parent k t n (g l);
    }

-- an empty table more
pub pushed_none : (ts : List (BTreeMap (Bor (List ℕ)) ℕ)) (t : BTreeMap (Bor (List ℕ)) ℕ) → ((k : ℕ) (n : Name) → number_at ts k n ≡ None)
    → ((n : Name) → under_name t n ≡ None) → (k : ℕ) (n : Name) → number_at (ts ++ t ∷ []) k n ≡ None
pushed_none [] t h e zero n = e n
pushed_none [] t h e (suc k) n = refl
pushed_none (x ∷ ts) t h e zero n = h zero n
pushed_none (x ∷ ts) t h e (suc k) n = pushed_none ts t (λ j. h (suc j)) e k n

-- The table has the numbers before this one of the places that stand in the place with number k.
pub record AreBelowUpTo (spots : List Spot) (end k : ℕ) (child : Name → Option ℕ) : Type 0 where
  pub each : (u : Name) (c : ℕ) → child u ≡ Some c → (x : Spot) × (slice_get spots c ≡ Some x) × (x.parent ≡ k) × (k < c) × (x.instance ≡ u)
  pub all : (c : ℕ) (x : Spot) → c < end → slice_get spots c ≡ Some x → x.parent ≡ k → k < c → is_some (child x.instance) ≡ true

pub none_below : (spots : List Spot) (k : ℕ) (child : Name → Option ℕ) → ((n : Name) → child n ≡ None) → AreBelowUpTo spots 0 k child
none_below spots k child h =
    record {
      each = λ u c e. absurd (false≢true (ap is_some (sym (h u) ∙ e)));
      all = λ c x l. absurd (omega (arith, l));
    }

pub all_below : (spots : List Spot) (end k : ℕ) (child : Name → Option ℕ) → length spots ≤ end → ((c : ℕ) (x : Spot) → slice_get spots c ≡ Some x → c < length spots)
    → AreBelowUpTo spots end k child → AreBelow spots k child
all_below spots end k child l within b =
    record { each = b.each; all = λ c x e. let w = within c x e in b.all c x (omega (arith, l, w)) e }

-- ---- one place more

module _ (spots : List Spot) (end : ℕ) (x : Spot) (there : slice_get spots end ≡ Some x) (k : ℕ) (before after : ℕ → Name → Option ℕ) (e : IsEntered end x before after)
    (b : AreBelowUpTo spots end k (before k)) where
  same_spot : (y : Spot) → slice_get spots end ≡ Some y → y ≡ x
  same_spot y h = same_some y x (sym h ∙ there)
    where
      same_some : (a c : Spot) → Some a ≡ Some c → a ≡ c
      same_some a c p = ap (λ o. elim o as (λ z. Spot) [ None ↦ a | Some z ↦ z ]) p

  -- in another place's table
  kept : ((x.parent < end) → k ≢ x.parent) → AreBelowUpTo spots (end + 1) k (after k)
  kept h =
      record {
        each = λ u c g. b.each u c (sym (e.in_others k h u) ∙ g);
        all = λ c y l at is less. by c y at is less (same_or_other c end) l;
      }
    where
      by : (c : ℕ) (y : Spot) → slice_get spots c ≡ Some y → y.parent ≡ k → k < c → (c ≡ end) ⊎ (c ≢ end) → c < end + 1 → is_some (after k y.instance) ≡ true
      by c y at is less (inl q) l =
          let s : y ≡ x = same_spot y (subst (λ m. slice_get spots m ≡ Some y) q at) in
          let p : x.parent ≡ k = ap (λ (z : Spot). z.parent) (sym s) ∙ is in
          absurd (h (omega (arith, p, less, q)) (sym p))
      by c y at is less (inr q) l = ap is_some (e.in_others k h y.instance) ∙ b.all c y (omega (arith, l, q)) at is less

  -- in its own
  more : x.parent < end → k ≡ x.parent → AreBelowUpTo spots (end + 1) k (after k)
  more l q =
      record { each = λ u c g. each u c (same_name x.instance u) refl g; all = λ c y w at is less. all c y at is less (same_or_other c end) w }
    where
      now : (u : Name) → after k u ≡ cond (same_name x.instance u) (Some end) (before k u)
      now u = subst (λ m. after m u ≡ cond (same_name x.instance u) (Some end) (before m u)) (sym q) (e.in_parent l u)

      each : (u : Name) (c : ℕ) (t : Bool) → same_name x.instance u ≡ t → after k u ≡ Some c
          → (y : Spot) × (slice_get spots c ≡ Some y) × (y.parent ≡ k) × (k < c) × (y.instance ≡ u)
      each u c true s g =
          let is_end : end ≡ c = same (sym (now u ∙ ap (λ b. cond b (Some end) (before k u)) s) ∙ g) in
          (x, subst (λ m. slice_get spots m ≡ Some x) is_end there, sym q, omega (arith, l, q, is_end), (bytes_eq-Decides x.instance u).0 s)
        where
          same : Some end ≡ Some c → end ≡ c
          same p = ap (λ o. elim o as (λ z. ℕ) [ None ↦ end | Some z ↦ z ]) p
      each u c false s g = b.each u c (sym (now u ∙ ap (λ b. cond b (Some end) (before k u)) s) ∙ g)

      put : (t : Bool) (o : Option ℕ) → (t ≡ false → is_some o ≡ true) → is_some (cond t (Some end) o) ≡ true
      put true o h = refl
      put false o h = h refl

      all : (c : ℕ) (y : Spot) → slice_get spots c ≡ Some y → y.parent ≡ k → k < c → (c ≡ end) ⊎ (c ≢ end) → c < end + 1 → is_some (after k y.instance) ≡ true
      all c y at is less (inl p) w =
          let s : y ≡ x = same_spot y (subst (λ m. slice_get spots m ≡ Some y) p at) in
          ap is_some (now y.instance)
          ∙ ap (λ t. is_some (cond t (Some end) (before k y.instance))) (subst (λ (z : Spot). same_name x.instance z.instance ≡ true) (sym s) ((bytes_eq-Decides x.instance x.instance).1 refl))
      all c y at is less (inr p) w =
          ap is_some (now y.instance) ∙ put (same_name x.instance y.instance) (before k y.instance) (λ f. b.all c y (omega (arith, w, p)) at is less)

  pub one_more : AreBelowUpTo spots (end + 1) k (after k)
  one_more = by (same_or_other k x.parent)
    where
      at_parent : (x.parent < end) ⊎ (end ≤ x.parent) → k ≡ x.parent → AreBelowUpTo spots (end + 1) k (after k)
      at_parent (inl l) q = more l q
      at_parent (inr l) q = kept (λ w. absurd (omega (arith, w, l)))

      less_or_not : (m n : ℕ) → (m < n) ⊎ (n ≤ m)
      less_or_not m zero = inr (omega arith)
      less_or_not zero (suc n) = inl (omega arith)
      less_or_not (suc m) (suc n) = step (less_or_not m n)
        where
          step : (m < n) ⊎ (n ≤ m) → (suc m < suc n) ⊎ (suc n ≤ suc m)
          step (inl l) = inl (omega (arith, l))
          step (inr l) = inr (omega (arith, l))

      by : (k ≡ x.parent) ⊎ (k ≢ x.parent) → AreBelowUpTo spots (end + 1) k (after k)
      by (inl q) = at_parent (less_or_not x.parent end) q
      by (inr h) = kept (λ w. h)

pub spot_there : (ps : List Place) (i : ℕ) (d : Place) → i < length ps → slice_get (spots_of ps) i ≡ Some (spot_of (get_or ps i d))
spot_there [] i d l = absurd (omega (arith, l))
spot_there (p ∷ ps) zero d l = refl
spot_there (p ∷ ps) (suc i) d l = spot_there ps i d (omega (arith, l))

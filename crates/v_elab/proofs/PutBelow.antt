-- Places that are entered, one after the other, into the places that they stand in.
use Rattle.std.proofs.Common.{◌≡◌, ◌≢◌, ◌∙◌, ◌<◌, ◌≤◌, ◌+◌, ℕ, zero, suc, refl, ap, sym, subst, arith, Bool, true, false, cond, ◌⊎◌, inl, inr, List, [], ◌∷◌, length, set, get_or, Option, Some, None, is_some}
use Rattle.std.specs.Prelude.{slice_get, option_and_then}
use Rattle.std.proofs.lemmas.Bool.{false≢true}
use Rattle.wb_values.specs.Value.{Name, same_name}
use Rattle.verilog_unique.proofs.Options.{same_is, is_same}
use Rattle.v_places.specs.declared.place.Place.{Place}
use Rattle.v_places.specs.Below.{Spot}
use Rattle.v_places.specs.Views.{spot_of, spots_of}
use Rattle.v_places.proofs.Spots.{same_some}
use Rattle.v_design.specs.declared.place.PlaceTerms.{PlaceTerms}
use Rattle.v_design.specs.Table.{term_under, number_under, term_in, place_in}
use Rattle.v_elab.specs.Settled.{IsPutBelow}
use Rattle.v_elab.proofs.NetTerms.{same_or_other}

-- ---- a list of places with one replaced

get_set : {A : Type 0} (xs : List A) (p : ℕ) (y : A) → p < length xs → slice_get (set xs p y) p ≡ Some y
get_set [] p y l = absurd (omega (arith, l))
get_set (x ∷ xs) zero y l = refl
get_set (x ∷ xs) (suc p) y l = get_set xs p y (omega (arith, l))

get_other : {A : Type 0} (xs : List A) (p k : ℕ) (y : A) → k ≢ p → slice_get (set xs p y) k ≡ slice_get xs k
get_other [] p k y n = refl
get_other (x ∷ xs) zero zero y n = absurd (n refl)
get_other (x ∷ xs) zero (suc k) y n = refl
get_other (x ∷ xs) (suc p) zero y n = refl
get_other (x ∷ xs) (suc p) (suc k) y n = get_other xs p k y (λ e. n (ap suc e))

get_there : {A : Type 0} (xs : List A) (p : ℕ) (y d : A) → p < length xs → y ≡ get_or xs p d → slice_get xs p ≡ Some y
get_there [] p y d l e = absurd (omega (arith, l))
get_there (x ∷ xs) zero y d l e = ap Some (sym e)
get_there (x ∷ xs) (suc p) y d l e = get_there xs p y d (omega (arith, l)) e

pub passed_over : (number : ℕ) (x : Spot) (f : ℕ → Name → Option ℕ) → number ≤ x.parent → IsPutBelow number x f f
passed_over number x f h = record { in_parent = λ l. absurd (omega (arith, l, h)); in_others = λ k g n. refl }

module _ (places : List PlaceTerms) (parent : ℕ) (old new d : PlaceTerms) (l : parent < length places) (e : old ≡ get_or places parent d) where
  pub put_below : (number : ℕ) (x : Spot) → x.parent ≡ parent → parent < number
      → ((u : Name) → number_under new.below u ≡ cond (same_name x.instance u) (Some number) (number_under old.below u))
      → IsPutBelow number x (place_in places) (place_in (set places parent new))
  put_below number x is less h =
      record {
        in_parent = λ m u. subst (λ p. place_in (set places parent new) p u ≡ cond (same_name x.instance u) (Some number) (place_in places p u)) (sym is) (here u);
        in_others = λ k g u. ap (option_and_then (λ (p : PlaceTerms). number_under p.below u))
            (get_other places parent k new (λ q. g (omega (arith, is, less)) (q ∙ sym is)));
      }
    where
      here : (u : Name) → place_in (set places parent new) parent u ≡ cond (same_name x.instance u) (Some number) (place_in places parent u)
      here u =
          ap (option_and_then (λ (p : PlaceTerms). number_under p.below u)) (get_set places parent new l)
          ∙ h u
          ∙ ap (cond (same_name x.instance u) (Some number)) (sym (ap (option_and_then (λ (p : PlaceTerms). number_under p.below u)) (get_there places parent old d l e)))

  pub terms_stay : ((n : Name) → term_under new.terms n ≡ term_under old.terms n) → (k : ℕ) (n : Name) → term_in (set places parent new) k n ≡ term_in places k n
  terms_stay h k n = by (same_or_other k parent)
    where
      by : (k ≡ parent) ⊎ (k ≢ parent) → term_in (set places parent new) k n ≡ term_in places k n
      by (inl q) =
          ap (λ j. term_in (set places parent new) j n) q
          ∙ ap (option_and_then (λ (p : PlaceTerms). term_under p.terms n)) (get_set places parent new l)
          ∙ h n
          ∙ sym (ap (λ j. term_in places j n) q ∙ ap (option_and_then (λ (p : PlaceTerms). term_under p.terms n)) (get_there places parent old d l e))
      by (inr q) = ap (option_and_then (λ (p : PlaceTerms). term_under p.terms n)) (get_other places parent k new q)

-- ---- the places that stand in a place

-- These are the numbers, below an end, of the places that stand in the place with number k, by the names of their instances.
pub record AreBelowUpTo (spots : List Spot) (end k : ℕ) (child : Name → Option ℕ) : Type 0 where
  pub each : (u : Name) (c : ℕ) → child u ≡ Some c → (x : Spot) × (slice_get spots c ≡ Some x) × (x.parent ≡ k) × (k < c) × (x.instance ≡ u)
  pub all : (c : ℕ) (x : Spot) → c < end → slice_get spots c ≡ Some x → x.parent ≡ k → k < c → is_some (child x.instance) ≡ true

pub none_below : (spots : List Spot) (k : ℕ) (child : Name → Option ℕ) → ((n : Name) → child n ≡ None) → AreBelowUpTo spots 0 k child
none_below spots k child h =
    record {
      each = λ u c e. absurd (false≢true (ap is_some (sym (h u) ∙ e)));
      all = λ c x l. absurd (omega (arith, l));
    }

pub all_below : (spots : List Spot) (end k : ℕ) (child : Name → Option ℕ) → length spots ≤ end → AreBelowUpTo spots end k child → AreBelowUpTo spots (length spots) k child
all_below spots end k child l b = record { each = b.each; all = λ c x w. b.all c x (omega (arith, l, w)) }

module _ (spots : List Spot) (end : ℕ) (x : Spot) (there : slice_get spots end ≡ Some x) (k : ℕ) (before after : ℕ → Name → Option ℕ) (e : IsPutBelow end x before after)
    (b : AreBelowUpTo spots end k (before k)) where
  same_spot : (y : Spot) → slice_get spots end ≡ Some y → y ≡ x
  same_spot y h = same_some y x (sym h ∙ there)

  -- in another place
  kept : ((x.parent < end) → k ≢ x.parent) → AreBelowUpTo spots (end + 1) k (after k)
  kept h =
      record {
        each = λ u c g. b.each u c (sym (e.in_others k h u) ∙ g);
        all = λ c y l at is less. by c y at is less (same_or_other c end) l;
      }
    where
      by : (c : ℕ) (y : Spot) → slice_get spots c ≡ Some y → y.parent ≡ k → k < c → (c ≡ end) ⊎ (c ≢ end) → c < end + 1 → is_some (after k y.instance) ≡ true
      by c y at is less (inl q) l =
          let s : y ≡ x = same_spot y (subst (λ m. slice_get spots m ≡ Some y) q at) in
          let p : x.parent ≡ k = ap (λ (z : Spot). z.parent) (sym s) ∙ is in
          absurd (h (omega (arith, p, less, q)) (sym p))
      by c y at is less (inr q) l = ap is_some (e.in_others k h y.instance) ∙ b.all c y (omega (arith, l, q)) at is less

  -- in its own
  more : x.parent < end → k ≡ x.parent → AreBelowUpTo spots (end + 1) k (after k)
  more l q =
      record { each = λ u c g. each u c (same_name x.instance u) refl g; all = λ c y w at is less. all c y at is less (same_or_other c end) w }
    where
      now : (u : Name) → after k u ≡ cond (same_name x.instance u) (Some end) (before k u)
      now u = subst (λ m. after m u ≡ cond (same_name x.instance u) (Some end) (before m u)) (sym q) (e.in_parent l u)

      each : (u : Name) (c : ℕ) (t : Bool) → same_name x.instance u ≡ t → after k u ≡ Some c
          → (y : Spot) × (slice_get spots c ≡ Some y) × (y.parent ≡ k) × (k < c) × (y.instance ≡ u)
      each u c true s g =
          let is_end : end ≡ c = same_some end c (sym (now u ∙ ap (λ b. cond b (Some end) (before k u)) s) ∙ g) in
          (x, subst (λ m. slice_get spots m ≡ Some x) is_end there, sym q, omega (arith, l, q, is_end), same_is x.instance u s)
      each u c false s g = b.each u c (sym (now u ∙ ap (λ b. cond b (Some end) (before k u)) s) ∙ g)

      put : (t : Bool) (o : Option ℕ) → (t ≡ false → is_some o ≡ true) → is_some (cond t (Some end) o) ≡ true
      put true o h = refl
      put false o h = h refl

      all : (c : ℕ) (y : Spot) → slice_get spots c ≡ Some y → y.parent ≡ k → k < c → (c ≡ end) ⊎ (c ≢ end) → c < end + 1 → is_some (after k y.instance) ≡ true
      all c y at is less (inl p) w =
          let s : y ≡ x = same_spot y (subst (λ m. slice_get spots m ≡ Some y) p at) in
          ap is_some (now y.instance)
          ∙ ap (λ t. is_some (cond t (Some end) (before k y.instance))) (subst (λ (z : Spot). same_name x.instance z.instance ≡ true) (sym s) (is_same x.instance))
      all c y at is less (inr p) w =
          ap is_some (now y.instance) ∙ put (same_name x.instance y.instance) (before k y.instance) (λ f. b.all c y (omega (arith, w, p)) at is less)

  pub one_more_below : AreBelowUpTo spots (end + 1) k (after k)
  one_more_below = by (same_or_other k x.parent)
    where
      at_parent : (x.parent < end) ⊎ (end ≤ x.parent) → k ≡ x.parent → AreBelowUpTo spots (end + 1) k (after k)
      at_parent (inl l) q = more l q
      at_parent (inr l) q = kept (λ w. absurd (omega (arith, w, l)))

      less_or_not : (m n : ℕ) → (m < n) ⊎ (n ≤ m)
      less_or_not m zero = inr (omega arith)
      less_or_not zero (suc n) = inl (omega arith)
      less_or_not (suc m) (suc n) = step (less_or_not m n)
        where
          step : (m < n) ⊎ (n ≤ m) → (suc m < suc n) ⊎ (suc n ≤ suc m)
          step (inl l) = inl (omega (arith, l))
          step (inr l) = inr (omega (arith, l))

      by : (k ≡ x.parent) ⊎ (k ≢ x.parent) → AreBelowUpTo spots (end + 1) k (after k)
      by (inl q) = at_parent (less_or_not x.parent end) q
      by (inr h) = kept (λ w. h)

pub spot_there : (ps : List Place) (i : ℕ) (d : Place) → i < length ps → slice_get (spots_of ps) i ≡ Some (spot_of (get_or ps i d))
spot_there [] i d l = absurd (omega (arith, l))
spot_there (p ∷ ps) zero d l = refl
spot_there (p ∷ ps) (suc i) d l = spot_there ps i d (omega (arith, l))

-- What is so at one place of a list, where the places are asked one after the other.
use Rattle.std.proofs.Common.{◌≡◌, ◌∙◌, ◌<◌, ◌≤◌, ◌+◌, ℕ, zero, suc, ap, sym, subst, arith, inl, inr, Bool, true, false, true≢false, ◌⊎◌, ◌||◌, List, [], ◌∷◌, map, length, drop, get_or, slice_get, Some, refl}
use Rattle.std.specs.Prelude.{◌↔◌, IsTrue}
use Rattle.std.specs.List.{list_any}
use Rattle.std.proofs.lemmas.List.{drop_more, at_drop_all, drop_all}
use Rattle.verilog_trees.specs.Syntax.{Item, Source}
use Rattle.v_scopes.proofs.Parts.{some_is}
use Rattle.v_size.specs.declared.rule.Broken.{Broken}
use Rattle.v_size.specs.Rule.{both}
use Rattle.v_places.specs.Below.{Spot}
use Rattle.place_kinds.specs.Places.{SomeSpot, SomeWith, IsReadySpot, AreReadySpots, IsDrivenSpot, AreDrivenSpots}
use Rattle.v_judged.specs.Rules.{spot_rules, rules_after}

-- ---- one of those that are left, behind one that is asked

module _ (b : Bool) (Here Left All : Type 0) (told : IsTrue b ↔ Here) (known : All ↔ (Here ⊎ Left)) where
  here : b ≡ true → IsTrue true ↔ All
  here e = ((λ t. known.1 (inl (told.0 e))), (λ a. refl))

  further : b ≡ false → All ↔ Left
  further e = ((λ a. left (known.0 a)), (λ l. known.1 (inr l)))
    where
      left : Here ⊎ Left → Left
      left (inl h) = absurd (true≢false (sym (told.1 h) ∙ e))
      left (inr l) = l

no_more : (All : Type 0) → All ↔ ⊥ → IsTrue false ↔ All
no_more All known = ((λ t. absurd (true≢false (sym t))), (λ a. absurd (known.0 a)))

-- ---- places

module _ {X : Type 0} (view : X → Spot) (IsSo : Spot → Type 0) (xs : List X) (i : ℕ) where
  abbrev SomeLeft : ℕ → Type 0
  SomeLeft k = SomeSpot IsSo (map view (drop k xs))

  abbrev AreLeft : Type 0
  AreLeft = SomeSpot IsSo (map view xs) ↔ SomeLeft i

  split : (r d : X) → i < length xs → r ≡ get_or xs i d → AreLeft → SomeSpot IsSo (map view xs) ↔ (IsSo (view r) ⊎ SomeLeft (i + 1))
  split r d lt is known = subst (λ ys. SomeSpot IsSo (map view xs) ↔ SomeSpot IsSo (map view ys)) (drop_more xs i d lt ∙ ap (λ y. y ∷ drop (i + 1) xs) (sym is)) known

  pub spot_found : (r d : X) (b : Bool) → i < length xs → r ≡ get_or xs i d → IsTrue b ↔ IsSo (view r) → b ≡ true → AreLeft → IsTrue true ↔ SomeSpot IsSo (map view xs)
  spot_found r d b lt is told e known = here b (IsSo (view r)) (SomeLeft (i + 1)) (SomeSpot IsSo (map view xs)) told (split r d lt is known) e

  pub spot_passed : (r d : X) (b : Bool) → i < length xs → r ≡ get_or xs i d → IsTrue b ↔ IsSo (view r) → b ≡ false → AreLeft
      → SomeSpot IsSo (map view xs) ↔ SomeLeft (i + 1)
  spot_passed r d b lt is told e known = further b (IsSo (view r)) (SomeLeft (i + 1)) (SomeSpot IsSo (map view xs)) told (split r d lt is known) e

  pub no_spot : length xs ≤ i → AreLeft → IsTrue false ↔ SomeSpot IsSo (map view xs)
  no_spot le known = no_more (SomeSpot IsSo (map view xs)) (subst (λ ys. SomeSpot IsSo (map view xs) ↔ SomeSpot IsSo (map view ys)) (drop_all i xs le) known)

-- ---- tests, and rules that are gathered

module _ {X : Type 0} (view : X → Spot) (xs : List X) (i : ℕ) where
  module _ (test : Spot → Bool) (all : Bool) (known : all ≡ list_any test (map view (drop i xs))) where
    module _ (r d : X) (b : Bool) (lt : i < length xs) (is : r ≡ get_or xs i d) (told : b ≡ test (view r)) where
      first : all ≡ (b || list_any test (map view (drop (i + 1) xs)))
      first =
          known ∙ (ap (λ ys. list_any test (map view ys)) (drop_more xs i d lt ∙ ap (λ y. y ∷ drop (i + 1) xs) (sym is))
          ∙ ap (λ a. a || list_any test (map view (drop (i + 1) xs))) (sym told))

      pub one_passes : b ≡ true → true ≡ all
      one_passes e = sym (first ∙ ap (λ a. a || list_any test (map view (drop (i + 1) xs))) e)

      pub one_fails : b ≡ false → all ≡ list_any test (map view (drop (i + 1) xs))
      one_fails e = first ∙ ap (λ a. a || list_any test (map view (drop (i + 1) xs))) e

    pub none_passes : length xs ≤ i → false ≡ all
    none_passes le = sym (known ∙ at_drop_all (λ ys. list_any test (map view ys)) xs i le)

  module _ (source : Source) (all found : Broken) (known : all ≡ rules_after source found (map view (drop i xs))) where
    pub gathered : (r d : X) (b new : Broken) → i < length xs → r ≡ get_or xs i d → b ≡ spot_rules source (view r) → new ≡ both found b
        → all ≡ rules_after source new (map view (drop (i + 1) xs))
    gathered r d b new lt is told e =
        known ∙ (ap (λ ys. rules_after source found (map view ys)) (drop_more xs i d lt ∙ ap (λ y. y ∷ drop (i + 1) xs) (sym is))
        ∙ ap (λ a. rules_after source a (map view (drop (i + 1) xs))) (ap (both found) (sym told) ∙ sym e))

    pub all_gathered : length xs ≤ i → found ≡ all
    all_gathered le = sym (known ∙ at_drop_all (λ ys. rules_after source found (map view ys)) xs i le)

-- ---- one of a list

pub got : {Y A : Type 0} (part : Y → A) (ys : List Y) (i : ℕ) (s e : Y) → i < length ys → s ≡ get_or ys i e → slice_get (map part ys) i ≡ Some (part s)
got part [] i s e lt is = absurd (omega (arith, lt))
got part (y ∷ ys) zero s e lt is = ap (λ u. Some (part u)) (sym is)
got part (y ∷ ys) (suc i) s e lt is = got part ys i s e (omega (arith, lt)) is

parts_at : {Y A : Type 0} (part : Y → A) (ys : List Y) (i : ℕ) (q : A) → i < length ys → slice_get (map part ys) i ≡ Some q
    → map part (drop i ys) ≡ (q ∷ map part (drop (i + 1) ys))
parts_at part [] i q lt at = absurd (omega (arith, lt))
parts_at part (y ∷ ys) i q lt at =
    let one = sym (got part (y ∷ ys) i (get_or (y ∷ ys) i y) y lt refl) ∙ at in
    ap (map part) (drop_more (y ∷ ys) i y lt) ∙ ap (λ u. u ∷ map part (drop (i + 1) (y ∷ ys))) (some_is (part (get_or (y ∷ ys) i y)) q one)

-- ---- places with one of a list besides

module _ {X Y A : Type 0} (view : X → Spot) (part : Y → A) (IsSo : A → Spot → Type 0) (xs : List X) (ys : List Y) (i : ℕ) where
  abbrev AllWith : Type 0
  AllWith = SomeWith IsSo (map part ys) (map view xs)

  abbrev LeftWith : ℕ → Type 0
  LeftWith k = SomeWith IsSo (map part (drop k ys)) (map view (drop k xs))

  abbrev AreLeftWith : Type 0
  AreLeftWith = AllWith ↔ LeftWith i

  split_with : (r d : X) (q : A) → i < length xs → i < length ys → r ≡ get_or xs i d → slice_get (map part ys) i ≡ Some q → AreLeftWith
      → AllWith ↔ (IsSo q (view r) ⊎ LeftWith (i + 1))
  split_with r d q lt within is its known =
      subst (λ us. AllWith ↔ SomeWith IsSo us (map view (r ∷ drop (i + 1) xs))) (parts_at part ys i q within its)
      (subst (λ us. AllWith ↔ SomeWith IsSo (map part (drop i ys)) (map view us)) (drop_more xs i d lt ∙ ap (λ y. y ∷ drop (i + 1) xs) (sym is)) known)

  pub with_found : (r d : X) (q : A) (b : Bool) → i < length xs → i < length ys → r ≡ get_or xs i d → slice_get (map part ys) i ≡ Some q
      → IsTrue b ↔ IsSo q (view r) → b ≡ true → AreLeftWith → IsTrue true ↔ AllWith
  with_found r d q b lt within is its told t known = here b (IsSo q (view r)) (LeftWith (i + 1)) AllWith told (split_with r d q lt within is its known) t

  pub with_passed : (r d : X) (q : A) (b : Bool) → i < length xs → i < length ys → r ≡ get_or xs i d → slice_get (map part ys) i ≡ Some q
      → IsTrue b ↔ IsSo q (view r) → b ≡ false → AreLeftWith → AllWith ↔ LeftWith (i + 1)
  with_passed r d q b lt within is its told t known = further b (IsSo q (view r)) (LeftWith (i + 1)) AllWith told (split_with r d q lt within is its known) t

  pub none_with : length xs ≤ i → AreLeftWith → IsTrue false ↔ AllWith
  none_with le known = no_more AllWith ((λ a. ended (map part (drop i ys)) (subst (λ us. SomeWith IsSo (map part (drop i ys)) (map view us)) (drop_all i xs le) (known.0 a))), (λ f. absurd f))
    where
      ended : (us : List A) → SomeWith IsSo us [] → ⊥
      ended [] h = h
      ended (u ∷ us) h = h

-- ---- what is asked of each place

pub ready_at : {X : Type 0} (view : X → Spot) (xs : List X) (i : ℕ) (r d : X) → i < length xs → r ≡ get_or xs i d → AreReadySpots (map view xs) → IsReadySpot (view r)
ready_at view [] i r d lt is h = absurd (omega (arith, lt))
ready_at view (x ∷ xs) zero r d lt is h = subst (λ y. IsReadySpot (view y)) (sym is) h.0
ready_at view (x ∷ xs) (suc i) r d lt is h = ready_at view xs i r d (omega (arith, lt)) is h.1

pub driven_at : {X Y : Type 0} (view : X → Spot) (part : Y → List Item) (ys : List Y) (xs : List X) (i : ℕ) (r d : X) (q : List Item) → i < length xs → i < length ys
    → r ≡ get_or xs i d → slice_get (map part ys) i ≡ Some q → AreDrivenSpots (map part ys) (map view xs) → IsDrivenSpot q (view r)
driven_at view part ys [] i r d q lt within is its h = absurd (omega (arith, lt))
driven_at view part [] (x ∷ xs) i r d q lt within is its h = absurd (omega (arith, within))
driven_at view part (y ∷ ys) (x ∷ xs) zero r d q lt within is its h =
    subst (λ u. IsDrivenSpot u (view r)) (some_is (part y) q its) (subst (λ u. IsDrivenSpot (part y) (view u)) (sym is) h.0)
driven_at view part (y ∷ ys) (x ∷ xs) (suc i) r d q lt within is its h = driven_at view part ys xs i r d q (omega (arith, lt)) (omega (arith, within)) is its h.1

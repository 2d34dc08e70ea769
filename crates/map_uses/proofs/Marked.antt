-- Marked elements of a list.
use Rattle.std.proofs.Common.{◌≡◌, ℕ, zero, suc, Bool, true, false, ◌⊎◌, inl, inr, refl, ap, List, [], ◌∷◌, ◌++◌, map, Some}
use Rattle.std.specs.Prelude.{slice_get}
use Rattle.std.proofs.lemmas.Bool.{false≢true}
use Rattle.verilog_unique.proofs.Descent.{IsAmong}
use Rattle.v_places.proofs.Spots.{same_some}
use Rattle.map_uses.specs.Users.{IsMarked}
use Rattle.map_uses.specs.Whole.{flag_each}

-- an element with its flag set
abbrev pub MarkedIn : {A : Type 0} → List A → List Bool → A → Type 0
MarkedIn [] bs x = ⊥
MarkedIn (y ∷ xs) [] x = ⊥
MarkedIn (y ∷ xs) (b ∷ bs) x = ((y ≡ x) × (b ≡ true)) ⊎ MarkedIn xs bs x

pub marked_at : {A : Type 0} (xs : List A) (bs : List Bool) (x : A) → MarkedIn xs bs x → (k : ℕ) × (slice_get xs k ≡ Some x) × IsMarked bs k
marked_at [] bs x h = absurd h
marked_at (y ∷ xs) [] x h = absurd h
marked_at (y ∷ xs) (b ∷ bs) x (inl e) = (0, ap Some e.0, ap Some e.1)
marked_at (y ∷ xs) (b ∷ bs) x (inr h) = let r = marked_at xs bs x h in (suc r.0, r.1, r.2)

pub at_marked : {A : Type 0} (xs : List A) (bs : List Bool) (k : ℕ) (x : A) → slice_get xs k ≡ Some x → IsMarked bs k → MarkedIn xs bs x
at_marked [] bs k x e g = cc
at_marked (y ∷ xs) [] k x e g = cc
at_marked (y ∷ xs) (b ∷ bs) zero x e g = inl (same_some y x e, same_some b true g)
at_marked (y ∷ xs) (b ∷ bs) (suc k) x e g = inr (at_marked xs bs k x e g)

pub among : {A : Type 0} (xs : List A) (bs : List Bool) (x : A) → MarkedIn xs bs x → IsAmong xs x
among [] bs x h = absurd h
among (y ∷ xs) [] x h = absurd h
among (y ∷ xs) (b ∷ bs) x (inl e) = inl e.0
among (y ∷ xs) (b ∷ bs) x (inr h) = inr (among xs bs x h)

-- ---- lists one after the other

abbrev pub AsLong : {A : Type 0} → List A → List Bool → Type 0
AsLong [] [] = Unit {0}
AsLong [] (b ∷ bs) = ⊥
AsLong (x ∷ xs) [] = ⊥
AsLong (x ∷ xs) (b ∷ bs) = AsLong xs bs

pub on_left : {A : Type 0} (xs ys : List A) (bs cs : List Bool) (x : A) → MarkedIn xs bs x → MarkedIn (xs ++ ys) (bs ++ cs) x
on_left [] ys bs cs x h = absurd h
on_left (y ∷ xs) ys [] cs x h = absurd h
on_left (y ∷ xs) ys (b ∷ bs) cs x (inl e) = inl e
on_left (y ∷ xs) ys (b ∷ bs) cs x (inr h) = inr (on_left xs ys bs cs x h)

pub on_right : {A : Type 0} (xs ys : List A) (bs cs : List Bool) (x : A) → AsLong xs bs → MarkedIn ys cs x → MarkedIn (xs ++ ys) (bs ++ cs) x
on_right [] ys [] cs x l h = h
on_right [] ys (b ∷ bs) cs x l h = absurd l
on_right (y ∷ xs) ys [] cs x l h = absurd l
on_right (y ∷ xs) ys (b ∷ bs) cs x l h = inr (on_right xs ys bs cs x l h)

pub on_either : {A : Type 0} (xs ys : List A) (bs cs : List Bool) (x : A) → AsLong xs bs → MarkedIn (xs ++ ys) (bs ++ cs) x → MarkedIn xs bs x ⊎ MarkedIn ys cs x
on_either [] ys [] cs x l h = inr h
on_either [] ys (b ∷ bs) cs x l h = absurd l
on_either (y ∷ xs) ys [] cs x l h = absurd l
on_either (y ∷ xs) ys (b ∷ bs) cs x l (inl e) = inl (inl e)
on_either (y ∷ xs) ys (b ∷ bs) cs x l (inr h) = by (on_either xs ys bs cs x l h) where
  by : MarkedIn xs bs x ⊎ MarkedIn ys cs x → MarkedIn (y ∷ xs) (b ∷ bs) x ⊎ MarkedIn ys cs x
  by (inl k) = inl (inr k)
  by (inr k) = inr k

-- ---- one flag for each

pub long_each : {A : Type 0} (b : Bool) (xs : List A) → AsLong xs (flag_each b xs)
long_each b [] = tt
long_each b (x ∷ xs) = long_each b xs

pub all_each : {A : Type 0} (xs : List A) (x : A) → IsAmong xs x → MarkedIn xs (flag_each true xs) x
all_each [] x h = absurd h
all_each (y ∷ xs) x (inl e) = inl (e, refl)
all_each (y ∷ xs) x (inr h) = inr (all_each xs x h)

module _ {A B : Type 0} (f : A → B) where
  pub long_mapped : (b : Bool) (xs : List A) → AsLong (map f xs) (flag_each b xs)
  long_mapped b [] = tt
  long_mapped b (x ∷ xs) = long_mapped b xs

  pub all_mapped : (xs : List A) (y : B) → IsAmong (map f xs) y → MarkedIn (map f xs) (flag_each true xs) y
  all_mapped [] y h = absurd h
  all_mapped (x ∷ xs) y (inl e) = inl (e, refl)
  all_mapped (x ∷ xs) y (inr h) = inr (all_mapped xs y h)

  pub none_mapped : (xs : List A) (y : B) → MarkedIn (map f xs) (flag_each false xs) y → ⊥
  none_mapped [] y h = h
  none_mapped (x ∷ xs) y (inl e) = false≢true e.1
  none_mapped (x ∷ xs) y (inr h) = none_mapped xs y h

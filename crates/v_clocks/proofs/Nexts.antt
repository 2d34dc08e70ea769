-- The sets of clock nets, one after the other: those of a module rest on those of the one around it.
use Rattle.std.proofs.Common.{◌≡◌, ◌∙◌, ℕ, zero, suc, ◌+◌, ◌<◌, Bool, false, List, [], ◌∷◌, ◌++◌, length, get_or, refl, sym, ap, subst, Some, arith}
use Rattle.std.specs.Prelude.{slice_get}
use Rattle.std.proofs.lemmas.List.{length-append}
use Rattle.wb_values.specs.Value.{Name, same_name}
use Rattle.v_places.specs.Below.{Spot}
use Rattle.v_places.proofs.Spots.{get_within, within_get, same_some}
use Rattle.v_clocks.specs.Nets.{nets_below, nets_at, nets_next, nets_after, nets_of}

abbrev pub Nets : Type 0
Nets = Name → Bool

-- ---- lists

pub get_there : {A : Type 0} (xs : List A) (k : ℕ) (x d : A) → slice_get xs k ≡ Some x → get_or xs k d ≡ x
get_there [] k x d e = cc
get_there (y ∷ xs) zero x d e = same_some y x e
get_there (y ∷ xs) (suc k) x d e = get_there xs k x d e

get_left : {A : Type 0} (xs ys : List A) (k : ℕ) (x : A) → slice_get xs k ≡ Some x → slice_get (xs ++ ys) k ≡ Some x
get_left [] ys k x e = cc
get_left (y ∷ xs) ys zero x e = e
get_left (y ∷ xs) ys (suc k) x e = get_left xs ys k x e

get_last : {A : Type 0} (xs : List A) (x : A) (k : ℕ) → k ≡ length xs → slice_get (xs ++ x ∷ []) k ≡ Some x
get_last [] x zero e = refl
get_last [] x (suc k) e = absurd (omega (arith, e))
get_last (y ∷ xs) x zero e = absurd (omega (arith, e))
get_last (y ∷ xs) x (suc k) e = get_last xs x k (omega (arith, e))

-- ---- sets

pub sets_length : (clock : Name) (before : List Nets) (xs : List Spot) → length (nets_after clock before xs) ≡ length before + length xs
sets_length clock before [] = omega arith
sets_length clock before (x ∷ xs) =
    let l : length (before ++ nets_next clock before x ∷ []) ≡ length before + 1 = length-append before (nets_next clock before x ∷ []) in
    let r : length (nets_after clock (before ++ nets_next clock before x ∷ []) xs) ≡ length (before ++ nets_next clock before x ∷ []) + length xs
    = sets_length clock (before ++ nets_next clock before x ∷ []) xs in
    omega (arith, l, r)

set_stays : (clock : Name) (before : List Nets) (xs : List Spot) (k : ℕ) (h : Nets) → slice_get before k ≡ Some h → slice_get (nets_after clock before xs) k ≡ Some h
set_stays clock before [] k h e = e
set_stays clock before (x ∷ xs) k h e =
    set_stays clock (before ++ nets_next clock before x ∷ []) xs k h (get_left before (nets_next clock before x ∷ []) k h e)

-- what the set of a module is, which has this number
pub record IsNext (clock : Name) (all : List Nets) (k : ℕ) (x : Spot) (h : Nets) : Type 0 where
  pub top : k ≡ 0 → h ≡ (λ n. same_name clock n)
  pub below : 0 < k → x.parent < k → h ≡ (λ n. nets_below (nets_at all x.parent) x n)

next_is : (clock : Name) (before all : List Nets) (x : Spot) (k : ℕ) → k ≡ length before
    → ((j : ℕ) (h : Nets) → slice_get before j ≡ Some h → slice_get all j ≡ Some h) → IsNext clock all k x (nets_next clock before x)
next_is clock [] all x k e stays = record { top = λ z. refl; below = λ l b. absurd (omega (arith, l, e)) }
next_is clock (a ∷ as_) all x k e stays =
    record {
      top = λ z. absurd (omega (arith, z, e));
      below = λ l b.
          let f = within_get (a ∷ as_) x.parent (subst (λ m. x.parent < m) e b) in
          let same : nets_at (a ∷ as_) x.parent ≡ nets_at all x.parent
          = get_there (a ∷ as_) x.parent f.0 (λ n. false) f.1 ∙ sym (get_there all x.parent f.0 (λ n. false) (stays x.parent f.0 f.1)) in
          λ i. λ n. nets_below (same i) x n;
    }

each_next : (clock : Name) (before : List Nets) (xs : List Spot) (j k : ℕ) (x : Spot) (h : Nets) → k ≡ length before + j → slice_get xs j ≡ Some x
    → slice_get (nets_after clock before xs) k ≡ Some h → IsNext clock (nets_after clock before xs) k x h
each_next clock before [] j k x h e i g = cc
each_next clock before (y ∷ xs) zero k x h e i g =
    let one : Nets = nets_next clock before y in
    let all : List Nets = nets_after clock (before ++ one ∷ []) xs in
    let last : slice_get all k ≡ Some one = set_stays clock (before ++ one ∷ []) xs k one (get_last before one k (omega (arith, e))) in
    subst (λ (z : Spot). IsNext clock all k z h) (same_some y x i)
    (subst (IsNext clock all k y) (same_some one h (sym last ∙ g))
    (next_is clock before all y k (omega (arith, e)) (λ j f c. set_stays clock (before ++ one ∷ []) xs j f (get_left before (one ∷ []) j f c))))
each_next clock before (y ∷ xs) (suc j) k x h e i g =
    let l : length (before ++ nets_next clock before y ∷ []) ≡ length before + 1 = length-append before (nets_next clock before y ∷ []) in
    each_next clock (before ++ nets_next clock before y ∷ []) xs j k x h (omega (arith, e, l)) i g

pub set_is : (clock : Name) (spots : List Spot) (k : ℕ) (x : Spot) (h : Nets) → slice_get spots k ≡ Some x → slice_get (nets_of clock spots) k ≡ Some h
    → IsNext clock (nets_of clock spots) k x h
set_is clock spots k x h i g = each_next clock [] spots k k x h (omega arith) i g

-- there is one for each module
pub set_there : (clock : Name) (spots : List Spot) (k : ℕ) (x : Spot) → slice_get spots k ≡ Some x → slice_get (nets_of clock spots) k ≡ Some (nets_at (nets_of clock spots) k)
set_there clock spots k x e =
    let l = get_within spots k x e in
    let n : length (nets_of clock spots) ≡ 0 + length spots = sets_length clock [] spots in
    let f = within_get (nets_of clock spots) k (omega (arith, l, n)) in
    f.1 ∙ ap Some (sym (get_there (nets_of clock spots) k f.0 (λ n. false) f.1))

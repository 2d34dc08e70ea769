-- Names by numbers under their dotted names: the steps from a module outwards, the number that stands before a name, and one name after
-- the other.
use Rattle.std.proofs.Common.{◌≡◌, ◌∙◌, ℕ, zero, suc, ◌+◌, ◌-◌, ◌<◌, ◌≤◌, ◌^◌, false, List, [], ◌∷◌, ◌++◌, map, length, take, get_or, inl, inr, refl, sym, ap, subst, Bor, Option, Some, None, option_map, Result, Ok, Err, arith}
use Rattle.std.specs.Prelude.{◌≢◌, slice_get, IfOk}
use Rattle.std.specs.Option.{MatchOption}
use Rattle.std.specs.Str.Parse.{ParsesUnsigned}
use Rattle.std.specs.Fmt.{decimal}
use Rattle.std.proofs.lemmas.List.{append_assoc, append-nil, take_more, map_more, map-append, length-map, get_or-map}
use Rattle.std.proofs.lemmas.Fmt.{parse-decimal}
use Rattle.std.proofs.lemmas.Str.Pattern.{IsSplitOnceResult, split_after}
use Rattle.wb_values.specs.Value.{Name}
use Rattle.verilog_meaning.specs.Hierarchy.{PathStep, Placed, dotted}
use Rattle.verilog_meaning.specs.Settled.{Design, IsPlacedIn, IsDeclared}
use Rattle.verilog_exists.proofs.Dots.{Plain}
use Rattle.flat_designs.specs.Flat.{Naming}
use Rattle.v_places.specs.Below.{Spot}
use Rattle.v_places.specs.declared.place.Place.{Place}
use Rattle.v_places.specs.Views.{spot_of, spots_of}
use Rattle.v_places.proofs.Spots.{get_within, same_some}
use Rattle.v_flat.specs.Paths.{paths_of}
use Rattle.v_flat.specs.Numbered.{number_among, numbered}
use Rattle.v_flat.specs.Whole.{IsPlacing}
use Rattle.v_flat.proofs.Places.{IsPath, at_path_number}
use Rattle.v_flat.proofs.Whole.{IsFound, found}
use Rattle.v_flat.proofs.Connected.{get_map}
use Rattle.v_flat.proofs.Numbers.{plain_decimal, with_dot, number_of_placed, below_all}
use Rattle.v_elab.specs.Told.{AreToldBy}
use Rattle.v_elab.specs.Telling.{under_steps, IsToldIn}

-- ---- steps

-- one more step, around the others
under_last : (us : List Name) (u n : Name) → under_steps (us ++ u ∷ []) n ≡ u ++ 46 ∷ under_steps us n
under_last [] u n = refl
under_last (v ∷ us) u n = under_last us u (v ++ 46 ∷ n)

-- These steps lead outwards from the module with number k to the one with number j: a name in the one stands in the other under them.
abbrev pub LeadsOut : List Spot → (k j : ℕ) → List Name → Type 0
LeadsOut spots k j us = (q : List PathStep) → slice_get (paths_of spots) k ≡ Some q
    → (r : List PathStep) × (slice_get (paths_of spots) j ≡ Some r) × ((n : Name) → dotted q n ≡ dotted r (under_steps us n))

pub no_step : (spots : List Spot) (k : ℕ) → LeadsOut spots k k []
no_step spots k q e = (q, e, λ n. refl)

pub next_step : (spots : List Spot) (k j : ℕ) (us : List Name) (x : Spot) → slice_get spots j ≡ Some x → x.parent < j → LeadsOut spots k j us
    → LeadsOut spots k x.parent (us ++ x.instance ∷ [])
next_step spots k j us x e low h q at =
    let r = h q at in
    let f = at_path_number spots j r.0 r.1 in
    let is_path : IsPath (paths_of spots) j x r.0 = subst (λ y. IsPath (paths_of spots) j y r.0) (same_some f.0 x (sym f.1.is_spot ∙ e)) f.1.is_path in
    by r.0 is_path r.2
  where
    by : (r : List PathStep) → IsPath (paths_of spots) j x r → ((n : Name) → dotted q n ≡ dotted r (under_steps us n))
        → (a : List PathStep) × (slice_get (paths_of spots) x.parent ≡ Some a) × ((n : Name) → dotted q n ≡ dotted a (under_steps (us ++ x.instance ∷ []) n))
    by r (inl i) g = (
      i.around,
      i.is_around,
      λ n.
          g n ∙ ap (λ p. dotted p (under_steps us n)) i.is_path
          ∙ ap (λ v. dotted i.around (v ++ 46 ∷ under_steps us n)) (append-nil x.instance)
          ∙ ap (dotted i.around) (sym (under_last us x.instance n)),
    )
    by r (inr i) g = let first = i.first in absurd (omega (arith, first, low))

pub all_steps : (spots : List Spot) (k j : ℕ) (us : List Name) → ((x : Spot) → slice_get spots j ≡ Some x → j ≤ x.parent) → LeadsOut spots k j us
    → (q : List PathStep) → slice_get (paths_of spots) k ≡ Some q → (n : Name) → dotted q n ≡ under_steps us n
all_steps spots k j us top h q at n =
    let r = h q at in
    let f = at_path_number spots j r.0 r.1 in
    by r.0 f.0 (top f.0 f.1.is_spot) f.1.is_path (r.2 n)
  where
    by : (r : List PathStep) (x : Spot) → j ≤ x.parent → IsPath (paths_of spots) j x r → dotted q n ≡ dotted r (under_steps us n) → dotted q n ≡ under_steps us n
    by r x high (inl i) g = let before = i.before in absurd (omega (arith, before, high))
    by r x high (inr i) g = g ∙ ap (λ p. dotted p (under_steps us n)) i.is_path

-- ---- the list of places

got : {A : Type 0} (xs : List A) (k : ℕ) (d : A) → k < length xs → slice_get xs k ≡ Some (get_or xs k d)
got [] k d l = absurd (omega (arith, l))
got (x ∷ xs) zero d l = refl
got (x ∷ xs) (suc k) d l = got xs k d (omega (arith, l))

spot_got : (ps : List Place) (k : ℕ) (d x : Place) → k < length ps → x ≡ get_or ps k d → slice_get (spots_of ps) k ≡ Some (spot_of x)
spot_got ps k d x l e = get_map spot_of ps k ∙ ap (option_map spot_of) (got ps k d l ∙ ap Some (sym e))

-- a turn: the place has another around it, and the name of its instance is added
pub turn_outwards : (ps : List Place) (k j : ℕ) (a b c d e : Place) (us vs : List (Bor (List ℕ))) (u : Bor (List ℕ)) → j < length ps
    → a ≡ get_or ps j d → a.parent < j → b ≡ get_or ps j e → u.now ≡ (spot_of b).instance → vs ≡ us ++ u ∷ []
    → LeadsOut (spots_of ps) k j (map (λ n. n.now) us) → LeadsOut (spots_of ps) k (get_or ps j c).parent (map (λ n. n.now) vs)
turn_outwards ps k j a b c d e us vs u l is_a low is_b name more h =
    let x : Place = get_or ps j c in
    let one : x ≡ a = same_some x a (sym (got ps j c l) ∙ got ps j d l ∙ ap Some (sym is_a)) in
    let two : b ≡ x = same_some b x (ap Some is_b ∙ sym (got ps j e l) ∙ got ps j c l) in
    let outer : x.parent < j = subst (λ (z : Place). z.parent < j) (sym one) low in
    let added : map (λ (n : Bor (List ℕ)). n.now) vs ≡ map (λ (n : Bor (List ℕ)). n.now) us ++ (spot_of x).instance ∷ [] =
    ap (map (λ (n : Bor (List ℕ)). n.now)) more ∙ map-append (λ (n : Bor (List ℕ)). n.now) us (u ∷ [])
    ∙ ap (λ m. map (λ (n : Bor (List ℕ)). n.now) us ++ m ∷ []) (name ∙ ap (λ (z : Place). (spot_of z).instance) two) in
    subst (LeadsOut (spots_of ps) k x.parent) (sym added)
    (next_step (spots_of ps) k j (map (λ (n : Bor (List ℕ)). n.now) us) (spot_of x) (spot_got ps j c x l refl) outer h)

pub past_places : (ps : List Place) (j : ℕ) → length ps ≤ j → (x : Spot) → slice_get (spots_of ps) j ≡ Some x → j ≤ x.parent
past_places ps j high x e = let l = get_within (spots_of ps) j x e in let many = length-map ps spot_of in absurd (omega (arith, high, l, many))

pub top_place : (ps : List Place) (j : ℕ) (d y : Place) → j < length ps → y ≡ get_or ps j d → j ≤ y.parent
    → (x : Spot) → slice_get (spots_of ps) j ≡ Some x → j ≤ x.parent
top_place ps j d y l f high x e = subst (λ (z : Spot). j ≤ z.parent) (same_some (spot_of y) x (sym (spot_got ps j d y l f) ∙ e)) high

-- ---- steps that are written, the outermost first

abbrev pub AreWritten : (before : Name) → (us : List Name) → (left : ℕ) → (text : Name) → Type 0
AreWritten before us left text = (n : Name) → text ++ under_steps (take left us) n ≡ before ++ under_steps us n

pub one_written : (before : Name) (us : List Name) (left : ℕ) (d text more new : Name) → left < length us → more ≡ text ++ get_or us left d → new ≡ more ++ 46 ∷ []
    → AreWritten before us (left + 1) text → AreWritten before us left new
one_written before us left d text more new l e f h n =
    let u = get_or us left d in
    ap (λ t. t ++ under_steps (take left us) n) f ∙ append_assoc more (46 ∷ []) (under_steps (take left us) n)
    ∙ ap (λ t. t ++ 46 ∷ under_steps (take left us) n) e ∙ append_assoc text u (46 ∷ under_steps (take left us) n)
    ∙ ap (λ t. text ++ t) (sym (under_last (take left us) u n))
    ∙ ap (λ vs. text ++ under_steps vs n) (sym (take_more us left d l)) ∙ h n

pub step_written : (before : Name) (steps : List (Bor (List ℕ))) (left : ℕ) (d : Bor (List ℕ)) (text more new : Name) → 0 < left → left ≤ length steps
    → more ≡ text ++ (get_or steps (left - 1) d).now → new ≡ more ++ 46 ∷ []
    → AreWritten before (map (λ n. n.now) steps) left text → AreWritten before (map (λ n. n.now) steps) (left - 1) new
step_written before steps left d text more new some within e f h =
    let us : List Name = map (λ (n : Bor (List ℕ)). n.now) steps in
    let many = length-map steps (λ (n : Bor (List ℕ)). n.now) in
    let here = get_or-map (λ (n : Bor (List ℕ)). n.now) steps (left - 1) d [] (omega (arith, some, within)) in
    let back : left ≡ left - 1 + 1 = omega (arith, some) in
    one_written before us (left - 1) [] text more new (omega (arith, some, within, many)) (e ∙ ap (λ u. text ++ u) (sym here)) f (subst (λ j. AreWritten before us j text) back h)

-- ---- the number before the first dot

free_of_dots : (ds : List ℕ) → Plain ds → (i : ℕ) → i < length ds → get_or ds i 0 ≢ 46
free_of_dots [] p i l = absurd (omega (arith, l))
free_of_dots (d ∷ ds) p zero l = λ e. p (inl e)
free_of_dots (d ∷ ds) p (suc i) l = free_of_dots ds (λ h. p (inr h)) i (omega (arith, l))

-- what stands before and after the first dot of a text that begins with a number and a dot
module _ (k : ℕ) (n text : Name) (low : k < 2 ^ 64) (is_text : text ≡ decimal k ++ 46 ∷ n) where
  cut_at_number : (r : Option (Bor (List ℕ) × Bor (List ℕ))) → IsSplitOnceResult 46 text r → MatchOption r ⊥ (λ x. (x.0.now ≡ decimal k) × (x.1.now ≡ n))
  cut_at_number r s = split_after 46 text (decimal k) n r s (omega arith) is_text (free_of_dots (decimal k) (plain_decimal k low))

  pub uncut : (r : Option (Bor (List ℕ) × Bor (List ℕ))) → IsSplitOnceResult 46 text r → r ≡ None → ⊥
  uncut r s e = subst (λ o. MatchOption o ⊥ (λ x. (x.0.now ≡ decimal k) × (x.1.now ≡ n))) e (cut_at_number r s)

  pub cut : (r : Option (Bor (List ℕ) × Bor (List ℕ))) → IsSplitOnceResult 46 text r → (x : Bor (List ℕ) × Bor (List ℕ)) → r ≡ Some x
      → (x.0.now ≡ decimal k) × (x.1.now ≡ n)
  cut r s x e = subst (λ o. MatchOption o ⊥ (λ z. (z.0.now ≡ decimal k) × (z.1.now ≡ n))) e (cut_at_number r s)

pub number_read : {E : Type 0} (k x : ℕ) (bs : List ℕ) (r : Result ℕ E) → k < 2 ^ 64 → bs ≡ decimal k → ParsesUnsigned 64 10 bs r → r ≡ Ok x → x ≡ k
number_read {E} k x bs r low e h is = same (sym is ∙ parse-decimal 64 k bs r low low e h)
  where
    same : ◌≡◌ {A = Result ℕ E} (Ok x) (Ok k) → x ≡ k
    same i = cc

pub number_lost : {E : Type 0} (k : ℕ) (x : E) (bs : List ℕ) (r : Result ℕ E) → k < 2 ^ 64 → bs ≡ decimal k → ParsesUnsigned 64 10 bs r → r ≡ Err x → ⊥
number_lost {E} k x bs r low e h is = never (sym is ∙ parse-decimal 64 k bs r low low e h)
  where
    never : ◌≡◌ {A = Result ℕ E} (Err x) (Ok k) → ⊥
    never i = cc

-- ---- one name

pub told_as_numbered : (spots : List Spot) (name text : Name) → length spots < 2 ^ 64
    → ((k : ℕ) (n : Name) (q : List PathStep) → k < 2 ^ 64 → name ≡ decimal k ++ 46 ∷ n → slice_get (paths_of spots) k ≡ Some q → text ≡ dotted q n)
    → IsToldIn spots name text
told_as_numbered spots name text few f d h p n at declared e =
    let number : ℕ = number_among (paths_of spots) p.path in
    let g : IsFound d spots p = found d spots h p at in
    let same : number ≡ g.number = number_of_placed false d spots h few p at in
    let there : slice_get (paths_of spots) number ≡ Some g.path = subst (λ k. slice_get (paths_of spots) k ≡ Some g.path) (sym same) g.stands.is_at.is_there in
    let is_path : g.path ≡ p.path = ap (λ (z : Placed). z.path) g.is_placed in
    f number n p.path (below_all false d spots h few p at) (sym e ∙ with_dot false number n refl)
    (subst (λ q. slice_get (paths_of spots) number ≡ Some q) is_path there)

-- a number and a name that were read
abbrev parts : ℕ → Name → Option (ℕ × Name)
parts k n = Some (k, n)

one_pair : (j k : ℕ) (m n : Name) → parts j m ≡ parts k n → (j ≡ k) × (m ≡ n)
one_pair j k m n e =
    let f : ℕ × Name = (j, m) in
    let g : ℕ × Name = (k, n) in
    let same : f ≡ g = same_some f g e in
    (ap (λ (z : ℕ × Name). z.0) same, ap (λ (z : ℕ × Name). z.1) same)

-- The text is the dotted name of the name that was read, in the module with the number that was read.
pub told_as_read : (spots : List Spot) (name text own : Name) (number : ℕ) → length spots < 2 ^ 64
    → ((k : ℕ) (n : Name) → k < 2 ^ 64 → name ≡ decimal k ++ 46 ∷ n → parts number own ≡ parts k n)
    → ((q : List PathStep) → slice_get (paths_of spots) number ≡ Some q → text ≡ dotted q own) → IsToldIn spots name text
told_as_read spots name text own number few read h =
    told_as_numbered spots name text few
    (λ k n q low e at.
    let same = one_pair number k own n (read k n low e) in
    h q (subst (λ j. slice_get (paths_of spots) j ≡ Some q) (sym same.0) at) ∙ ap (dotted q) same.1)

-- nothing was read
pub told_unread : (spots : List Spot) (name text : Name) → length spots < 2 ^ 64
    → ((k : ℕ) (n : Name) → k < 2 ^ 64 → name ≡ decimal k ++ 46 ∷ n → None ≡ parts k n) → IsToldIn spots name text
told_unread spots name text few unread = told_as_numbered spots name text few (λ k n q low e at. absurd (never k n (unread k n low e)))
  where
    never : (k : ℕ) (n : Name) → None ≡ parts k n → ⊥
    never k n e = cc

pub if_ok : {A E : Type 0} {P Q : A → Type 0} (r : Result A E) → ((x : A) → P x → Q x) → IfOk r P → IfOk r Q
if_ok (Ok x) f h = f x h
if_ok (Err e) f h = h

pub if_ok_all : {A E : Type 0} {Q : A → Type 0} (r : Result A E) → ((x : A) → Q x) → IfOk r Q
if_ok_all (Ok x) f = f x
if_ok_all (Err e) f = tt

-- ---- one name after the other

pub one_told : (d : Design) (called : Naming) (ns ms : List Name) (n m : Name)
    → ((p : Placed) (k : Name) → IsPlacedIn d p → IsDeclared p k → called p.path k ≡ n → m ≡ dotted p.path k)
    → AreToldBy d called ns ms → AreToldBy d called (ns ++ n ∷ []) (ms ++ m ∷ [])
one_told d called [] [] n m h g = (h, tt)
one_told d called [] (x ∷ ms) n m h g = absurd g
one_told d called (x ∷ ns) [] n m h g = absurd g
one_told d called (x ∷ ns) (y ∷ ms) n m h g = (g.0, one_told d called ns ms n m h g.1)

pub told_turn : {A : Type 0} (view : A → Name) (spots : List Spot) (names : List (Bor (List ℕ))) (i : ℕ) (e : Bor (List ℕ)) (list new : List A) (m : A) → i < length names
    → new ≡ list ++ m ∷ [] → IsToldIn spots (get_or names i e).now (view m)
    → ((d : Design) → IsPlacing d spots → AreToldBy d (numbered false spots) (map (λ n. n.now) (take i names)) (map view list))
    → (d : Design) → IsPlacing d spots → AreToldBy d (numbered false spots) (map (λ n. n.now) (take (i + 1) names)) (map view new)
told_turn view spots names i e list new m l p is_told h d placing =
    let front : List Name = map (λ (n : Bor (List ℕ)). n.now) (take i names) in
    let ns : map (λ (n : Bor (List ℕ)). n.now) (take (i + 1) names) ≡ front ++ (get_or names i e).now ∷ [] = map_more (λ (n : Bor (List ℕ)). n.now) names i e l in
    let ms : map view new ≡ map view list ++ view m ∷ [] = ap (map view) p ∙ map-append view list (m ∷ []) in
    subst (λ xs. AreToldBy d (numbered false spots) xs (map view new)) (sym ns)
    (subst (AreToldBy d (numbered false spots) (front ++ (get_or names i e).now ∷ [])) (sym ms)
    (one_told d (numbered false spots) front (map view list) (get_or names i e).now (view m) (is_told d placing) (h d placing)))

-- What is asked of some places is asked of all that share with them.
use Rattle.std.proofs.Common.{◌≡◌, ◌∙◌, ◌<◌, ◌≤◌, ◌+◌, ℕ, zero, suc, refl, ap, sym, subst, arith, inl, inr, Bool, true, false, true≢false, nat_eq, ◌⊎◌, ◌||◌, List, [], ◌∷◌, ◌++◌, map, length, get_or, Some, option_map}
use Rattle.std.specs.Prelude.{◌↔◌, slice_get, IsTrue}
use Rattle.std.specs.List.{list_any}
use Rattle.std.proofs.lemmas.Bool.{cases_lt}
use Rattle.std.proofs.lemmas.Bool.Decides.{nat_tests}
use Rattle.std.proofs.lemmas.List.{length-map, map-append}
use Rattle.std.proofs.lemmas.Option.{slice_get-map, slice_get_within, get_or_from_slice_get}
use Rattle.wb_values.specs.Value.{Name, Entries}
use Rattle.verilog_trees.specs.Syntax.{Item, Module}
use Rattle.verilog_meaning.specs.Expression.{Object}
use Rattle.verilog_meaning.specs.Hierarchy.{Placed, module_named}
use Rattle.verilog_meaning.specs.Settled.{Design}
use Rattle.verilog_designs.specs.Known.{known_module_scope}
use Rattle.v_value.specs.declared.scope.Declaration.{Declaration}
use Rattle.v_value.specs.Narrow.{HasNarrowObjects}
use Rattle.v_value.specs.Scope.{objects_of}
use Rattle.v_scopes.specs.declared.table.ModuleScope.{ModuleScope}
use Rattle.v_scopes.proofs.Parts.{some_is, none_some}
use Rattle.v_drivers.specs.Premises.{AreNarrowItems}
use Rattle.v_drivers.specs.Sets.{drivers, TwoMeet}
use Rattle.v_assigned.specs.Names.{HasNamesOf}
use Rattle.v_paths.specs.Modules.{AreFitItems, HasLatchIn, HasBadEventListIn}
use Rattle.v_places.specs.Below.{Spot}
use Rattle.v_places.specs.Places.{ArePlaces}
use Rattle.v_places.proofs.AtPaths.{known_module, found_named}
use Rattle.place_kinds.specs.Places.{SomeSpot, IsReadySpot, AreReadySpots, IsDrivenSpot, HasBadEventListAt, HasLatchAt, HasBadDriverAt, assigns_bad_name}
use Rattle.v_judged.proofs.Loops.{got}
use Rattle.v_judged.specs.Sharing.{IsLike, IsSame, HasLike, HasOne, HasOther, IsGrown, IsSharingFirst, IsSharing}

-- ---- lists

get_left : {A : Type 0} (xs ys : List A) (k : ℕ) (x : A) → slice_get xs k ≡ Some x → slice_get (xs ++ ys) k ≡ Some x
get_left [] ys k x e = absurd (none_some x e)
get_left (z ∷ xs) ys zero x e = e
get_left (z ∷ xs) ys (suc k) x e = get_left xs ys k x e

get_last : {A : Type 0} (xs : List A) (x : A) → slice_get (xs ++ x ∷ []) (length xs) ≡ Some x
get_last [] x = refl
get_last (z ∷ xs) x = get_last xs x

get_either : {A : Type 0} (xs : List A) (x : A) (k : ℕ) (y : A) → slice_get (xs ++ x ∷ []) k ≡ Some y → (slice_get xs k ≡ Some y) ⊎ (y ≡ x)
get_either [] x zero y e = inr (sym (some_is x y e))
get_either [] x (suc k) y e = absurd (none_some y e)
get_either (z ∷ xs) x zero y e = inl e
get_either (z ∷ xs) x (suc k) y e = get_either xs x k y e

length_more : {A : Type 0} (xs : List A) (x : A) → length (xs ++ x ∷ []) ≡ length xs + 1
length_more [] x = refl
length_more (z ∷ xs) x = let e = length_more xs x in omega (arith, e)

-- ---- places that are found

record FoundAt (Q : Spot → Type 0) (xs : List Spot) : Type 0 where
  number : ℕ
  spot : Spot
  is_spot : slice_get xs number ≡ Some spot
  is_so : Q spot

module _ (Q : Spot → Type 0) where
  some_at : (xs : List Spot) → SomeSpot Q xs → FoundAt Q xs
  some_at [] h = absurd h
  some_at (x ∷ xs) (inl q) = record { number = 0; spot = x; is_spot = refl; is_so = q }
  some_at (x ∷ xs) (inr h) = let f = some_at xs h in record { number = suc f.number; spot = f.spot; is_spot = f.is_spot; is_so = f.is_so }

  at_some : (xs : List Spot) (k : ℕ) (x : Spot) → slice_get xs k ≡ Some x → Q x → SomeSpot Q xs
  at_some [] k x e q = absurd (none_some x e)
  at_some (y ∷ xs) zero x e q = inl (subst Q (sym (some_is y x e)) q)
  at_some (y ∷ xs) (suc k) x e q = inr (at_some xs k x e q)

module _ (q : Spot → Bool) where
  any_some : (xs : List Spot) → list_any q xs ≡ true → SomeSpot (λ x. q x ≡ true) xs
  any_some [] e = absurd (true≢false (sym e))
  any_some (x ∷ xs) e = by (q x) refl (any_some xs) e
    where
      by : (b : Bool) → q x ≡ b → (list_any q xs ≡ true → SomeSpot (λ y. q y ≡ true) xs) → (b || list_any q xs) ≡ true
          → (q x ≡ true) ⊎ SomeSpot (λ y. q y ≡ true) xs
      by true s f t = inl s
      by false s f t = inr (f t)

  some_any : (xs : List Spot) → SomeSpot (λ x. q x ≡ true) xs → list_any q xs ≡ true
  some_any [] h = absurd h
  some_any (x ∷ xs) (inl e) = ap (λ b. b || list_any q xs) e
  some_any (x ∷ xs) (inr h) = behind (q x) (list_any q xs) (some_any xs h)
    where
      behind : (a b : Bool) → b ≡ true → (a || b) ≡ true
      behind true b e = refl
      behind false b e = e

same_bool : (a b : Bool) → (a ≡ true → b ≡ true) → (b ≡ true → a ≡ true) → a ≡ b
same_bool true b f g = sym (f refl)
same_bool false true f g = g refl
same_bool false false f g = refl

-- ---- what rests on the module and its constants alone

pub turned : (y x : Spot) → IsSame y x → IsSame x y
turned y x s = (sym s.0, sym s.1)

pub moved : (P : Module → Entries Object → Type 0) (y x : Spot) → IsSame y x → P y.of_module y.constants → P x.of_module x.constants
moved P y x s h = subst (λ m. P m x.constants) s.0 (subst (λ c. P y.of_module c) s.1 h)

module _ (chosen : List Spot) (numbers : List ℕ) (spots : List Spot) (h : IsSharing IsSame chosen numbers spots) where
  pub shared_some : (P : Module → Entries Object → Type 0) → SomeSpot (λ x. P x.of_module x.constants) chosen ↔ SomeSpot (λ x. P x.of_module x.constants) spots
  shared_some P = (there, back)
    where
      there : SomeSpot (λ x. P x.of_module x.constants) chosen → SomeSpot (λ x. P x.of_module x.constants) spots
      there a =
          let f = some_at (λ x. P x.of_module x.constants) chosen a in
          let g = h.among f.number f.spot f.is_spot in
          at_some (λ x. P x.of_module x.constants) spots g.0 f.spot g.1 f.is_so

      back : SomeSpot (λ x. P x.of_module x.constants) spots → SomeSpot (λ x. P x.of_module x.constants) chosen
      back a =
          let f = some_at (λ x. P x.of_module x.constants) spots a in
          let e = h.each f.number f.spot f.is_spot in
          at_some (λ x. P x.of_module x.constants) chosen e.one.number e.one.other e.one.is_other
          (moved P f.spot e.one.other (turned e.one.other f.spot e.stands) f.is_so)

  pub shared_any : (p : Module → Entries Object → Bool) → list_any (λ x. p x.of_module x.constants) chosen ≡ list_any (λ x. p x.of_module x.constants) spots
  shared_any p =
      same_bool (list_any (λ x. p x.of_module x.constants) chosen) (list_any (λ x. p x.of_module x.constants) spots)
      (λ e. some_any (λ x. p x.of_module x.constants) spots ((shared_some (λ m c. p m c ≡ true)).0 (any_some (λ x. p x.of_module x.constants) chosen e)))
      (λ e. some_any (λ x. p x.of_module x.constants) chosen ((shared_some (λ m c. p m c ≡ true)).1 (any_some (λ x. p x.of_module x.constants) spots e)))

  pub shared_ready : AreReadySpots spots → AreReadySpots chosen
  shared_ready r = all_ready chosen (λ w y e. let g = h.among w y e in ready_get spots g.0 y g.1 r)
    where
      ready_get : (xs : List Spot) (k : ℕ) (x : Spot) → slice_get xs k ≡ Some x → AreReadySpots xs → IsReadySpot x
      ready_get [] k x e a = absurd (none_some x e)
      ready_get (y ∷ xs) zero x e a = subst IsReadySpot (some_is y x e) a.0
      ready_get (y ∷ xs) (suc k) x e a = ready_get xs k x e a.1

      all_ready : (ys : List Spot) → ((w : ℕ) (y : Spot) → slice_get ys w ≡ Some y → IsReadySpot y) → AreReadySpots ys
      all_ready [] f = tt
      all_ready (y ∷ ys) f = (f 0 y refl, all_ready ys (λ w z e. f (suc w) z e))

-- ---- the place with a number

pub there : {X : Type 0} (xs : List X) (i : ℕ) → i < length xs → (x : X) × (slice_get xs i ≡ Some x)
there [] i lt = absurd (omega (arith, lt))
there (x ∷ xs) zero lt = (x, refl)
there (x ∷ xs) (suc i) lt = there xs i (omega (arith, lt))

pub spot_there : {X : Type 0} (view : X → Spot) (xs : List X) (i : ℕ) (x : X) → slice_get xs i ≡ Some x → slice_get (map view xs) i ≡ Some (view x)
spot_there view xs i x e = slice_get-map view xs i ∙ ap (option_map view) e

pub read : {X : Type 0} (xs : List X) (i : ℕ) (x : X) → slice_get xs i ≡ Some x → x ≡ get_or xs i x
read xs i x e = sym (get_or_from_slice_get xs i x x e)

module _ {X : Type 0} (view : X → Spot) (R : Spot → Spot → Type 0) (chosen : List Spot) (numbers : List ℕ) (xs : List X) (h : IsSharing R chosen numbers (map view xs)) (i : ℕ) where
  other_at : (x : X) → slice_get xs i ≡ Some x → HasOther R chosen numbers i (view x)
  other_at x e = h.each i (view x) (spot_there view xs i x e)

  pub has_one : i < length xs → HasOne chosen numbers i
  has_one lt = let f = there xs i lt in (other_at f.0 f.1).one

  pub own_stands : (x : X) → slice_get xs i ≡ Some x → (own : Spot) → ((w : ℕ) (y : Spot) → slice_get numbers i ≡ Some w → slice_get chosen w ≡ Some y → own ≡ y) → R own (view x)
  own_stands x e own told =
      let o = other_at x e in subst (λ s. R s (view x)) (sym (told o.one.number o.one.other o.one.is_number o.one.is_other)) o.stands

-- ---- places with modules of one name have one module

module _ (d : Design) (spots : List Spot) (places : ArePlaces d spots) where
  is_first : (k : ℕ) (x : Spot) → slice_get spots k ≡ Some x → module_named d.source x.of_module.module_name ≡ Some x.of_module
  is_first k x e =
      let s = places.each k (slice_get_within spots k x e) in
      let m : s.place.of_module ≡ x.of_module
      = ap (λ (z : Placed). z.of_module) s.is_place.is_placed ∙ ap (λ (z : Spot). z.of_module) (some_is s.is_place.spot x (sym s.is_place.is_spot ∙ e)) in
      let at = sym (known_module d.source d.top s.path) ∙ ap (option_map (λ (z : Placed). z.of_module)) s.is_known ∙ ap Some m in
      found_named d.source d.top s.path x.of_module at

  pub same_modules : (chosen : List Spot) (numbers : List ℕ) → IsSharing IsLike chosen numbers spots → IsSharing IsSame chosen numbers spots
  same_modules chosen numbers h = record { as_many = h.as_many; each = λ k x e. known k x e (h.each k x e); among = h.among }
    where
      known : (k : ℕ) (x : Spot) → slice_get spots k ≡ Some x → HasOther IsLike chosen numbers k x → HasOther IsSame chosen numbers k x
      known k x e o =
          let g = h.among o.one.number o.one.other o.one.is_other in
          let m = some_is o.one.other.of_module x.of_module (sym (is_first g.0 o.one.other g.1) ∙ (ap (module_named d.source) o.stands.0 ∙ is_first k x e)) in
          record { one = o.one; stands = (m, o.stands.1) }

-- ---- one place more

pub sharing_start : (chosen : List Spot) (numbers : List ℕ) (spots : List Spot) → chosen ≡ [] → numbers ≡ [] → IsSharingFirst IsLike chosen numbers spots 0
sharing_start chosen numbers spots c n =
    record {
      as_many = ap length n;
      within = omega arith;
      each = λ k x lt e. absurd (omega (arith, lt));
      among = λ w y e. absurd (none_some y (ap (λ zs. slice_get zs w) (sym c) ∙ e));
    }

module _ (old new : List Spot) (x : Spot) where
  stays : IsGrown old x new → (w : ℕ) (y : Spot) → slice_get old w ≡ Some y → slice_get new w ≡ Some y
  stays (inl s) w y e = ap (λ zs. slice_get zs w) s ∙ e
  stays (inr s) w y e = ap (λ zs. slice_get zs w) s ∙ get_left old (x ∷ []) w y e

  came : IsGrown old x new → (w : ℕ) (y : Spot) → slice_get new w ≡ Some y → (slice_get old w ≡ Some y) ⊎ (y ≡ x)
  came (inl s) w y e = inl (ap (λ zs. slice_get zs w) (sym s) ∙ e)
  came (inr s) w y e = get_either old x w y (ap (λ zs. slice_get zs w) (sym s) ∙ e)

pub sharing_turn : (old new : List Spot) (numbers more : List ℕ) (spots : List Spot) (i n : ℕ) (x : Spot) → IsSharingFirst IsLike old numbers spots i
    → slice_get spots i ≡ Some x → IsGrown old x new → HasLike new n x → more ≡ numbers ++ n ∷ [] → IsSharingFirst IsLike new more spots (i + 1)
sharing_turn old new numbers more spots i n x h at g like p =
    let many = ap length p ∙ length_more numbers n in
    let was = h.as_many in
    let lt = slice_get_within spots i x at in
    record {
      as_many = omega (arith, many, was);
      within = omega (arith, lt);
      each = λ k z l e. by_number k z l e (cases_lt k i);
      among = λ w y e. by_came w y (came old new x g w y e);
    }
  where
    kept : (k : ℕ) (z : Spot) → HasOther IsLike old numbers k z → HasOther IsLike new more k z
    kept k z o =
        record {
          one = record {
            number = o.one.number;
            other = o.one.other;
            is_number = ap (λ ns. slice_get ns k) p ∙ get_left numbers (n ∷ []) k o.one.number o.one.is_number;
            is_other = stays old new x g o.one.number o.one.other o.one.is_other;
          };
          stands = o.stands;
        }

    here : (k : ℕ) (z : Spot) → k ≡ i → slice_get spots k ≡ Some z → HasOther IsLike new more k z
    here k z s e =
        record {
          one = record {
            number = n;
            other = like.other;
            is_number = ap (λ ns. slice_get ns k) p ∙ subst (λ j. slice_get (numbers ++ n ∷ []) j ≡ Some n) (h.as_many ∙ sym s) (get_last numbers n);
            is_other = like.is_other;
          };
          stands = subst (IsLike like.other) (some_is x z (sym at ∙ (ap (slice_get spots) (sym s) ∙ e))) like.alike;
        }

    by_number : (k : ℕ) (z : Spot) → k < i + 1 → slice_get spots k ≡ Some z → (k < i) ⊎ (i ≤ k) → HasOther IsLike new more k z
    by_number k z l e (inl lt) = kept k z (h.each k z lt e)
    by_number k z l e (inr ge) = here k z (omega (arith, l, ge)) e

    by_came : (w : ℕ) (y : Spot) → (slice_get old w ≡ Some y) ⊎ (y ≡ x) → (k : ℕ) × (slice_get spots k ≡ Some y)
    by_came w y (inl e) = h.among w y e
    by_came w y (inr s) = (i, at ∙ ap Some (sym s))

pub sharing_end : (chosen : List Spot) (numbers : List ℕ) (spots : List Spot) (i : ℕ) → IsSharingFirst IsLike chosen numbers spots i → length spots ≤ i
    → IsSharing IsLike chosen numbers spots
sharing_end chosen numbers spots i h le =
    let many = h.as_many in
    let within = h.within in
    record {
      as_many = omega (arith, many, within, le);
      each = λ k x e. let lt = slice_get_within spots k x e in h.each k x (omega (arith, lt, le)) e;
      among = h.among;
    }

-- ---- no declarations

are_none : (n : ℕ) → nat_eq n 0 ≡ true → n ≡ 0
are_none n e = grind (arith, nat_tests)

pub none_named : (xs ys : List Declaration) → ys ≡ xs → nat_eq (length xs) 0 ≡ true → objects_of ys ≡ []
none_named xs ys same e = ap objects_of same ∙ empty xs (are_none (length xs) e)
  where
    empty : (zs : List Declaration) → length zs ≡ 0 → objects_of zs ≡ []
    empty [] h = refl
    empty (z ∷ zs) h = absurd (omega (arith, h))

-- ---- one scope more

pub put_behind : {X : Type 0} (view : X → Spot) (xs ys : List X) (x : X) (s : Spot) → ys ≡ xs ++ x ∷ [] → view x ≡ s → map view ys ≡ map view xs ++ s ∷ []
put_behind view xs ys x s e is = ap (map view) e ∙ (map-append view xs (x ∷ []) ∙ ap (λ t. map view xs ++ t ∷ []) is)

pub put_like : {X : Type 0} (view : X → Spot) (xs ys : List X) (x : X) (s : Spot) (n : ℕ) → n ≡ length xs → ys ≡ xs ++ x ∷ [] → view x ≡ s → HasLike (map view ys) n s
put_like view xs ys x s n many e is =
    record {
      other = s;
      is_other = ap (λ zs. slice_get zs n) (put_behind view xs ys x s e is)
          ∙ subst (λ k. slice_get (map view xs ++ s ∷ []) k ≡ Some s) (length-map xs view ∙ sym many) (get_last (map view xs) s);
      alike = (refl, refl);
    }

pub many_of : {X : Type 0} (view : X → Spot) (xs : List X) (i : ℕ) → length xs ≤ i → length (map view xs) ≤ i
many_of view xs i le = let e = length-map xs view in omega (arith, e, le)

-- ---- the scope with the number that a place has

module _ {X : Type 0} (view : X → Spot) (xs : List X) (numbers : List ℕ) (k : ℕ) where
  pub number_within : HasOne (map view xs) numbers k → k < length numbers
  number_within h = slice_get_within numbers k h.number h.is_number

  pub own_within : HasOne (map view xs) numbers k → (n d : ℕ) → n ≡ get_or numbers k d → n < length xs
  own_within h n d is =
      let same = is ∙ get_or_from_slice_get numbers k h.number d h.is_number in
      let lt = slice_get_within (map view xs) h.number h.other h.is_other in
      let e = length-map xs view in
      omega (arith, same, lt, e)

  pub own_is : (n d : ℕ) → n ≡ get_or numbers k d → (w : ℕ) (y : Spot) → slice_get numbers k ≡ Some w → slice_get (map view xs) w ≡ Some y → (r e : X) → r ≡ get_or xs n e → view r ≡ y
  own_is n d is w y at held r e own =
      let same : n ≡ w = is ∙ get_or_from_slice_get numbers k w d at in
      let lt = slice_get_within (map view xs) w y held in
      let many = length-map xs view in
      some_is (view r) y (sym (got view xs n r e (omega (arith, same, lt, many)) own) ∙ (ap (slice_get (map view xs)) same ∙ held))

-- ---- what is told of a scope, at a place

-- the same items and the same scope
told : (P : Module → Entries Object → Type 0) (y x : Spot) → IsSame y x → (b : Bool) → IsTrue b ↔ P y.of_module y.constants → IsTrue b ↔ P x.of_module x.constants
told P y x s b h = moved (λ m c. IsTrue b ↔ P m c) y x s h

pub ready_own : (y x : Spot) → IsSame y x → IsReadySpot x → IsReadySpot y
ready_own y x s h = moved (λ m c. HasNarrowObjects (known_module_scope m c) × AreFitItems (known_module_scope m c) m.items) x y (turned y x s) h

pub driven_own : (items : List Item) (y x : Spot) → IsSame y x → IsDrivenSpot items x → IsDrivenSpot items y
driven_own items y x s h = moved (λ m c. HasNarrowObjects (known_module_scope m c) × AreNarrowItems (known_module_scope m c) items) x y (turned y x s) h

pub events_moved : (net : Name → Bool) (y x : Spot) → IsSame y x → (b : Bool) → IsTrue b ↔ HasBadEventListAt net y → IsTrue b ↔ HasBadEventListAt net x
events_moved net y x s b h = told (λ m c. HasBadEventListIn (known_module_scope m c) net m.items) y x s b h

pub drivers_moved : (items : List Item) (y x : Spot) → IsSame y x → (b : Bool) → IsTrue b ↔ HasBadDriverAt items y → IsTrue b ↔ HasBadDriverAt items x
drivers_moved items y x s b h =
    told (λ m c. TwoMeet (known_module_scope m c) (drivers (known_module_scope m c) items) ⊎ IsTrue (assigns_bad_name m (known_module_scope m c) items)) y x s b h

-- the names of a module, where this is the same
pub names_moved : (names : ModuleScope) (y x : Spot) → IsSame y x → HasNamesOf names y.of_module → HasNamesOf names x.of_module
names_moved names y x s h = subst (HasNamesOf names) s.0 h

pub latches_shared : (chosen : List Spot) (numbers : List ℕ) (spots : List Spot) → IsSharing IsSame chosen numbers spots → (b : Bool) → IsTrue b ↔ SomeSpot HasLatchAt chosen
    → IsTrue b ↔ SomeSpot HasLatchAt spots
latches_shared chosen numbers spots h b t =
    let f = shared_some chosen numbers spots h (λ m c. HasLatchIn (known_module_scope m c) m.items) in
    ((λ x. f.0 (t.0 x)), (λ a. t.1 (f.1 a)))

-- Tables that are filled, name after name.
use Rattle.std.proofs.Common.{◌≡◌, ◌∙◌, ℕ, zero, suc, ◌+◌, ◌<◌, ◌≤◌, Bool, true, false, cond, refl, ap, sym, subst, ◌⊎◌, inl, inr, List, [], ◌∷◌, ◌++◌, take, length, get_or, Option, Some, None, IfSome, arith}
use Rattle.std.specs.Prelude.{slice_index_or}
use Rattle.std.proofs.lemmas.Bool.{cases_lt, cases_Bool, false≢true}
use Rattle.std.proofs.lemmas.List.{get_or_default, take_more}
use Rattle.wb_values.specs.Value.{Name, same_name, Sort, truth, Entries, entry_of}
use Rattle.verilog_meaning.specs.Expression.{Scope, object_or_undeclared, scope_of}
use Rattle.verilog_unique.proofs.Options.{same_is, is_same}
use Rattle.wb_terms.specs.Graph.{Graph, leaf_at}
use Rattle.v_operators.specs.Meaning.{Grows, IsOfSort}
use Rattle.v_operators.proofs.Growing.{IsOfSort-kept, tree_kept}
use Rattle.v_value.specs.declared.scope.Declaration.{Declaration}
use Rattle.v_value.specs.Objects.{objects_of}
use Rattle.v_lower.specs.Lowered.{Images}
use Rattle.v_design.specs.Parts.{Parts}
use Rattle.path_terms.specs.declared.origins.Origin.{Origin}
use Rattle.path_terms.specs.declared.origins.Origin.TheVariants.{Settled, Register}
use Rattle.path_terms.specs.Places.{IsPlaceBelow}
use Rattle.path_terms.specs.Origins.{IsWithout, IsOrigin, AreOrigins, IsPlacedOrigin, IsFrom, IsGivenFrom, IsTermOfName, AreTermsOfNames}

-- ---- places of registers

pub place_turn : (names : ℕ → Name) (j : ℕ) (key n : Name) (o p : Option ℕ) → names j ≡ key → p ≡ cond (same_name key n) (Some j) o → IsPlaceBelow names j n o
    → IsPlaceBelow names (j + 1) n p
place_turn names j key n o p is e h = subst (IsPlaceBelow names (j + 1) n) (sym e) (by (same_name key n) refl)
  where
    less_or_last : (k : ℕ) → k < j + 1 → (k < j) ⊎ (k ≡ j)
    less_or_last k l = elim (cases_lt k j) as (λ _. (k < j) ⊎ (k ≡ j)) [ inl a ↦ inl a | inr b ↦ inr (omega (arith, b, l)) ]

    not_so : same_name key n ≡ false → IsPlaceBelow names j n None → (k : ℕ) → names k ≡ n → (k < j) ⊎ (k ≡ j) → ⊥
    not_so f g k same (inl a) = g k a same
    not_so f g k same (inr b) = false≢true (sym f ∙ subst (λ m. same_name m n ≡ true) (sym same ∙ ap names b ∙ is) (is_same n))

    old : (q : Option ℕ) → same_name key n ≡ false → IsPlaceBelow names j n q → IsPlaceBelow names (j + 1) n q
    old None f g = λ k l same. not_so f g k same (less_or_last k l)
    old (Some k) f g = (let l = g.0 in omega (arith, l), g.1)

    by : (t : Bool) → same_name key n ≡ t → IsPlaceBelow names (j + 1) n (cond t (Some j) o)
    by true f = (omega arith, is ∙ same_is key n f)
    by false f = old o f h

pub no_place : (names : ℕ → Name) (n : Name) (o : Option ℕ) → o ≡ None → IsPlaceBelow names 0 n o
no_place names n o e = subst (IsPlaceBelow names 0 n) (sym e) (λ k l same. absurd (omega (arith, l)))

-- ---- origins by their places

pub same_count : (s : Scope) (e : Parts) (xs : List Declaration) (os : List (Option Origin)) → AreOrigins s e xs os → length xs ≡ length os
same_count s e [] [] h = refl
same_count s e [] (o ∷ os) h = absurd h
same_count s e (x ∷ xs) [] h = absurd h
same_count s e (x ∷ xs) (o ∷ os) h = ap suc (same_count s e xs os h.1)

pub origin_at : (s : Scope) (e : Parts) (xs : List Declaration) (os : List (Option Origin)) (i : ℕ) (d : Declaration) (o : Option Origin) → AreOrigins s e xs os
    → i < length xs → IsOrigin s e (get_or xs i d).name.now (get_or os i o)
origin_at s e [] os i d o h l = absurd (omega (arith, l))
origin_at s e (x ∷ xs) [] i d o h l = absurd h
origin_at s e (x ∷ xs) (q ∷ os) zero d o h l = h.0
origin_at s e (x ∷ xs) (q ∷ os) (suc i) d o h l = origin_at s e xs os i d o h.1 (omega (arith, l))

pub origins_pushed : (s : Scope) (e : Parts) (xs : List Declaration) (os : List (Option Origin)) (x : Declaration) (o : Option Origin) → AreOrigins s e xs os
    → IsOrigin s e x.name.now o → AreOrigins s e (xs ++ x ∷ []) (os ++ o ∷ [])
origins_pushed s e [] [] x o h k = (k, tt)
origins_pushed s e [] (q ∷ os) x o h k = absurd h
origins_pushed s e (y ∷ xs) [] x o h k = absurd h
origins_pushed s e (y ∷ xs) (q ∷ os) x o h k = (h.0, origins_pushed s e xs os x o h.1 k)

pub one_origin : (s : Scope) (e : Parts) (xs : List Declaration) (i : ℕ) (d : Declaration) (os new : List (Option Origin)) (o : Option Origin) → i < length xs
    → AreOrigins s e (take i xs) os → IsOrigin s e (get_or xs i d).name.now o → new ≡ os ++ o ∷ [] → AreOrigins s e (take (i + 1) xs) new
one_origin s e xs i d os new o l h k is =
    subst (λ (ys : List Declaration). AreOrigins s e ys new) (sym (take_more xs i d l))
    (subst (AreOrigins s e (take i xs ++ get_or xs i d ∷ [])) (sym is) (origins_pushed s e (take i xs) os (get_or xs i d) o h k))

-- it is among the names of a store that has those of the parts
pub placed : (s : Scope) (e : Parts) (n : Name) (o : Option Origin) (g : Graph) → e.register_count ≤ length g.names → IsOrigin s e n o
    → IfSome o (IsPlacedOrigin (length g.names))
placed s e n None g l h = tt
placed s e n (Some (Settled id)) g l h = tt
placed s e n (Some (Register k)) g l h = let low = h.2 in omega (arith, low, l)

-- ---- one name more

name_kept : (s : Scope) (e : Parts) (g h : Graph) (n : Name) (id : ℕ) → Grows g h → IsTermOfName s e g n id → IsTermOfName s e h n id
name_kept s e g h n id grows (IsTermOfName.of_net declared plain settled) = IsTermOfName.of_net declared plain settled
name_kept s e g h n id grows (IsTermOfName.of_memory k declared memory low named of_sort leaf) =
    IsTermOfName.of_memory k declared memory low named
    (subst (λ (ns : Entries Sort). IsOfSort h id (slice_index_or ns k ([], truth)).1) (sym grows.names) (IsOfSort-kept id (slice_index_or g.names k ([], truth)).1 grows of_sort))
    (tree_kept id grows of_sort.below ∙ leaf ∙ ap (λ (ns : Entries Sort). leaf_at ns k) (sym grows.names))

-- the first names of a list have their terms
pub record IsFilled (s : Scope) (e : Parts) (xs : List Declaration) (i : ℕ) (g : Graph) (a : Images) : Type 0 where
  pub each : (n : Name) (id : ℕ) → a n ≡ Some id → IsTermOfName s e g n id
  pub all : (k : ℕ) (d : Declaration) → k < i → (s (get_or xs k d).name.now).is_declared ≡ true → a (get_or xs k d).name.now ≡ None
      → IsWithout s e (get_or xs k d).name.now

pub none_filled : (s : Scope) (e : Parts) (xs : List Declaration) (g : Graph) (a : Images) → ((n : Name) → a n ≡ None) → IsFilled s e xs 0 g a
none_filled s e xs g a h = record { each = λ n id k. let no : None ≡ Some id = sym (h n) ∙ k in absurd cc; all = λ k d l. absurd (omega (arith, l)) }

-- the term that comes from an origin is that of the name
from_origin : (s : Scope) (e : Parts) (g : Graph) (n : Name) (o : Origin) (id : ℕ) → IsOrigin s e n (Some o) → IsFrom g o id → IsTermOfName s e g n id
from_origin s e g n (Settled t) id h f = IsTermOfName.of_net h.0 h.1 (h.2 ∙ ap Some (sym f))
from_origin s e g n (Register k) id h f = IsTermOfName.of_memory k.0 h.0 h.1 h.2 h.3 f.0 f.1

module _ (s : Scope) (e : Parts) (xs : List Declaration) (i : ℕ) (g h : Graph) (a b : Images) (x : Declaration) (low : i < length xs) (grows : Grows g h)
    (old : IsFilled s e xs i g a) where
  abbrev name_here : Name
  name_here = (get_or xs i x).name.now

  last_or : (k : ℕ) → k < i + 1 → (k < i) ⊎ (k ≡ i)
  last_or k l = elim (cases_lt k i) as (λ _. (k < i) ⊎ (k ≡ i)) [ inl p ↦ inl p | inr q ↦ inr (omega (arith, q, l)) ]

  at_last : (k : ℕ) (d : Declaration) → k ≡ i → (get_or xs k d).name.now ≡ name_here
  at_last k d is = ap (λ j. (get_or xs j d).name.now) is ∙ ap (λ (y : Declaration). y.name.now) (get_or_default xs i d x low)

  pub turn : (o : Option Origin) → IsOrigin s e name_here o → IsGivenFrom a h name_here b o → IsFilled s e xs (i + 1) h b
  turn None origin given =
      record {
        each = λ n id k. name_kept s e g h n id grows (old.each n id (sym (given n) ∙ k));
        all = λ k d l declared none. by k d (last_or k l) declared none;
      }
    where
      by : (k : ℕ) (d : Declaration) → (k < i) ⊎ (k ≡ i) → (s (get_or xs k d).name.now).is_declared ≡ true → b (get_or xs k d).name.now ≡ None
          → IsWithout s e (get_or xs k d).name.now
      by k d (inl l) declared none = old.all k d l declared (sym (given (get_or xs k d).name.now) ∙ none)
      by k d (inr is) declared none =
          subst (λ m. (s m).is_declared ≡ true → IsWithout s e m) (sym (at_last k d is)) origin declared
  turn (Some o) origin given =
      record {
        each = λ n id k. each_so n id (cases_Bool (same_name name_here n)) k;
        all = λ k d l declared none. by k d (last_or k l) declared none;
      }
    where
      none_given : (n : Name) → b n ≡ None → (same_name name_here n ≡ false) × (a n ≡ None)
      none_given n k = so (same_name name_here n) refl (sym (given.2 n) ∙ k)
        where
          so : (t : Bool) → same_name name_here n ≡ t → cond t (Some given.0) (a n) ≡ None → (same_name name_here n ≡ false) × (a n ≡ None)
          so true f q = absurd cc
          so false f q = (f, q)

      each_so : (n : Name) (id : ℕ) → (same_name name_here n ≡ true) ⊎ (same_name name_here n ≡ false) → b n ≡ Some id → IsTermOfName s e h n id
      each_so n id (inl t) k =
          let same : Some given.0 ≡ Some id = ap (λ u. cond u (Some given.0) (a n)) (sym t) ∙ sym (given.2 n) ∙ k in
          subst (λ m. IsTermOfName s e h m id) (same_is name_here n t)
          (subst (IsTermOfName s e h name_here) (some_same same) (from_origin s e h name_here o given.0 origin given.1))
        where
          some_same : {y z : ℕ} → Some y ≡ Some z → y ≡ z
          some_same q = cc
      each_so n id (inr t) k = name_kept s e g h n id grows (old.each n id (ap (λ u. cond u (Some given.0) (a n)) (sym t) ∙ sym (given.2 n) ∙ k))

      by : (k : ℕ) (d : Declaration) → (k < i) ⊎ (k ≡ i) → (s (get_or xs k d).name.now).is_declared ≡ true → b (get_or xs k d).name.now ≡ None
          → IsWithout s e (get_or xs k d).name.now
      by k d (inl l) declared none = old.all k d l declared (none_given (get_or xs k d).name.now none).1
      by k d (inr is) declared none =
          absurd (false≢true (sym (none_given (get_or xs k d).name.now none).0 ∙ subst (λ m. same_name name_here m ≡ true) (sym (at_last k d is)) (is_same name_here)))

-- ---- all names

-- what a scope declares stands in its list
declared_at : (xs : List Declaration) (n : Name) (d : Declaration) → (scope_of (objects_of xs) n).is_declared ≡ true
    → (k : ℕ) × (k < length xs) × ((get_or xs k d).name.now ≡ n)
declared_at [] n d h = absurd (false≢true h)
declared_at (x ∷ xs) n d h = by (same_name x.name.now n) refl h (declared_at xs n d)
  where
    by : (t : Bool) → same_name x.name.now n ≡ t → (object_or_undeclared (cond t (Some (Rattle.v_value.specs.Objects.object_of x.object)) (entry_of (objects_of xs) n))).is_declared ≡ true
        → ((scope_of (objects_of xs) n).is_declared ≡ true → (k : ℕ) × (k < length xs) × ((get_or xs k d).name.now ≡ n))
        → (k : ℕ) × (k < length (x ∷ xs)) × ((get_or (x ∷ xs) k d).name.now ≡ n)
    by true e k later = (0, omega arith, same_is x.name.now n e)
    by false e k later = let r = later k in let l = r.1 in (suc r.0, omega (arith, l), r.2)

pub all_filled : (e : Parts) (xs : List Declaration) (i : ℕ) (g : Graph) (a : Images) → length xs ≤ i → IsFilled (scope_of (objects_of xs)) e xs i g a
    → AreTermsOfNames (scope_of (objects_of xs)) e g a
all_filled e [] i g a l h = record { each = h.each; all = λ n declared none. absurd (false≢true declared) }
all_filled e (x ∷ xs) i g a l h =
    record {
      each = h.each;
      all = λ n declared none.
          let r = declared_at (x ∷ xs) n x declared in
          let low = r.1 in
          subst (IsWithout (scope_of (objects_of (x ∷ xs))) e) r.2
          (h.all r.0 x (omega (arith, low, l)) (ap (λ m. (scope_of (objects_of (x ∷ xs)) m).is_declared) r.2 ∙ declared) (ap a r.2 ∙ none));
    }

-- ---- as the code has it

pub turned : (s : Scope) (xs ys : List Declaration) (os : List (Option Origin)) (i : ℕ) (h k : Graph) (a b : Images) (d : Declaration) (o : Option Origin) (e : Parts)
    → i < length xs → AreOrigins s e xs os → Grows h k → IsFilled s e xs i h a → ys ≡ xs
    → IsGivenFrom a k (get_or ys i d).name.now b (get_or os i o) → IsFilled s e xs (i + 1) k b
turned s xs ys os i h k a b d o e l origins grows old same given =
    turn s e xs i h k a b d l grows old (get_or os i o) (origin_at s e xs os i d o origins l)
    (subst (λ (zs : List Declaration). IsGivenFrom a k (get_or zs i d).name.now b (get_or os i o)) same given)

pub placed_so : (s : Scope) (e : Parts) (xs : List Declaration) (os : List (Option Origin)) (i : ℕ) (g h : Graph) (o : Option Origin) → e.graph ≡ g
    → e.register_count ≤ length g.names → AreOrigins s e xs os → Grows g h → i < length xs → IfSome (get_or os i o) (IsPlacedOrigin (length h.names))
placed_so s e [] os i g h o same counted origins grows l = absurd (omega (arith, l))
placed_so s e (x ∷ xs) os i g h o same counted origins grows l =
    placed s e (get_or (x ∷ xs) i x).name.now (get_or os i o) h (subst (λ (ns : Entries Sort). e.register_count ≤ length ns) (sym grows.names) counted)
    (origin_at s e (x ∷ xs) os i x o origins l)

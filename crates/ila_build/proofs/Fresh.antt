-- Names that are new to a table stay so while others are put, and a call with new names is not refused for one that is there.
use Rattle.std.proofs.Common.{◌≡◌, ℕ, Bool, true, false, ◌||◌, List, [], ◌∷◌, ◌++◌, Bor, Option, None, refl, sym, ap, ◌∙◌, subst}
use Rattle.std.specs.Prelude.{is_some}
use Rattle.std.specs.BTreeMap.{BTreeMap}
use Rattle.std.proofs.lemmas.Bool.{false≢true, and_parts}
use Rattle.std.proofs.lemmas.Slice.Eq.{bytes_eq-Decides}
use Rattle.wb_values.specs.Value.{Name, Sort, same_name, Entries}
use Rattle.model_meaning.specs.Term.{is_sort}
use Rattle.model_meaning.specs.Among.{is_name_in}
use Rattle.wb_terms.specs.declared.nodes.TermId.{TermId}
use Rattle.wb_terms.specs.declared.store.PutStop.{PutStop}
use Rattle.wb_terms.specs.declared.store.PutStop.TheVariants.{BadSort, NoMemory}
use Rattle.ila_build.specs.Standing.{IsFresh, under_name}
use Rattle.ila_build.specs.Refusing.{IsNoRefusal, IsBesides, entry_names, are_sorts}
use Rattle.ila_build.proofs.Sorting.{or_parts}

-- what is refused is refused under more
pub unrefused_by : (Q R : Type 0) (s : PutStop) → (R → Q) → IsNoRefusal s Q → IsNoRefusal s R
unrefused_by Q R BadSort f n = λ r. n (f r)
unrefused_by Q R NoMemory f n = tt

-- ---- lists of names

pub among-append : (q : Name) (ns ms : List Name) → is_name_in q (ns ++ ms) ≡ (is_name_in q ns || is_name_in q ms)
among-append q [] ms = refl
among-append q (n ∷ ns) ms = by_test (same_name q n) (among-append q ns ms) where
  by_test : (b : Bool) → is_name_in q (ns ++ ms) ≡ (is_name_in q ns || is_name_in q ms) → (b || is_name_in q (ns ++ ms)) ≡ ((b || is_name_in q ns) || is_name_in q ms)
  by_test true e = refl
  by_test false e = e

pub fresh_front : (t : BTreeMap (Bor (List ℕ)) TermId) (ns ms : List Name) → IsFresh t (ns ++ ms) → IsFresh t ns
fresh_front t [] ms f = tt
fresh_front t (n ∷ ns) ms f = (f.0, (or_parts (is_name_in n ns) (is_name_in n ms) (sym (among-append n ns ms) ∙ f.1)).0, fresh_front t ns ms f.2)

pub fresh_rest : (t : BTreeMap (Bor (List ℕ)) TermId) (ns ms : List Name) → IsFresh t (ns ++ ms) → IsFresh t ms
fresh_rest t [] ms f = f
fresh_rest t (n ∷ ns) ms f = fresh_rest t ns ms f.2

pub apart : (t : BTreeMap (Bor (List ℕ)) TermId) (ns ms : List Name) (q : Name) → IsFresh t (ns ++ ms) → is_name_in q ms ≡ true → is_name_in q ns ≡ false
apart t [] ms q f h = refl
apart t (n ∷ ns) ms q f h = by_test (same_name q n) refl (apart t ns ms q f.2 h) where
  by_test : (b : Bool) → same_name q n ≡ b → is_name_in q ns ≡ false → (b || is_name_in q ns) ≡ false
  by_test false e rest = rest
  by_test true e rest =
      let out = (or_parts (is_name_in n ns) (is_name_in n ms) (sym (among-append n ns ms) ∙ f.1)).1 in
      absurd (false≢true (sym out ∙ (ap (λ x. is_name_in x ms) (sym ((bytes_eq-Decides q n).0 e)) ∙ h)))

same_self : (n : Name) → same_name n n ≡ true
same_self n = (bytes_eq-Decides n n).1 refl

or_true : (a b : Bool) → b ≡ true → (a || b) ≡ true
or_true true b h = refl
or_true false b h = h

pub fresh_moved : (t u : BTreeMap (Bor (List ℕ)) TermId) (ns : List Name) → IsFresh t ns → ((q : Name) → is_name_in q ns ≡ true → under_name u q ≡ under_name t q) → IsFresh u ns
fresh_moved t u [] f a = tt
fresh_moved t u (n ∷ ns) f a =
    (a n (ap (λ b. b || is_name_in n ns) (same_self n)) ∙ f.0, f.1, fresh_moved t u ns f.2 (λ q h. a q (or_true (same_name q n) (is_name_in q ns) h)))

pub fresh_behind : (t u : BTreeMap (Bor (List ℕ)) TermId) (ns ms : List Name) → IsFresh t (ns ++ ms) → IsBesides t u ns → IsFresh u ms
unfolding IsBesides
fresh_behind t u ns ms f b = fresh_moved t u ms (fresh_rest t ns ms f) (λ q h. b q (apart t ns ms q f h))

pub besides_same : (t : BTreeMap (Bor (List ℕ)) TermId) (ns : List Name) → IsBesides t t ns
unfolding IsBesides
besides_same t ns q h = refl

pub besides_onward : (t u w : BTreeMap (Bor (List ℕ)) TermId) (ns ms : List Name) → IsBesides t u ns → IsBesides u w ms → IsBesides t w (ns ++ ms)
unfolding IsBesides
besides_onward t u w ns ms a b q h =
    let p = or_parts (is_name_in q ns) (is_name_in q ms) (sym (among-append q ns ms) ∙ h) in
    b q p.1 ∙ a q p.0

other_order : (m n : Name) → same_name m n ≡ false → same_name n m ≡ false
other_order m n h = by_test (same_name n m) refl where
  by_test : (b : Bool) → same_name n m ≡ b → b ≡ false
  by_test false e = refl
  by_test true e = absurd (false≢true (sym h ∙ (bytes_eq-Decides m n).1 (sym ((bytes_eq-Decides n m).0 e))))

-- one name was given a meaning
pub besides_one : (t u : BTreeMap (Bor (List ℕ)) TermId) (m : Name) → ((q : Name) → same_name m q ≡ false → under_name u q ≡ under_name t q) → IsBesides t u (m ∷ [])
unfolding IsBesides
besides_one t u m a q h = a q (other_order q m (or_parts (same_name q m) false h).0)

-- ---- the loop over names: what is left is new, and what was put are the names before

pub record IsBringing (t u : BTreeMap (Bor (List ℕ)) TermId) (rest all : List Name) : Type 0 where
  pub fresh : IsFresh t all → IsFresh u rest
  pub besides : (w : BTreeMap (Bor (List ℕ)) TermId) → IsBesides u w rest → IsBesides t w all

pub bring_start : (t : BTreeMap (Bor (List ℕ)) TermId) (all : List Name) → IsBringing t t all all
bring_start t all = record { fresh = λ f. f; besides = λ w b. b }

pub bring_turn : (t u v : BTreeMap (Bor (List ℕ)) TermId) (ns rest all : List Name) → IsBringing t u (ns ++ rest) all → IsBesides u v ns → IsBringing t v rest all
bring_turn t u v ns rest all a b = record { fresh = λ f. fresh_behind u v ns rest (a.fresh f) b; besides = λ w d. a.besides w (besides_onward u v w ns rest b d) }

-- ---- declarations

pub first_sort : (e : Name × Sort) (es : Entries Sort) → are_sorts (e ∷ es) ≡ true → (is_sort e.1 ≡ true) × (are_sorts es ≡ true)
first_sort e es h = and_parts (is_sort e.1) (are_sorts es) h

pub taken : {Q : Type 0} (o : Option TermId) → is_some o ≡ true → (o ≡ None) × Q → ⊥
taken o h q = false≢true (sym (ap is_some q.0) ∙ h)

pub bring_item : {e : Name × Sort} (t u v : BTreeMap (Bor (List ℕ)) TermId) (rest now all : Entries Sort) → now ≡ e ∷ rest → IsBringing t u (entry_names now) (entry_names all) → IsBesides u v (e.0 ∷ []) → IsBringing t v (entry_names rest) (entry_names all)
bring_item {e} t u v rest now all cut a b = bring_turn t u v (e.0 ∷ []) (entry_names rest) (entry_names all) (subst (λ es. IsBringing t u (entry_names es) (entry_names all)) cut a) b

pub sorts_item : {e : Name × Sort} (rest now all : Entries Sort) → now ≡ e ∷ rest → (are_sorts all ≡ true → are_sorts now ≡ true) → are_sorts all ≡ true → are_sorts rest ≡ true
sorts_item {e} rest now all cut a h = (first_sort e rest (subst (λ es. are_sorts es ≡ true) cut (a h))).1

pub declare_lost : {e : Name × Sort} (t u : BTreeMap (Bor (List ℕ)) TermId) (rest now all : Entries Sort) (s : PutStop)
    → now ≡ e ∷ rest → IsBringing t u (entry_names now) (entry_names all) → (are_sorts all ≡ true → are_sorts now ≡ true)
    → IsNoRefusal s ((under_name u e.0 ≡ None) × (is_sort e.1 ≡ true)) → IsNoRefusal s (IsFresh t (entry_names all) × (are_sorts all ≡ true))
declare_lost {e} t u rest now all s cut a b n =
    unrefused_by _ (IsFresh t (entry_names all) × (are_sorts all ≡ true)) s (λ q. ((subst (λ es. IsFresh u (entry_names es)) cut (a.fresh q.0)).0, (first_sort e rest (subst (λ es. are_sorts es ≡ true) cut (b q.1))).0)) n

-- Definitions: what is known of the names after one of them is what its scope says.
use Rattle.std.proofs.Common.{◌≡◌, ◌<◌, Bool, true, false, cond, not, ◌&&◌, ◌||◌, ℕ, zero, suc, ◌+◌, ◌≤◌, drop-cons, List, [], ◌∷◌, length, drop, get_or, map, Bor, Option, Some, None, refl, sym, ap, ◌∙◌, subst, arith}
use Rattle.std.specs.Prelude.{Result, Ok, Err, OnOk, is_ok, is_some, ⊤}
use Rattle.std.specs.BTreeMap.{BTreeMap}
use Rattle.std.proofs.lemmas.Bool.{false≢true, and_parts}
use Rattle.wb_values.specs.Value.{Name, Sort, same_name, Entries, entry_of}
use Rattle.model_meaning.specs.Term.{sort_of}
use Rattle.model_files.specs.Written.{WrittenTerm}
use Rattle.model_files.specs.Scope.{Visible, TermPlace, of_definition, PlacedTerm, placed, defined, term_of, written_sort, placed_definitions, with_definitions}
use Rattle.model_files.specs.Rules.{uses_unknown_name, updates_no_state, accepts_sort}
use Rattle.wb_terms.specs.declared.nodes.TermId.{TermId}
use Rattle.wb_terms.specs.declared.store.PutStop.{PutStop}
use Rattle.wb_terms.specs.declared.store.PutStop.TheVariants.{BadSort, NoMemory}
use Rattle.wb_terms.specs.Graph.{Graph, tree}
use Rattle.std.proofs.lemmas.Slice.Eq.{bytes_eq-Decides}
use Rattle.model_meaning.specs.Among.{is_name_in}
use Rattle.ila_build.specs.Standing.{IsFresh, IsKept, under_name, found, seen, seen_by, StandsFor, IsIn, AreIn, term_by, IsWider, IsPut}
use Rattle.ila_build.specs.Knowing.{Knows, is_right, are_right, AreDefined, defined_names}
use Rattle.ila_build.proofs.Growing.{wider}
use Rattle.ila_build.proofs.Sorting.{AreSorted, sort_is, term_is, or_parts}

-- ---- lists and results

pub on_ok : {A E : Type 0} (r : Result A E) (P : Type 0) → is_ok r ≡ true → OnOk r P → P
on_ok (Ok x) P e d = d
on_ok (Err s) P e d = absurd (false≢true e)

pub rest_cut : {A B : Type 0} (f : A → B) (xs : List A) (i : ℕ) (x : A) → i < length xs → x ≡ get_or xs i x → map f (drop i xs) ≡ f x ∷ map f (drop (i + 1) xs)
rest_cut f xs i x h e =
    let one : suc i ≡ i + 1 = omega arith in
    ap (map f) (drop-cons xs i x h) ∙ (ap (λ y. f y ∷ map f (drop (suc i) xs)) (sym e) ∙ ap (λ j. f x ∷ map f (drop j xs)) one)

pub rest_cut_at : {A B : Type 0} (f : A → B) (xs : List A) (i : ℕ) (d : A) → i < length xs → map f (drop i xs) ≡ f (get_or xs i d) ∷ map f (drop (i + 1) xs)
rest_cut_at f xs i d h =
    let one : suc i ≡ i + 1 = omega arith in
    ap (map f) (drop-cons xs i d h) ∙ ap (λ j. f (get_or xs i d) ∷ map f (drop j xs)) one

pub rest_end : {A B : Type 0} (f : A → B) (xs : List A) (i : ℕ) → length xs ≤ i → map f (drop i xs) ≡ []
rest_end f [] zero h = refl
rest_end f [] (suc i) h = refl
rest_end f (x ∷ xs) zero h = absurd (omega (arith, h))
rest_end f (x ∷ xs) (suc i) h = rest_end f xs i (omega (arith, h))

-- ---- one term

stands_seen : (g : Graph) (v : Visible) (o : Option TermId) → StandsFor g v o → seen g o ≡ v.term
stands_seen g v None s = absurd s
stands_seen g v (Some id) s = s.1

stands_sorted : (g : Graph) (v : Visible) (o : Option TermId) → StandsFor g v o → sort_of v.term ≡ v.sort
stands_sorted g v None s = absurd s
stands_sorted g v (Some id) s = s.2

pub stands_grown : (g h : Graph) (v : Visible) (o : Option TermId) → IsWider g h → StandsFor g v o → StandsFor h v o
stands_grown g h v None b s = absurd s
stands_grown g h v (Some id) b s = (omega (arith, s.0, b.longer), b.trees id.0 s.0 ∙ s.1, s.2)

pub knows_grown : (g h : Graph) (t : BTreeMap (Bor (List ℕ)) TermId) (f : Option TermId) (names : Entries Visible) → IsWider g h → Knows g t f names → Knows h t f names
unfolding Knows
knows_grown g h t f names b k = λ n v e. stands_grown g h v (found t f n) b (k n v e)

pub sorted_of : (g : Graph) (t : BTreeMap (Bor (List ℕ)) TermId) (f : Option TermId) (names : Entries Visible) → Knows g t f names → AreSorted names
unfolding Knows
sorted_of g t f names k n v e = stands_sorted g v (found t f n) (k n v e)

seen_names : (g : Graph) (t : BTreeMap (Bor (List ℕ)) TermId) (f : Option TermId) (names : Entries Visible) → Knows g t f names → (n : Name) (v : Visible) → entry_of names n ≡ Some v → seen_by g t f n ≡ v.term
unfolding Knows seen_by
seen_names g t f names k n v e = stands_seen g v (found t f n) (k n v e)

-- a term of a file that was put: its tree is that of its scope, and it has the written sort
pub record IsTermOf (h : Graph) (id : TermId) (names : Entries Visible) (e : WrittenTerm) : Type 0 where
  pub within : id.0 < length h.nodes
  pub tree : tree h id.0 ≡ term_of names e
  pub sort : sort_of (term_of names e) ≡ written_sort names e

abbrev pub IsRight : Graph → Entries Visible → WrittenTerm → Result TermId PutStop → Type 0
IsRight h names e (Ok id) = IsTermOf h id names e
IsRight h names e (Err BadSort) = ⊥
IsRight h names e (Err NoMemory) = ⊤

pub not_true : (b : Bool) → not b ≡ true → b ≡ false
not_true false h = refl
not_true true h = absurd (false≢true h)

no_sort : (p : TermPlace) (s : Option Sort) → s ≡ None → accepts_sort p s ≡ true → ⊥
no_sort p None e h = false≢true h
no_sort p (Some s) e h = cc

pub right_put : (g h : Graph) (t : BTreeMap (Bor (List ℕ)) TermId) (f : Option TermId) (names : Entries Visible) (e : WrittenTerm) (p : TermPlace) (r : Result TermId PutStop)
    → Knows g t f names → is_right (placed names e p) ≡ true → IsPut g h r (term_by (seen_by g t f) e) → IsRight h names e r
unfolding is_right
right_put g h t f names e p r k right put =
    let a = and_parts (not (uses_unknown_name names e || updates_no_state p)) _ right in
    let u = or_parts (uses_unknown_name names e) (updates_no_state p) (not_true _ a.0) in
    let b = and_parts (accepts_sort p (written_sort names e)) _ a.1 in
    let same_term : term_by (seen_by g t f) e ≡ term_of names e = term_is (seen_by g t f) names e (seen_names g t f names k) u.0 in
    let same_sort : sort_of (term_of names e) ≡ written_sort names e = sort_is names e (sorted_of g t f names k) u.0 b.1 in
    by_result r put same_term same_sort b.0 where
      by_result : (r : Result TermId PutStop) → IsPut g h r (term_by (seen_by g t f) e) → term_by (seen_by g t f) e ≡ term_of names e → sort_of (term_of names e) ≡ written_sort names e → accepts_sort p (written_sort names e) ≡ true → IsRight h names e r
      by_result (Ok id) put a s b = record { within = put.1; tree = put.2 ∙ a; sort = s }
      by_result (Err BadSort) put a s b = no_sort p (written_sort names e) (sym s ∙ (ap sort_of (sym a) ∙ put.1)) b
      by_result (Err NoMemory) put a s b = tt

-- ---- one name more

pub more_names : (names : Entries Visible) (m : Name) (w : Visible) (n : Name) (v : Visible) (P : Option TermId → Type 0) (x y : Option TermId) (b : Bool) → cond b (Some w) (entry_of names n) ≡ Some v → (w ≡ v → P x) → (entry_of names n ≡ Some v → P y) → P (cond b x y)
more_names names m w n v P x y true e p q = p cc
more_names names m w n v P x y false e p q = q e

pub knows_more : (g h : Graph) (t u : BTreeMap (Bor (List ℕ)) TermId) (names : Entries Visible) (m : Name) (w : Visible) (id : TermId)
    → IsWider g h → Knows g t None names → StandsFor h w (Some id)
    → ((q : Name) → under_name u q ≡ cond (same_name m q) (Some id) (under_name t q)) → Knows h u None ((m, w) ∷ names)
unfolding Knows
knows_more g h t u names m w id b k s r n v e =
    subst (StandsFor h v) (sym (r n)) (more_names names m w n v (StandsFor h v) (Some id) (under_name t n) (same_name m n) e (λ x. subst (λ z. StandsFor h z (Some id)) x s) (λ x. stands_grown g h v (under_name t n) b (k n v x)))

pub is_in_more : (h : Graph) (b : Bool) (x y : Option TermId) → IsIn h x → IsIn h y → IsIn h (cond b x y)
is_in_more h true x y i j = i
is_in_more h false x y i j = j

pub are_in_more : (h : Graph) (t u : BTreeMap (Bor (List ℕ)) TermId) (m : Name) (id : TermId) → AreIn h t None → id.0 < length h.nodes
    → ((q : Name) → under_name u q ≡ cond (same_name m q) (Some id) (under_name t q)) → AreIn h u None
unfolding AreIn
are_in_more h t u m id i w r n = subst (IsIn h) (sym (r n)) (is_in_more h (same_name m n) (Some id) (under_name t n) w (i n))

-- ---- a definition

pub first_right : (p : PlacedTerm) (ps : List PlacedTerm) → are_right (p ∷ ps) ≡ true → (is_right p ≡ true) × (are_right ps ≡ true)
unfolding are_right
first_right p ps h = and_parts (is_right p) (are_right ps) h

first_alone : (p : PlacedTerm) → is_right p ≡ true → are_right (p ∷ []) ≡ true
unfolding are_right
first_alone p h = ap (λ b. b && true) h

pub one_defined : (g h : Graph) (t u : BTreeMap (Bor (List ℕ)) TermId) (n : Name) (e : WrittenTerm) (id : TermId)
    → IsPut g h (Ok id) (term_by (seen_by g t None) e)
    → ((q : Name) → under_name u q ≡ cond (same_name n q) (Some id) (under_name t q)) → AreDefined g t h u (Ok tt) ((n, e) ∷ [])
unfolding AreDefined
one_defined g h t u n e id put r names k right =
    let it : IsTermOf h id names e = right_put g h t None names e of_definition (Ok id) k (first_right (placed names e of_definition) [] right).0 put in
    knows_more g h t u names n (defined names e) id (wider put.0) k (it.within, it.tree, it.sort) r

pub one_lost : (g h : Graph) (t u : BTreeMap (Bor (List ℕ)) TermId) (n : Name) (e : WrittenTerm) (s : PutStop)
    → IsPut g h (Err s) (term_by (seen_by g t None) e) → AreDefined g t h u (Err s) ((n, e) ∷ [])
unfolding AreDefined
one_lost g h t u n e BadSort put names k right = λ fresh. right_put g h t None names e of_definition (Err BadSort) k (first_right (placed names e of_definition) [] right).0 put
one_lost g h t u n e NoMemory put names k right = tt

pub one_out : (g h : Graph) (t u : BTreeMap (Bor (List ℕ)) TermId) (ds : Entries WrittenTerm) → AreDefined g t h u (Err NoMemory) ds
unfolding AreDefined
one_out g h t u ds names k right = tt

-- a name that stands in the table already
pub one_twice : (g : Graph) (t : BTreeMap (Bor (List ℕ)) TermId) (n : Name) (e : WrittenTerm) → is_some (under_name t n) ≡ true → AreDefined g t g t (Err BadSort) ((n, e) ∷ [])
unfolding AreDefined
one_twice g t n e h names k right = λ fresh. false≢true (sym (ap is_some fresh.0) ∙ h)

other_name : (m n : Name) (ns : List Name) → is_name_in m ns ≡ false → is_name_in n ns ≡ true → same_name m n ≡ false
other_name m n ns h k = by_test (same_name m n) refl where
  by_test : (b : Bool) → same_name m n ≡ b → b ≡ false
  by_test false e = refl
  by_test true e = absurd (false≢true (sym h ∙ (ap (λ x. is_name_in x ns) ((bytes_eq-Decides m n).0 e) ∙ k)))

abbrev pub IsAside : BTreeMap (Bor (List ℕ)) TermId → BTreeMap (Bor (List ℕ)) TermId → Name → Type 0
IsAside t u m = (q : Name) → same_name m q ≡ false → under_name u q ≡ under_name t q

fresh_from : (t u : BTreeMap (Bor (List ℕ)) TermId) (m : Name) (ns : List Name) → IsAside t u m → is_name_in m ns ≡ false → IsFresh t ns → IsFresh u ns
fresh_from t u m [] a h f = tt
fresh_from t u m (n ∷ ns) a h f =
    let p = or_parts (same_name m n) (is_name_in m ns) h in
    (a n p.0 ∙ f.0, f.1, fresh_from t u m ns a p.1 f.2)

-- ---- a list of definitions: where the loop stands, the rest are still to be put in a scope that the whole leads through

pub record Reaches (first : BTreeMap (Bor (List ℕ)) TermId) (all : Entries WrittenTerm) (g : Graph) (t : BTreeMap (Bor (List ℕ)) TermId) (rest : Entries WrittenTerm) (last : Entries Visible) : Type 0 where
  pub names : Entries Visible
  pub knows : Knows g t None names
  pub right : are_right (placed_definitions names rest) ≡ true
  pub fresh : IsFresh first (defined_names all) → IsFresh t (defined_names rest)
  pub leads : with_definitions names rest ≡ last

unfoldable pub AreReached : Graph → BTreeMap (Bor (List ℕ)) TermId → Graph → BTreeMap (Bor (List ℕ)) TermId → Entries WrittenTerm → Entries WrittenTerm → Type 0
AreReached g t h u rest ds = (names : Entries Visible) → Knows g t None names → are_right (placed_definitions names ds) ≡ true → Reaches t ds h u rest (with_definitions names ds)

pub reached_start : (g : Graph) (t : BTreeMap (Bor (List ℕ)) TermId) (ds : Entries WrittenTerm) → AreReached g t g t ds ds
unfolding AreReached
reached_start g t ds names k right = record { names = names; knows = k; right = right; fresh = λ f. f; leads = refl }

pub reached_turn : (g h k : Graph) (t u w : BTreeMap (Bor (List ℕ)) TermId) (d : Name × WrittenTerm) (rest ds : Entries WrittenTerm)
    → AreReached g t h u (d ∷ rest) ds → AreDefined h u k w (Ok tt) (d ∷ []) → IsAside u w d.0 → AreReached g t k w rest ds
unfolding AreReached AreDefined are_right
reached_turn g h k t u w d rest ds r one aside names knows right =
    let at = r names knows right in
    let parts = first_right (placed at.names d.1 of_definition) (placed_definitions ((d.0, defined at.names d.1) ∷ at.names) rest) at.right in
    record {
      names = (d.0, defined at.names d.1) ∷ at.names;
      knows = one at.names at.knows (first_alone (placed at.names d.1 of_definition) parts.0);
      right = parts.1;
      fresh = λ f. let a = at.fresh f in fresh_from u w d.0 (defined_names rest) aside a.1 a.2;
      leads = at.leads;
    }

pub reached_end : (g h : Graph) (t u : BTreeMap (Bor (List ℕ)) TermId) (ds : Entries WrittenTerm) → AreReached g t h u [] ds → AreDefined g t h u (Ok tt) ds
unfolding AreReached AreDefined are_right
reached_end g h t u ds r names knows right =
    let at = r names knows right in
    subst (Knows h u None) at.leads at.knows

-- a definition that is lost loses the list
pub reached_lost : (g h k : Graph) (t u w : BTreeMap (Bor (List ℕ)) TermId) (d : Name × WrittenTerm) (rest ds : Entries WrittenTerm) (s : PutStop)
    → AreReached g t h u (d ∷ rest) ds → AreDefined h u k w (Err s) (d ∷ []) → AreDefined g t k w (Err s) ds
unfolding AreReached AreDefined are_right
reached_lost g h k t u w d rest ds BadSort r one names knows right =
    let at = r names knows right in
    let parts = first_right (placed at.names d.1 of_definition) (placed_definitions ((d.0, defined at.names d.1) ∷ at.names) rest) at.right in
    λ f. one at.names at.knows (first_alone (placed at.names d.1 of_definition) parts.0) ((at.fresh f).0, refl, tt)
reached_lost g h k t u w d rest ds NoMemory r one names knows right = tt

-- ---- what the table keeps

pub aside : (t u : BTreeMap (Bor (List ℕ)) TermId) (m : Name) (id : TermId) → ((q : Name) → under_name u q ≡ cond (same_name m q) (Some id) (under_name t q)) → IsAside t u m
aside t u m id r q h = r q ∙ ap (λ b. cond b (Some id) (under_name t q)) h

is_known : (o : Option TermId) (id : TermId) → is_some o ≡ false → o ≡ Some id → ⊥
is_known None id h e = cc
is_known (Some x) id h e = false≢true (sym h)

pub none_of : {A : Type 0} (o : Option A) → is_some o ≡ false → o ≡ None
none_of None h = refl
none_of (Some x) h = absurd (false≢true (sym h))

-- a name that was not in the table
pub kept : (t u : BTreeMap (Bor (List ℕ)) TermId) (m : Name) (id : TermId) → is_some (under_name t m) ≡ false
    → ((q : Name) → under_name u q ≡ cond (same_name m q) (Some id) (under_name t q)) → IsKept t u
unfolding IsKept
kept t u m id h r n i e = by_test (same_name m n) refl where
  by_test : (b : Bool) → same_name m n ≡ b → under_name u n ≡ Some i
  by_test false k = aside t u m id r n k ∙ e
  by_test true k = absurd (is_known (under_name t m) i h (ap (under_name t) ((bytes_eq-Decides m n).0 k) ∙ e))

pub kept_same : (t : BTreeMap (Bor (List ℕ)) TermId) → IsKept t t
unfolding IsKept
kept_same t n i e = e

pub kept_onward : (t u w : BTreeMap (Bor (List ℕ)) TermId) → IsKept t u → IsKept u w → IsKept t w
unfolding IsKept
kept_onward t u w a b n i e = b n i (a n i e)

pub stands_kept : (g : Graph) (v : Visible) (x y : Option TermId) → ((id : TermId) → x ≡ Some id → y ≡ Some id) → StandsFor g v x → StandsFor g v y
stands_kept g v None y k s = absurd s
stands_kept g v (Some id) y k s = subst (StandsFor g v) (sym (k id refl)) s

pub knows_kept : (g h : Graph) (t u : BTreeMap (Bor (List ℕ)) TermId) (names : Entries Visible) → IsWider g h → IsKept t u → Knows g t None names → Knows h u None names
unfolding Knows IsKept
knows_kept g h t u names b a k = λ n v e. stands_kept h v (under_name t n) (under_name u n) (a n) (stands_grown g h v (under_name t n) b (k n v e))

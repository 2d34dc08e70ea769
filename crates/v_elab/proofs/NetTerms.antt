-- The terms of the names of one place, entered one after the other, and the places one after the other.
use Rattle.std.proofs.Common.{◌≡◌, ◌≢◌, ◌∙◌, ℕ, zero, suc, ◌+◌, ◌<◌, ◌≤◌, refl, ap, sym, arith, Bool, true, false, cond, ◌⊎◌, inl, inr, List, [], ◌∷◌, ◌++◌, length, drop, get_or, map, Option, Some, None, option_map}
use Rattle.std.specs.Prelude.{String, string_bytes, string_cmp, slice_get, option_and_then}
use Rattle.std.specs.Global.{Global}
use Rattle.std.specs.Ordering.{nat_cmp}
use Rattle.std.specs.Cmp.Lexicographic.{slice_cmp}
use Rattle.std.specs.BTreeMap as tree
use Rattle.std.specs.BTreeMap.{BTreeMap, is_at}
use Rattle.std.specs.Map.{lookup}
use Rattle.std.proofs.lemmas.List.{drop_more, at_drop_all, length-map}
use Rattle.std.proofs.lemmas.Map.Text.{btree_map_updates_text}
use Rattle.wb_values.specs.Value.{Name, same_name}
use Rattle.wb_values.specs.Choice.{first_of}
use Rattle.verilog_meaning.specs.Expression.{Scope}
use Rattle.wb_terms.specs.declared.nodes.TermId.{TermId}
use Rattle.v_value.specs.declared.scope.Declaration.{Declaration}
use Rattle.v_value.specs.Scope.{objects_of}
use Rattle.v_places.specs.Below.{Spot}
use Rattle.v_places.proofs.Spots.{same_some}
use Rattle.v_flat.specs.Entries.{SpotNames}
use Rattle.v_flat.specs.Views.{entry_in}
use Rattle.v_flat.specs.declared.names.Dotted.{Dotted}
use Rattle.v_lower.specs.Lowered.{Images}
use Rattle.v_design.specs.declared.place.PlaceTerms.{PlaceTerms}
use Rattle.v_design.specs.Table.{term_under, number_under, term_in, place_in}
use Rattle.v_elab.specs.Settled.{net_term, after_entries, declared_entries, HaveOwnTerms}

-- ---- tables with texts as keys

pub no_term : (t : BTreeMap (String Global) TermId) → t.entries ≡ [] → (n : Name) → term_under t n ≡ None
no_term t e n = ap (λ (es : List (String Global × TermId)). option_map (λ k. k.0) (lookup (is_at (λ (k : String Global). slice_cmp nat_cmp n (string_bytes k))) es)) e

pub no_place : (t : BTreeMap (String Global) ℕ) → t.entries ≡ [] → (u : Name) → number_under t u ≡ None
no_place t e u = ap (λ (es : List (String Global × ℕ)). lookup (is_at (λ (k : String Global). slice_cmp nat_cmp u (string_bytes k))) es) e

pub term_put : (old new : BTreeMap (String Global) TermId) (text : String Global) (n : Name) (id : TermId) (o : Option ℕ) → string_bytes text ≡ n
    → tree.UpdatesBy string_cmp (λ k. slice_cmp nat_cmp (string_bytes text) (string_bytes k)) old new (Some id) → Some id.0 ≡ o
    → (q : Name) → term_under new q ≡ cond (same_name n q) (first_of o (term_under old q)) (term_under old q)
term_put old new text n id o e u h q =
    ap (option_map (λ k. k.0)) (btree_map_updates_text (string_bytes text) old new (Some id) u q)
    ∙ moved (same_name (string_bytes text) q) (tree.get_by_text old q)
    ∙ ap (λ k. cond (same_name k q) (Some id.0) (term_under old q)) e
    ∙ ap (λ x. cond (same_name n q) (first_of x (term_under old q)) (term_under old q)) h
  where
    moved : (t : Bool) (o : Option TermId) → option_map (λ k. k.0) (cond t (Some id) o) ≡ cond t (Some id.0) (option_map (λ k. k.0) o)
    moved true o = refl
    moved false o = refl

pub number_put : (old new : BTreeMap (String Global) ℕ) (text : String Global) (n : Name) (number : ℕ) → string_bytes text ≡ n
    → tree.UpdatesBy string_cmp (λ k. slice_cmp nat_cmp (string_bytes text) (string_bytes k)) old new (Some number)
    → (q : Name) → number_under new q ≡ cond (same_name n q) (Some number) (number_under old q)
number_put old new text n number e u q =
    btree_map_updates_text (string_bytes text) old new (Some number) u q ∙ ap (λ k. cond (same_name k q) (Some number) (number_under old q)) e

-- ---- one name after the other

pub object_count : (ds : List Declaration) → length ds ≡ length (objects_of ds)
object_count [] = refl
object_count (d ∷ ds) = ap suc (object_count ds)

got_mapped : {A B : Type 0} (f : A → B) (xs : List A) (i : ℕ) (d : A) → i < length xs → get_or (map f xs) i (f d) ≡ f (get_or xs i d)
got_mapped f [] i d l = absurd (omega (arith, l))
got_mapped f (x ∷ xs) zero d l = refl
got_mapped f (x ∷ xs) (suc i) d l = got_mapped f xs i d (omega (arith, l))

pub entry_turn : (s : Scope) (terms : Images) (names : List Dotted) (i : ℕ) (x d : Dotted) (n : Name) (all before after : Option ℕ) → i < length names → x ≡ get_or names i d
    → after ≡ cond (same_name (entry_in x).of_name n) (first_of (net_term s terms (entry_in x).text) before) before
    → all ≡ after_entries s terms (drop i (map entry_in names)) n before → all ≡ after_entries s terms (drop (i + 1) (map entry_in names)) n after
entry_turn s terms names i x d n all before after l e w h =
    let same = length-map names entry_in in
    h
    ∙ ap (λ es. after_entries s terms es n before)
    (drop_more (map entry_in names) i (entry_in d) (omega (arith, l, same))
    ∙ ap (λ y. y ∷ drop (i + 1) (map entry_in names)) (got_mapped entry_in names i d l ∙ ap entry_in (sym e)))
    ∙ ap (after_entries s terms (drop (i + 1) (map entry_in names)) n) (sym w)

pub entry_end : (s : Scope) (terms : Images) (names : List Dotted) (i : ℕ) (n : Name) (o : Option ℕ) → length names ≤ i
    → after_entries s terms (drop i (map entry_in names)) n o ≡ o
entry_end s terms names i n o l =
    let same = length-map names entry_in in
    at_drop_all (λ es. after_entries s terms es n o) (map entry_in names) i (omega (arith, l, same))

-- ---- one place after the other

pub same_or_other : (m n : ℕ) → (m ≡ n) ⊎ (m ≢ n)
same_or_other zero zero = inl refl
same_or_other zero (suc n) = inr (λ e. absurd (omega (arith, e)))
same_or_other (suc m) zero = inr (λ e. absurd (omega (arith, e)))
same_or_other (suc m) (suc n) = by (same_or_other m n)
  where
    by : (m ≡ n) ⊎ (m ≢ n) → (suc m ≡ suc n) ⊎ (suc m ≢ suc n)
    by (inl e) = inl (ap suc e)
    by (inr h) = inr (λ e. h (omega (arith, e)))

get_last : {A : Type 0} (xs : List A) (x : A) → slice_get (xs ++ x ∷ []) (length xs) ≡ Some x
get_last [] x = refl
get_last (y ∷ xs) x = get_last xs x

get_before : {A : Type 0} (xs : List A) (x : A) (k : ℕ) → k < length xs → slice_get (xs ++ x ∷ []) k ≡ slice_get xs k
get_before [] x k l = absurd (omega (arith, l))
get_before (y ∷ xs) x zero l = refl
get_before (y ∷ xs) x (suc k) l = get_before xs x k (omega (arith, l))

pub own_more : (s : Scope) (terms : Images) (spots : List Spot) (names : List SpotNames) (places : List PlaceTerms) (i : ℕ) (x : Spot) (t : PlaceTerms)
    → length places ≡ i → slice_get spots i ≡ Some x → HaveOwnTerms s terms spots names i places
    → ((n : Name) → term_under t.terms n ≡ after_entries s terms (declared_entries x (slice_get names i)) n None)
    → HaveOwnTerms s terms spots names (i + 1) (places ++ t ∷ [])
own_more s terms spots names places i x t many there h own k y l at n = by (same_or_other k i)
  where
    by : (k ≡ i) ⊎ (k ≢ i) → term_in (places ++ t ∷ []) k n ≡ after_entries s terms (declared_entries y (slice_get names k)) n None
    by (inl q) =
        let same : y ≡ x = same_some y x (sym at ∙ ap (slice_get spots) q ∙ there) in
        ap (λ j. term_in (places ++ t ∷ []) j n) (q ∙ sym many)
        ∙ ap (option_and_then (λ (p : PlaceTerms). term_under p.terms n)) (get_last places t)
        ∙ own n
        ∙ ap (λ (z : Spot). after_entries s terms (declared_entries z (slice_get names i)) n None) (sym same)
        ∙ ap (λ j. after_entries s terms (declared_entries y (slice_get names j)) n None) (sym q)
    by (inr q) =
        ap (option_and_then (λ (p : PlaceTerms). term_under p.terms n)) (get_before places t k (omega (arith, l, q, many)))
        ∙ h k y (omega (arith, l, q)) at n

pub none_more : (places : List PlaceTerms) (t : PlaceTerms) → ((k : ℕ) (u : Name) → place_in places k u ≡ None) → ((u : Name) → number_under t.below u ≡ None)
    → (k : ℕ) (u : Name) → place_in (places ++ t ∷ []) k u ≡ None
none_more [] t h e zero u = e u
none_more [] t h e (suc k) u = refl
none_more (p ∷ places) t h e zero u = h zero u
none_more (p ∷ places) t h e (suc k) u = none_more places t (λ j. h (suc j)) e k u

pub none_yet : (s : Scope) (terms : Images) (spots : List Spot) (names : List SpotNames) (places : List PlaceTerms) → HaveOwnTerms s terms spots names 0 places
none_yet s terms spots names places k x l = absurd (omega (arith, l))

-- The first sort under a name, as tables are filled.
use Rattle.std.proofs.Common.{◌≡◌, ◌∙◌, ℕ, zero, suc, ◌+◌, ◌≤◌, Bool, true, false, cond, refl, sym, ap, subst, List, [], ◌∷◌, length, drop, Bor, Option, Some, None, option_map, add-one, arith}
use Rattle.std.specs.Prelude.{is_some, slice_get}
use Rattle.std.specs.Ordering.{nat_cmp}
use Rattle.std.specs.Cmp.Lexicographic.{slice_cmp}
use Rattle.std.specs.BTreeMap as tree
use Rattle.std.specs.BTreeMap.{BTreeMap, get_by}
use Rattle.std.proofs.lemmas.Slice.Eq.{bytes_eq-Decides}
use Rattle.std.proofs.lemmas.Map.Text.{btree_map_updates_str}
use Rattle.wb_values.specs.Value.{Name, same_name, Sort}
use Rattle.wb_values.specs.Choice.{first_of}
use Rattle.model_meaning.specs.Model.{StateDeclaration, InputDeclaration, state_named}
use Rattle.refinement.specs.Map.{sort_of_state, sort_of_input}
use Rattle.wb_terms.specs.declared.sorts.Sort.{Sort as CodeSort}
use Rattle.wb_terms.specs.Sort.{as_sort}
use Rattle.map_sorts.specs.Tables.{sort_in}

-- ---- one sort more

first_none : {A : Type 0} (x : Option A) → first_of x None ≡ x
first_none None = refl
first_none (Some x) = refl

no_value : {A : Type 0} (x : Option A) → is_some x ≡ false → x ≡ None
no_value None e = refl
no_value (Some x) e = cc

abbrev under_name : BTreeMap (Bor (List ℕ)) CodeSort → Name → Option CodeSort
under_name t n = get_by (λ k. slice_cmp nat_cmp n k.now) t

first_added : (old new : BTreeMap (Bor (List ℕ)) CodeSort) (k : Bor (List ℕ)) (v : CodeSort)
    → tree.Updates (λ x y. slice_cmp nat_cmp x.now y.now) old new k (Some v) → is_some (under_name old k.now) ≡ false → (q : Name)
    → under_name new q ≡ first_of (under_name old q) (cond (same_name k.now q) (Some v) None)
first_added old new k v u absent q =
    btree_map_updates_str k.now old new (Some v) u q
    ∙ (elim (same_name k.now q) as (λ b. same_name k.now q ≡ b → cond b (Some v) (under_name old q) ≡ first_of (under_name old q) (cond b (Some v) None)) [
      | true ↦ λ e. subst (λ n. Some v ≡ first_of (under_name old n) (Some v)) ((bytes_eq-Decides k.now q).0 e) (ap (λ o. first_of o (Some v)) (sym (no_value (under_name old k.now) absent)))
      | false ↦ λ e. sym (first_none (under_name old q))
    ]) refl

mapped_first : (o : Option CodeSort) (b : Bool) (v : CodeSort)
    → option_map as_sort (first_of o (cond b (Some v) None)) ≡ first_of (option_map as_sort o) (cond b (Some (as_sort v)) None)
mapped_first None true v = refl
mapped_first None false v = refl
mapped_first (Some x) b v = refl

pub sort_added : (old new : BTreeMap (Bor (List ℕ)) CodeSort) (k : Bor (List ℕ)) (v : CodeSort)
    → tree.Updates (λ x y. slice_cmp nat_cmp x.now y.now) old new k (Some v) → is_some (under_name old k.now) ≡ false → (q : Name)
    → sort_in new q ≡ first_of (sort_in old q) (cond (same_name k.now q) (Some (as_sort v)) None)
sort_added old new k v u absent q = ap (option_map as_sort) (first_added old new k v u absent q) ∙ mapped_first (under_name old q) (same_name k.now q) v

-- nothing is added where a sort is there already
there : (t : BTreeMap (Bor (List ℕ)) CodeSort) (k q : Name) (s : Sort) (b : Bool) → is_some (under_name t k) ≡ true → same_name k q ≡ b
    → sort_in t q ≡ first_of (sort_in t q) (cond b (Some s) None)
there t k q s false h e = sym (first_none (sort_in t q))
there t k q s true h e = kept (under_name t q) (ap (λ n. is_some (under_name t n)) (sym ((bytes_eq-Decides k q).0 e)) ∙ h) where
  kept : (o : Option CodeSort) → is_some o ≡ true → option_map as_sort o ≡ first_of (option_map as_sort o) (Some s)
  kept None g = cc
  kept (Some x) g = refl

pub sort_kept : (t : BTreeMap (Bor (List ℕ)) CodeSort) (k q : Name) (s : Sort) → is_some (under_name t k) ≡ true
    → sort_in t q ≡ first_of (sort_in t q) (cond (same_name k q) (Some s) None)
sort_kept t k q s h = there t k q s (same_name k q) h refl

-- ---- turns

turned : (old r : Option Sort) (b : Bool) (s : Sort) → first_of (first_of old (cond b (Some s) None)) r ≡ first_of old (cond b (Some s) r)
turned None r true s = refl
turned None r false s = refl
turned (Some x) r b s = refl

turn : (old new left r all : Option Sort) (b : Bool) (s : Sort) → new ≡ first_of old (cond b (Some s) None) → left ≡ cond b (Some s) r
    → first_of old left ≡ all → first_of new r ≡ all
turn old new left r all b s p q h = ap (λ o. first_of o r) p ∙ (turned old r b s ∙ (ap (first_of old) (sym q) ∙ h))

some_name : {A : Type 0} (x y : A) → Some x ≡ Some y → x ≡ y
some_name x y e = cc

sort_of_choice : (b : Bool) (x : StateDeclaration) (o : Option StateDeclaration) → sort_of_state (cond b (Some x) o) ≡ cond b (Some x.sort) (sort_of_state o)
sort_of_choice true x o = refl
sort_of_choice false x o = refl

-- what is left of the states begins with the one at its place
state_left : (ss : List StateDeclaration) (i : ℕ) (n : Name) (s : Sort) (q : Name) → option_map (λ x. x.state_name) (slice_get ss i) ≡ Some n
    → option_map (λ x. x.sort) (slice_get ss i) ≡ Some s
    → sort_of_state (state_named (drop i ss) q) ≡ cond (same_name n q) (Some s) (sort_of_state (state_named (drop (suc i) ss) q))
state_left [] i n s q e f = cc
state_left (x ∷ ss) zero n s q e f =
    sort_of_choice (same_name x.state_name q) x (state_named ss q)
    ∙ (λ i. cond (same_name (some_name x.state_name n e i) q) (Some (some_name x.sort s f i)) (sort_of_state (state_named ss q)))
state_left (x ∷ ss) (suc i) n s q e f = state_left ss i n s q e f

input_left : (is : List InputDeclaration) (i : ℕ) (n : Name) (s : Sort) (q : Name) → option_map (λ x. x.input_name) (slice_get is i) ≡ Some n
    → option_map (λ x. x.sort) (slice_get is i) ≡ Some s
    → sort_of_input (drop i is) q ≡ cond (same_name n q) (Some s) (sort_of_input (drop (suc i) is) q)
input_left [] i n s q e f = cc
input_left (x ∷ is) zero n s q e f =
    λ i. cond (same_name (some_name x.input_name n e i) q) (Some (some_name x.sort s f i)) (sort_of_input is q)
input_left (x ∷ is) (suc i) n s q e f = input_left is i n s q e f

pub state_turn : (ss : List StateDeclaration) (i : ℕ) (old new all : Option Sort) (n : Name) (s : Sort) (q : Name)
    → new ≡ first_of old (cond (same_name n q) (Some s) None) → option_map (λ x. x.state_name) (slice_get ss i) ≡ Some n
    → option_map (λ x. x.sort) (slice_get ss i) ≡ Some s → first_of old (sort_of_state (state_named (drop i ss) q)) ≡ all
    → first_of new (sort_of_state (state_named (drop (i + 1) ss) q)) ≡ all
state_turn ss i old new all n s q p e f h =
    ap (λ k. first_of new (sort_of_state (state_named (drop k ss) q))) (add-one i)
    ∙ turn old new (sort_of_state (state_named (drop i ss) q)) (sort_of_state (state_named (drop (suc i) ss) q)) all (same_name n q) s p (state_left ss i n s q e f) h

pub input_turn : (is : List InputDeclaration) (i : ℕ) (old new all : Option Sort) (n : Name) (s : Sort) (q : Name)
    → new ≡ first_of old (cond (same_name n q) (Some s) None) → option_map (λ x. x.input_name) (slice_get is i) ≡ Some n
    → option_map (λ x. x.sort) (slice_get is i) ≡ Some s → first_of old (sort_of_input (drop i is) q) ≡ all
    → first_of new (sort_of_input (drop (i + 1) is) q) ≡ all
input_turn is i old new all n s q p e f h =
    ap (λ k. first_of new (sort_of_input (drop k is) q)) (add-one i)
    ∙ turn old new (sort_of_input (drop i is) q) (sort_of_input (drop (suc i) is) q) all (same_name n q) s p (input_left is i n s q e f) h

-- ---- the end

drop_past : {A : Type 0} (xs : List A) (n : ℕ) → length xs ≤ n → drop n xs ≡ []
drop_past [] zero h = refl
drop_past [] (suc n) h = refl
drop_past (x ∷ xs) zero h = absurd (omega (arith, h))
drop_past (x ∷ xs) (suc n) h = drop_past xs n (omega (arith, h))

pub states_end : (ss : List StateDeclaration) (i : ℕ) (o all : Option Sort) (q : Name) → length ss ≤ i
    → first_of o (sort_of_state (state_named (drop i ss) q)) ≡ all → o ≡ all
states_end ss i o all q l h = sym (first_none o) ∙ (ap (λ xs. first_of o (sort_of_state (state_named xs q))) (sym (drop_past ss i l)) ∙ h)

pub inputs_end : (is : List InputDeclaration) (i : ℕ) (o all : Option Sort) (q : Name) → length is ≤ i
    → first_of o (sort_of_input (drop i is) q) ≡ all → o ≡ all
inputs_end is i o all q l h = sym (first_none o) ∙ (ap (λ xs. first_of o (sort_of_input xs q)) (sym (drop_past is i l)) ∙ h)

-- the beginning, with an empty table
pub empty_start : (t : BTreeMap (Bor (List ℕ)) CodeSort) (q : Name) (all : Option Sort) → sort_in t q ≡ None → first_of (sort_in t q) all ≡ all
empty_start t q all e = ap (λ o. first_of o all) e

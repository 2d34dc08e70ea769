-- Where the terms of registers are of their sorts, the clock's edge keeps sorts.
use Rattle.std.proofs.Common.{◌≡◌, ◌∙◌, ◌<◌, ◌++◌, ◌==◌, nat_lt, ℕ, zero, suc, true, List, [], ◌∷◌, length, get_or, map, Option, Some, None, refl, sym, ap, subst, arith}
use Rattle.std.specs.Prelude.{All, ⊤}
use Rattle.std.proofs.lemmas.Bool.{and_parts, false≢true}
use Rattle.std.proofs.lemmas.Bool.Decides.{nat_tests}
use Rattle.std.proofs.lemmas.List.{take-append-drop}
use Rattle.wb_values.specs.Value.{Sort, truth, word, memory, Value, number, Entries, HasSort, Valuation}
use Rattle.model_meaning.specs.Term.{Term, sort_of, same_sort}
use Rattle.wb_terms.specs.declared.nodes.Node.{Node}
use Rattle.wb_terms.specs.declared.nodes.Node.TheVariants.{Name, Truth, Const, Not, And, Or, Xor, Neg, Add, Sub, Mul, Shl, Lshr, Ashr, Eq, Ult, Ule, Slt, Sle, Concat, Extract, Zext, Sext, Ite, Load, Store}
use Rattle.wb_terms.specs.Graph.{tree, tree_at, tree_of, trees_after, trees_of, leaf_at, AllBelow, names_of}
use Rattle.wb_terms.specs.Environment.{AreOfSorts}
use Rattle.wb_terms.proofs.EnvironmentLemmas.{value_at, sort_at}
use Rattle.wb_terms.proofs.ValueSorts.{NamesFit, HasSort-val}
use Rattle.wb_terms.specs.Graph.{HasDistinctNames}
use Rattle.v_design.specs.Parts.{Parts, registers_of, inputs_of, at_cycle, value_in, has_sort, is_term_of, are_terms_of}
use Rattle.mapped_runs.specs.Sound.{NamesAreDeclared, KeepsSorts}

joined : (ns ms : Entries Sort) (xs ys : List Value) → AreOfSorts ns xs → AreOfSorts ms ys → AreOfSorts (ns ++ ms) (xs ++ ys)
joined [] ms [] ys h k = k
joined [] ms (x ∷ xs) ys h k = absurd h
joined (n ∷ ns) ms [] ys h k = absurd h
joined (n ∷ ns) ms (x ∷ xs) ys h k = (h.0, joined ns ms xs ys h.1 k)

-- each node names what is in the table
abbrev AllNamed : ℕ → List Node → Type 0
AllNamed count [] = ⊤
AllNamed count (n ∷ ns) = AllBelow count (names_of n) × AllNamed count ns

all_named : (count : ℕ) (ns : List Node) → All (λ n. AllBelow count (names_of n)) ns → AllNamed count ns
all_named count [] h = tt
all_named count (n ∷ ns) h = (h 0 n (omega arith), all_named count ns (λ k d l. h (suc k) d (omega (arith, l))))

abbrev AllFit : Valuation → List Term → Type 0
AllFit v [] = ⊤
AllFit v (t ∷ ts) = NamesFit v t × AllFit v ts

fits_at : (v : Valuation) (ts : List Term) (k : ℕ) → AllFit v ts → NamesFit v (tree_at ts k)
fits_at v [] k h = tt
fits_at v (t ∷ ts) zero h = h.0
fits_at v (t ∷ ts) (suc k) h = fits_at v ts k h.1

one_more : (v : Valuation) (ts : List Term) (t : Term) → AllFit v ts → NamesFit v t → AllFit v (ts ++ t ∷ [])
one_more v [] t h f = (f, tt)
one_more v (u ∷ ts) t h f = (h.0, one_more v ts t h.1 f)

module _ (ns : Entries Sort) (v : Valuation) (leaves : (k : ℕ) → k < length ns → NamesFit v (leaf_at ns k)) where
  node_fits : (ts : List Term) (n : Node) → AllFit v ts → AllBelow (length ns) (names_of n) → NamesFit v (tree_of ns ts n)
  node_fits ts (Name n) f h = leaves n.0 h.0
  node_fits ts (Truth b) f h = tt
  node_fits ts (Const w x) f h = tt
  node_fits ts (Not x) f h = fits_at v ts x.0 f
  node_fits ts (And x y) f h = (fits_at v ts x.0 f, fits_at v ts y.0 f)
  node_fits ts (Or x y) f h = (fits_at v ts x.0 f, fits_at v ts y.0 f)
  node_fits ts (Xor x y) f h = (fits_at v ts x.0 f, fits_at v ts y.0 f)
  node_fits ts (Neg x) f h = fits_at v ts x.0 f
  node_fits ts (Add x y) f h = (fits_at v ts x.0 f, fits_at v ts y.0 f)
  node_fits ts (Sub x y) f h = (fits_at v ts x.0 f, fits_at v ts y.0 f)
  node_fits ts (Mul x y) f h = (fits_at v ts x.0 f, fits_at v ts y.0 f)
  node_fits ts (Shl x y) f h = (fits_at v ts x.0 f, fits_at v ts y.0 f)
  node_fits ts (Lshr x y) f h = (fits_at v ts x.0 f, fits_at v ts y.0 f)
  node_fits ts (Ashr x y) f h = (fits_at v ts x.0 f, fits_at v ts y.0 f)
  node_fits ts (Eq x y) f h = (fits_at v ts x.0 f, fits_at v ts y.0 f)
  node_fits ts (Ult x y) f h = (fits_at v ts x.0 f, fits_at v ts y.0 f)
  node_fits ts (Ule x y) f h = (fits_at v ts x.0 f, fits_at v ts y.0 f)
  node_fits ts (Slt x y) f h = (fits_at v ts x.0 f, fits_at v ts y.0 f)
  node_fits ts (Sle x y) f h = (fits_at v ts x.0 f, fits_at v ts y.0 f)
  node_fits ts (Concat x y) f h = (fits_at v ts x.0 f, fits_at v ts y.0 f)
  node_fits ts (Extract high low x) f h = fits_at v ts x.0 f
  node_fits ts (Zext n x) f h = fits_at v ts x.0 f
  node_fits ts (Sext n x) f h = fits_at v ts x.0 f
  node_fits ts (Ite c x y) f h = (fits_at v ts c.0 f, fits_at v ts x.0 f, fits_at v ts y.0 f)
  node_fits ts (Load m i) f h = (fits_at v ts m.0 f, fits_at v ts i.0 f)
  node_fits ts (Store m i x) f h = (fits_at v ts m.0 f, fits_at v ts i.0 f, fits_at v ts x.0 f)

  all_fit : (ts : List Term) (nodes : List Node) → AllFit v ts → AllNamed (length ns) nodes → AllFit v (trees_after ns ts nodes)
  all_fit ts [] f h = f
  all_fit ts (n ∷ nodes) f h = all_fit (ts ++ tree_of ns ts n ∷ []) nodes (one_more v ts (tree_of ns ts n) f (node_fits ts n f h.0)) h.1

same_number : (a b : ℕ) → (a == b) ≡ true → a ≡ b
same_number a b h = grind (arith, nat_tests)

sorts_same : (s t : Sort) → same_sort s t ≡ true → s ≡ t
sorts_same truth truth h = refl
sorts_same truth (word w) h = absurd (false≢true h)
sorts_same truth (memory a d) h = absurd (false≢true h)
sorts_same (word w) truth h = absurd (false≢true h)
sorts_same (word w) (word u) h = ap word (same_number w u h)
sorts_same (word w) (memory a d) h = absurd (false≢true h)
sorts_same (memory a d) truth h = absurd (false≢true h)
sorts_same (memory a d) (word u) h = absurd (false≢true h)
sorts_same (memory a d) (memory b e) h =
    let p = and_parts (a == b) (d == e) h in
    ap (λ k. memory k d) (same_number a b p.0) ∙ ap (memory b) (same_number d e p.1)

module _ (e : Parts) (named : NamesAreDeclared e) (distinct : HasDistinctNames e.graph.names) (rs is : List Value)
    (rs-sorted : AreOfSorts (registers_of e) rs) (is-sorted : AreOfSorts (inputs_of e) is) where
  all_sorted : AreOfSorts e.graph.names (rs ++ is)
  all_sorted =
      subst (λ ns. AreOfSorts ns (rs ++ is)) (take-append-drop e.register_count e.graph.names) (joined (registers_of e) (inputs_of e) rs is rs-sorted is-sorted)

  leaf_fits : (k : ℕ) → k < length e.graph.names → NamesFit (at_cycle e rs is) (leaf_at e.graph.names k)
  leaf_fits k l =
      subst (λ x. HasSort x (get_or e.graph.names k ([], truth)).1) (sym (value_at e.graph.names (rs ++ is) k ([], truth) (number 0) distinct all_sorted l))
      (sort_at e.graph.names (rs ++ is) k ([], truth) (number 0) all_sorted l)

  tree_fits : (id : ℕ) → NamesFit (at_cycle e rs is) (tree e.graph id)
  tree_fits id =
      fits_at (at_cycle e rs is) (trees_of e.graph) id
      (all_fit e.graph.names (at_cycle e rs is) leaf_fits [] e.graph.nodes tt (all_named (length e.graph.names) e.graph.nodes named))

  value_sorted : (s : Sort) (id : ℕ) → is_term_of e.graph s id ≡ true → HasSort (value_in e rs is id) s
  value_sorted s id h = by_sort (sort_of (tree e.graph id)) refl (and_parts (nat_lt id (length e.graph.nodes)) (has_sort s (sort_of (tree e.graph id))) h).1
    where
      by_sort : (o : Option Sort) → sort_of (tree e.graph id) ≡ o → has_sort s o ≡ true → HasSort (value_in e rs is id) s
      by_sort None f g = absurd (false≢true g)
      by_sort (Some t) f g = subst (HasSort (value_in e rs is id)) (sorts_same t s g) (HasSort-val (at_cycle e rs is) (tree e.graph id) t (tree_fits id) f)

  values_sorted : (ns : Entries Sort) (ids : List ℕ) → are_terms_of e.graph ns ids ≡ true → AreOfSorts ns (map (value_in e rs is) ids)
  values_sorted [] [] h = tt
  values_sorted [] (id ∷ ids) h = absurd (false≢true h)
  values_sorted (n ∷ ns) [] h = absurd (false≢true h)
  values_sorted (n ∷ ns) (id ∷ ids) h =
      let p = and_parts (is_term_of e.graph n.1 id) (are_terms_of e.graph ns ids) h in (value_sorted n.1 id p.0, values_sorted ns ids p.1)

pub keeps_sorts : (e : Parts) → HasDistinctNames e.graph.names → NamesAreDeclared e → are_terms_of e.graph (registers_of e) e.next ≡ true → KeepsSorts e
keeps_sorts e distinct named sorted rs is h k = values_sorted e named distinct rs is h k (registers_of e) e.next sorted

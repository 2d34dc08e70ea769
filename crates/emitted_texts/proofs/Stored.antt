-- Each term of a store has a sort, and so the numbers of its node are within their bounds.
use Rattle.std.proofs.Common.{◌≡◌, ℕ, zero, suc, ◌+◌, ◌-◌, ◌<◌, ◌≤◌, ◌^◌, Bool, true, false, ◌&&◌, List, [], ◌∷◌, map, length, get_or, Option, Some, None, IsSome, IsTrue, refl, sym, ◌∙◌, ap, subst, arith}
use Rattle.std.specs.Prelude.{nat_le, nat_lt}
use Rattle.std.proofs.lemmas.Bool.{and_parts, false≢true}
use Rattle.std.proofs.lemmas.Bool.Decides.{nat_tests}
use Rattle.std.proofs.lemmas.List.{length-map}
use Rattle.wb_values.specs.Value.{Sort, truth, word, memory}
use Rattle.wb_values.specs.Names.{is_model_name}
use Rattle.wb_values.specs.Choice.{some_if}
use Rattle.model_meaning.specs.Term.{Term, is_sort, is_width, sort_of, extract_sort, extended_sort}
use Rattle.wb_terms.specs.declared.nodes.Node.{Node}
use Rattle.wb_terms.specs.declared.nodes.Node.TheVariants.{Name as Named, Truth, Const, Extract, Zext}
use Rattle.wb_terms.specs.declared.store.Entry.{Entry}
use Rattle.wb_terms.specs.Graph.{Graph, AllBelow, names_of, tree_at, trees_of, tree_of_node}
use Rattle.wb_terms.specs.Entries.{name_of, node_of, graph_of}
use Rattle.wb_terms.proofs.StoreLemmas.{entry_of_store}
use Rattle.wb_terms.proofs.InRange.{is_sort-sort_of}
use Rattle.emitted_modules.specs.Nodes.{node_at, called_at, sort_or_truth}
use Rattle.emitted_texts.specs.Fitting.{IsFitting, AreTyped, StoresAreTyped}

-- ---- sorts in range

pub in_range : (t : Term) → IsTrue (is_sort (sort_or_truth (sort_of t)))
in_range t = by_case (sort_of t) refl
  where
    by_case : (o : Option Sort) → sort_of t ≡ o → is_sort (sort_or_truth o) ≡ true
    by_case None e = refl
    by_case (Some s) e = is_sort-sort_of t s e

-- ---- numbers of nodes

test_of : (b : Bool) (s : Sort) → IsSome (some_if b s) → b ≡ true
test_of true s h = refl
test_of false s h = absurd (false≢true h)

at_most : (a b : ℕ) → nat_le a b ≡ true → a ≤ b
at_most a b h = grind (arith, nat_tests, h)

below : (a b : ℕ) → nat_lt a b ≡ true → a < b
below a b h = grind (arith, nat_tests, h)

bits_there : (high low : ℕ) (s : Sort) → IsTrue (is_sort s) → IsSome (extract_sort high low (Some s)) → (low ≤ high) × (high < 128)
bits_there high low truth r h = absurd (false≢true h)
bits_there high low (memory a d) r h = absurd (false≢true h)
bits_there high low (word w) r h =
    let p = and_parts (nat_le low high) (nat_lt high w) (test_of (nat_le low high && nat_lt high w) (word (high + 1 - low)) h) in
    let q = and_parts (nat_le 1 w) (nat_le w 128) r in
    (at_most low high p.0, omega (arith, below high w p.1, at_most w 128 q.1))

bits_of_term : (high low : ℕ) (t : Term) → IsSome (extract_sort high low (sort_of t)) → (low ≤ high) × (high < 128)
bits_of_term high low t h = by_case (sort_of t) refl h
  where
    by_case : (o : Option Sort) → sort_of t ≡ o → IsSome (extract_sort high low o) → (low ≤ high) × (high < 128)
    by_case None e g = absurd (false≢true g)
    by_case (Some s) e g = bits_there high low s (is_sort-sort_of t s e) g

word_fits : (w x : ℕ) → IsSome (some_if (is_width w && nat_lt x (2 ^ w)) (word w)) → (1 ≤ w) × (w ≤ 128) × (x < 2 ^ w)
word_fits w x h =
    let p = and_parts (is_width w) (nat_lt x (2 ^ w)) (test_of (is_width w && nat_lt x (2 ^ w)) (word w) h) in
    let q = and_parts (nat_le 1 w) (nat_le w 128) p.0 in
    (at_most 1 w q.0, at_most w 128 q.1, below x (2 ^ w) p.1)

few_bits : (n : ℕ) (t : Term) → IsSome (extended_sort n (sort_of t)) → n ≤ 128
few_bits n t h = by_case (sort_of t) h
  where
    by_case : (o : Option Sort) → IsSome (extended_sort n o) → n ≤ 128
    by_case None g = absurd (false≢true g)
    by_case (Some truth) g = absurd (false≢true g)
    by_case (Some (memory a d)) g = absurd (false≢true g)
    by_case (Some (word w)) g = at_most n 128 (and_parts (nat_le w n) (nat_le n 128) (test_of (nat_le w n && nat_le n 128) (word n) g)).1

module _ (g : Graph) (typed : AreTyped g)
    (legal : (k : ℕ) → k < length g.names → is_model_name (called_at g.names k) ≡ true) where
  by_node : (n : Node) → AllBelow (length g.names) (names_of n) → IsSome (sort_of (tree_of_node g n)) → IsFitting g n
  by_node (Named n) b h = legal n.0 b.0
  by_node (Const w x) b h = word_fits w x h
  by_node (Extract high low x) b h = bits_of_term high low (tree_at (trees_of g) x.0) h
  by_node (Zext n x) b h = few_bits n (tree_at (trees_of g) x.0) h
  by_node _ b h = tt

  pub fitting : (k : ℕ) → k < length g.nodes → IsFitting g (node_at g k)
  fitting k low = by_node (node_at g k) (typed.names k low) (typed.sorts k low)

-- ---- every store

there : (es : List Entry) (k : ℕ) → k < length es → (e : Entry) × (e ≡ get_or es k e) × (get_or (map node_of es) k (Truth false) ≡ e.node)
there [] k low = absurd (omega (arith, low))
there (x ∷ es) zero low = (x, refl, refl)
there (x ∷ es) (suc k) low = there es k (omega (arith, low))

pub stores_are_typed : StoresAreTyped
stores_are_typed ds es sorted = record { sorts = sort_there; names = names_there }
  where
    found : (k : ℕ) → k < length (map node_of es) → (e : Entry) × (e ≡ get_or es k e) × (get_or (map node_of es) k (Truth false) ≡ e.node)
    found k low = there es k (subst (λ n. k < n) (length-map es node_of) low)

    sort_there : (k : ℕ) → k < length (map node_of es) → IsSome (sort_of (tree_of_node (graph_of ds es) (node_at (graph_of ds es) k)))
    sort_there k low =
        let x = found k low in
        let e = entry_of_store ds es (graph_of ds es) k x.0 refl sorted low x.1 in
        subst (λ n. IsSome (sort_of (tree_of_node (graph_of ds es) n))) (sym x.2) (subst (λ (o : Option Sort). IsSome o) (sym (ap sort_of (sym e.tree) ∙ e.sort)) refl)

    names_there : (k : ℕ) → k < length (map node_of es) → AllBelow (length (map name_of ds)) (names_of (node_at (graph_of ds es) k))
    names_there k low =
        let x = found k low in
        subst (λ n. AllBelow (length (map name_of ds)) (names_of n)) (sym x.2) (entry_of_store ds es (graph_of ds es) k x.0 refl sorted low x.1).names

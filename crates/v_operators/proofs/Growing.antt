-- A store that grows keeps its terms with their sorts and what they are worth.
use Rattle.std.proofs.Common.{◌≡◌, ℕ, ◌<◌, ◌≤◌, Bool, [], ◌∷◌, ◌++◌, length, take, refl, sym, ap, ◌∙◌, subst, arith, length-append, append_assoc}
use Rattle.std.proofs.lemmas.List.{append-nil, take-append-le, take_all}
use Rattle.std.proofs.Math.ListN.{get_or-append}
use Rattle.std.proofs.Math.Seq.{get_or-append_seam}
use Rattle.wb_values.specs.Value.{Sort, Valuation}
use Rattle.model_meaning.specs.Term.{Term, constant_truth, val, sort_of}
use Rattle.wb_terms.specs.Graph.{Graph, tree, tree_at, trees_of, tree_of_node, with_node}
use Rattle.wb_terms.specs.declared.nodes.Node.{Node}
use Rattle.wb_terms.proofs.StoreLemmas.{length-trees_of}
use Rattle.v_operators.specs.Meaning.{Grows, IsOfSort, HasNumber, HasTruth}

pub Grows-refl : (g : Graph) → Grows g g
Grows-refl g = record { names = refl; added = []; nodes = sym (append-nil g.nodes); further = []; trees = sym (append-nil (trees_of g)) }

pub Grows-same : (g h : Graph) → h ≡ g → Grows g h
Grows-same g h e = subst (λ (k : Graph). Grows g k) (sym e) (Grows-refl g)

pub Grows-trans : {g h k : Graph} → Grows g h → Grows h k → Grows g k
Grows-trans {g} {h} {k} a b =
    record {
      names = b.names ∙ a.names;
      added = a.added ++ b.added;
      nodes = b.nodes ∙ (ap (λ ns. ns ++ b.added) a.nodes ∙ append_assoc g.nodes a.added b.added);
      further = a.further ++ b.further;
      trees = b.trees ∙ (ap (λ ts. ts ++ b.further) a.trees ∙ append_assoc (trees_of g) a.further b.further);
    }

pub count_grows : {g h : Graph} → Grows g h → length g.nodes ≤ length h.nodes
count_grows {g} {h} a =
    omega (arith, length-trees_of g, length-trees_of h, ap length a.trees, length-append (trees_of g) a.further)

pub below_kept : {g h : Graph} (id : ℕ) → Grows g h → id < length g.nodes → id < length h.nodes
below_kept id a b = omega (arith, count_grows a)

pub tree_kept : {g h : Graph} (id : ℕ) → Grows g h → id < length g.nodes → tree h id ≡ tree g id
tree_kept {g} {h} id a b =
    let l : id < length (trees_of g) = omega (arith, length-trees_of g) in
    ap (λ ts. tree_at ts id) a.trees ∙ get_or-append (trees_of g) a.further (constant_truth Bool.false) id l

pub IsOfSort-kept : {g h : Graph} (id : ℕ) (s : Sort) → Grows g h → IsOfSort g id s → IsOfSort h id s
IsOfSort-kept {g} {h} id s a o = record { below = below_kept id a o.below; sort = ap sort_of (tree_kept id a o.below) ∙ o.sort }

pub number_kept : {g h : Graph} (id w : ℕ) (p : Valuation) (x : ℕ) → Grows g h → id < length g.nodes → HasNumber g id w p x → HasNumber h id w p x
number_kept id w p x a b n = record { value = ap (λ (t : Term). val t p) (tree_kept id a b) ∙ n.value; fits = n.fits }

pub truth_kept : {g h : Graph} (id : ℕ) (p : Valuation) (x : Bool) → Grows g h → id < length g.nodes → HasTruth g id p x → HasTruth h id p x
truth_kept id p x a b n = record { value = ap (λ (t : Term). val t p) (tree_kept id a b) ∙ n.value }

-- a store with one node more
pub grows_by_node : (g h : Graph) (n : Node) → h ≡ with_node g n → trees_of h ≡ trees_of g ++ tree_of_node g n ∷ [] → Grows g h
grows_by_node g h n e t = record { names = ap (λ (k : Graph). k.names) e; added = n ∷ []; nodes = ap (λ (k : Graph). k.nodes) e; further = tree_of_node g n ∷ []; trees = t }

pub node_below : (g h : Graph) (n : Node) (id : ℕ) → h ≡ with_node g n → id ≡ length g.nodes → id < length h.nodes
node_below g h n id e i =
    omega (arith, ap (λ (k : Graph). length k.nodes) e, length-append g.nodes (n ∷ []))

pub node_tree : (g h : Graph) (n : Node) (id : ℕ) → trees_of h ≡ trees_of g ++ tree_of_node g n ∷ [] → id ≡ length g.nodes → tree h id ≡ tree_of_node g n
node_tree g h n id t i =
    let l : id ≡ length (trees_of g) = i ∙ sym (length-trees_of g) in
    ap (λ ts. tree_at ts id) t ∙ (ap (λ k. tree_at (trees_of g ++ tree_of_node g n ∷ []) k) l ∙ get_or-append_seam (trees_of g) (tree_of_node g n) [] (constant_truth Bool.false))

-- what is left of a store that grew, where the new terms are cut off
pub cut_back : (g h k : Graph) (n : ℕ) → Grows g h → n ≡ length g.nodes → k ≡ record { names = h.names; nodes = take n h.nodes } → k ≡ g
cut_back g h k n a is_n e =
    let front : take n h.nodes ≡ g.nodes = ap (λ ns. take n ns) a.nodes ∙ (ap (λ m. take m (g.nodes ++ a.added)) is_n ∙ (take-append-le (length g.nodes) g.nodes a.added (omega arith) ∙ take_all (length g.nodes) g.nodes (omega arith))) in
    e ∙ (λ i. record { names = a.names i; nodes = front i })

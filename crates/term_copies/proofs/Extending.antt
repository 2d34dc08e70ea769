-- A store with further terms keeps its own.
use Rattle.std.proofs.Common.{◌≡◌, ℕ, ◌+◌, ◌<◌, ◌≤◌, false, List, [], ◌∷◌, ◌++◌, length, take, refl, sym, ap, ◌∙◌, arith, length-append, append_assoc}
use Rattle.std.proofs.lemmas.List.{append-nil}
use Rattle.std.proofs.Math.Seq.{get_or-append_seam, take-append_seam}
use Rattle.wb_values.specs.Value.{Sort, Entries}
use Rattle.model_meaning.specs.Term.{Term, constant_truth}
use Rattle.wb_terms.specs.declared.nodes.Node.{Node}
use Rattle.wb_terms.specs.Graph.{Graph, tree, tree_at, tree_of, trees_after, trees_of, tree_of_node, with_node}
use Rattle.wb_terms.proofs.StoreLemmas.{length-trees_of, tree_at-trees_after, trees_of-push}
use Rattle.term_copies.specs.Copies.{IsExtended}

pub extended_refl : (g : Graph) → IsExtended g g
extended_refl g = record { names = refl; further = []; nodes = sym (append-nil g.nodes) }

pub extended_trans : {g h k : Graph} → IsExtended g h → IsExtended h k → IsExtended g k
extended_trans {g} {h} {k} a b =
    record {
      names = b.names ∙ a.names;
      further = a.further ++ b.further;
      nodes = b.nodes ∙ (ap (λ ns. ns ++ b.further) a.nodes ∙ append_assoc g.nodes a.further b.further);
    }

pub extended_by : {g h : Graph} (n : Node) → h ≡ with_node g n → IsExtended g h
extended_by {g} {h} n e = record { names = ap (λ (x : Graph). x.names) e; further = n ∷ []; nodes = ap (λ (x : Graph). x.nodes) e }

pub extended_same : {g h : Graph} → h ≡ g → IsExtended g h
extended_same {g} {h} e =
    record { names = ap (λ (x : Graph). x.names) e; further = []; nodes = ap (λ (x : Graph). x.nodes) e ∙ sym (append-nil g.nodes) }

pub count_grows : {g h : Graph} → IsExtended g h → length g.nodes ≤ length h.nodes
count_grows {g} {h} a = omega (arith, ap length a.nodes, length-append g.nodes a.further)

trees_after-append : (ns : Entries Sort) (ts : List Term) (xs ys : List Node) → trees_after ns ts (xs ++ ys) ≡ trees_after ns (trees_after ns ts xs) ys
trees_after-append ns ts [] ys = refl
trees_after-append ns ts (x ∷ xs) ys = trees_after-append ns (ts ++ tree_of ns ts x ∷ []) xs ys

trees_extended : {g h : Graph} (a : IsExtended g h) → trees_of h ≡ trees_after g.names (trees_of g) a.further
trees_extended {g} {h} a =
    ap (λ ns. trees_after ns [] h.nodes) a.names ∙ (ap (trees_after g.names []) a.nodes ∙ trees_after-append g.names [] g.nodes a.further)

-- its terms stand as they were
pub tree_kept : {g h : Graph} (id : ℕ) → IsExtended g h → id < length g.nodes → tree h id ≡ tree g id
tree_kept {g} {h} id a b =
    let l : id < length (trees_of g) = omega (arith, length-trees_of g) in
    ap (λ ts. tree_at ts id) (trees_extended a) ∙ tree_at-trees_after g.names (trees_of g) a.further id l

-- the term that was put last
pub last_tree : (g h : Graph) (n : Node) (id : ℕ) → id ≡ length g.nodes → h ≡ with_node g n → tree h id ≡ tree_of_node g n
last_tree g h n id i e =
    let l : id ≡ length (trees_of g) = i ∙ sym (length-trees_of g) in
    ap (λ (x : Graph). tree x id) e ∙ (ap (λ ts. tree_at ts id) (trees_of-push g n) ∙ (ap (λ k. tree_at (trees_of g ++ tree_of_node g n ∷ []) k) l
    ∙ get_or-append_seam (trees_of g) (tree_of_node g n) [] (constant_truth false)))

pub last_below : (g h : Graph) (n : Node) (id : ℕ) → id ≡ length g.nodes → h ≡ with_node g n → id < length h.nodes
last_below g h n id i e = omega (arith, i, ap (λ (x : Graph). length x.nodes) e, length-append g.nodes (n ∷ []))

-- what is cut back to its length is as it was
pub cut_back : (g h k : Graph) (n : ℕ) → IsExtended g h → n ≡ length g.nodes → k ≡ (record { names = h.names; nodes = take n h.nodes }) → k ≡ g
cut_back g h k n a i e =
    let cut : take n h.nodes ≡ g.nodes = ap (λ m. take m h.nodes) i ∙ (ap (take (length g.nodes)) a.nodes ∙ take-append_seam g.nodes a.further) in
    e ∙ (λ j. record { names = a.names j; nodes = cut j })

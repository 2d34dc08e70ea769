-- The tree of each node is over the trees of its operands.
use Rattle.std.proofs.Common.{◌≡◌, ℕ, zero, suc, ◌+◌, ◌<◌, false, List, [], ◌∷◌, ◌++◌, length, get_or, sym, ◌∙◌, ap, subst, arith}
use Rattle.std.proofs.lemmas.List.{length-append}
use Rattle.std.proofs.Math.Seq.{get_or-append_seam}
use Rattle.std.proofs.Math.ListN.{get_or-append}
use Rattle.wb_values.specs.Value.{Sort, Entries}
use Rattle.model_meaning.specs.Term.{Term}
use Rattle.wb_terms.specs.declared.nodes.Node.{Node}
use Rattle.wb_terms.specs.declared.nodes.Node.TheVariants.{Truth}
use Rattle.wb_terms.specs.Graph.{Graph, tree, tree_at, tree_of, tree_of_node, trees_after, AllBelow, operands_of}
use Rattle.wb_terms.proofs.StoreLemmas.{tree_of-same, tree_at-trees_after}
use Rattle.emitted_modules.specs.Nodes.{node_at}
use Rattle.emitted_modules.specs.Kept.{IsOrdered}

-- each node behind the given trees has its operands before it
abbrev AreBelow : (before : ℕ) → List Node → Type 0
AreBelow n rest = (k : ℕ) → k < length rest → AllBelow (n + k) (operands_of (get_or rest k (Truth false)))

tree_behind : (ns : Entries Sort) (ts : List Term) (rest : List Node) (k : ℕ) → AreBelow (length ts) rest → k < length rest
    → tree_at (trees_after ns ts rest) (length ts + k) ≡ tree_of ns (trees_after ns ts rest) (get_or rest k (Truth false))
tree_behind ns ts [] k below low = absurd (omega (arith, low))
tree_behind ns ts (n ∷ rest) zero below low =
    let us : List Term = ts ++ tree_of ns ts n ∷ [] in
    let all : List Term = trees_after ns us rest in
    let l : length us ≡ length ts + 1 = length-append ts (tree_of ns ts n ∷ []) in
    let kept : (k : ℕ) → k < length ts → tree_at all k ≡ tree_at ts k =
    λ k i. tree_at-trees_after ns us rest k (omega (arith, l, i)) ∙ get_or-append ts (tree_of ns ts n ∷ []) _ k i in
    let no_more : length ts + 0 ≡ length ts = omega arith in
    let own : tree_of ns all n ≡ tree_of ns ts n =
    tree_of-same ns ts all n (subst (λ b. AllBelow b (operands_of n)) no_more (below 0 (omega arith))) kept in
    let here : tree_at all (length ts) ≡ tree_of ns ts n =
    tree_at-trees_after ns us rest (length ts) (omega (arith, l)) ∙ get_or-append_seam ts (tree_of ns ts n) [] _ in
    ap (tree_at all) no_more ∙ (here ∙ sym own)
tree_behind ns ts (n ∷ rest) (suc k) below low =
    let us : List Term = ts ++ tree_of ns ts n ∷ [] in
    let l : length us ≡ length ts + 1 = length-append ts (tree_of ns ts n ∷ []) in
    let i : length us + k ≡ length ts + suc k = omega (arith, l) in
    let later : AreBelow (length us) rest =
    λ j g. subst (λ b. AllBelow b (operands_of (get_or rest j (Truth false)))) (omega (arith, l)) (below (suc j) (omega (arith, g))) in
    subst (λ j. tree_at (trees_after ns us rest) j ≡ tree_of ns (trees_after ns us rest) (get_or rest k (Truth false))) i
    (tree_behind ns us rest k later (omega (arith, low)))

pub tree_is : (g : Graph) (k : ℕ) → IsOrdered g → k < length g.nodes → tree g k ≡ tree_of_node g (node_at g k)
tree_is g k ordered low =
    ap (tree g) (sym (from_start k))
    ∙ tree_behind g.names [] g.nodes k (λ j l. subst (λ b. AllBelow b (operands_of (node_at g j))) (sym (from_start j)) (ordered j l)) low
  where
    from_start : (j : ℕ) → 0 + j ≡ j
    from_start j = omega arith

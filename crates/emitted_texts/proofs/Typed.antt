-- What a pass over the store tells of its terms.
use Rattle.std.proofs.Common.{◌≡◌, ℕ, ◌+◌, ◌<◌, inl, inr, length, IsSome, subst, arith}
use Rattle.std.proofs.lemmas.Bool.{cases_lt}
use Rattle.model_meaning.specs.Term.{sort_of}
use Rattle.wb_terms.specs.declared.nodes.Node.{Node}
use Rattle.wb_terms.specs.Graph.{Graph, AllBelow, names_of, tree_of_node}
use Rattle.emitted_modules.specs.Nodes.{node_at}

-- so of the first so many
pub record AreTypedTo (g : Graph) (place : ℕ) : Type 0 where
  pub sorts : (k : ℕ) → k < place → IsSome (sort_of (tree_of_node g (node_at g k)))
  pub names : (k : ℕ) → k < place → AllBelow (length g.names) (names_of (node_at g k))

pub none_typed : (g : Graph) → AreTypedTo g 0
none_typed g = record { sorts = λ k h. absurd (omega (arith, h)); names = λ k h. absurd (omega (arith, h)) }

pub one_typed : (g : Graph) (place : ℕ) (n : Node) → n ≡ node_at g place → IsSome (sort_of (tree_of_node g n)) → AllBelow (length g.names) (names_of n)
    → AreTypedTo g place → AreTypedTo g (place + 1)
one_typed g place n e sorted named a = record {
  sorts = λ k h. elim (cases_lt k place) [
    | inl low ↦ a.sorts k low
    | inr high ↦
        let same : place ≡ k = omega (arith, h, high) in
        subst (λ j. IsSome (sort_of (tree_of_node g (node_at g j)))) same (subst (λ m. IsSome (sort_of (tree_of_node g m))) e sorted)
  ];
  names = λ k h. elim (cases_lt k place) [
    | inl low ↦ a.names k low
    | inr high ↦
        let same : place ≡ k = omega (arith, h, high) in
        subst (λ j. AllBelow (length g.names) (names_of (node_at g j))) same (subst (λ m. AllBelow (length g.names) (names_of m)) e named)
  ];
}

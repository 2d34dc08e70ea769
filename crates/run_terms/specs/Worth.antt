-- What terms of a store are worth under all values of its names.
use Rattle.std.specs.Prelude.{◌≡◌, ℕ, ◌<◌, List, length, slice_index_or, Some}
use Rattle.wb_values.specs.Value.{Sort, Value, number, Entries, Valuation}
use Rattle.model_meaning.specs.Term.{val, sort_of}
use Rattle.wb_terms.specs.declared.nodes.TermId.{TermId}
use Rattle.wb_terms.specs.Graph.{Graph, tree}
use Rattle.term_copies.specs.Copies.{id_at, declared_at}
use Rattle.run_terms.specs.Names.{FitsNames}

-- The term stands in the store and is of the sort, and under all values of the names it is worth this.
pub record IsWorth (g : Graph) (id : ℕ) (s : Sort) (meaning : Valuation → Value) : Type 0 where
  pub below : id < length g.nodes
  pub sort : sort_of (tree g id) ≡ Some s
  pub value : (v : Valuation) → FitsNames g.names v → val (tree g id) v ≡ meaning v

-- For each entry there is a term of its sort, and these are worth the values of a list, in its order.
pub record AreWorth (g : Graph) (ns : Entries Sort) (ids : List TermId) (meaning : Valuation → List Value) : Type 0 where
  pub count : length ids ≡ length ns
  pub values : (v : Valuation) → length (meaning v) ≡ length ns
  pub each : (k : ℕ) → k < length ns → IsWorth g (id_at ids k) (declared_at ns k).1 (λ v. slice_index_or (meaning v) k (number 0))

-- For each term of a source there is a term of its sort, worth what a meaning gives for the term of the source.
pub record AreWorthAll (g source : Graph) (ids : List TermId) (meaning : Valuation → ℕ → Value) : Type 0 where
  pub count : length ids ≡ length source.nodes
  pub each : (k : ℕ) (s : Sort) → k < length source.nodes → sort_of (tree source k) ≡ Some s → IsWorth g (id_at ids k) s (λ v. meaning v k)

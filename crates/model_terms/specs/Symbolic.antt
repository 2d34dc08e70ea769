-- Points and results in terms: for each name of a model's table a term of another store.
use Rattle.std.specs.Prelude.{◌≡◌, ℕ, ◌<◌, Bool, true, List, [], ◌∷◌, map, length, Option, Some}
use Rattle.wb_values.specs.Value.{Sort, truth, truth_value, Value, Entries, as_truth, Valuation}
use Rattle.model_meaning.specs.Term.{sort_of, val}
use Rattle.model_results.specs.Results.{Result}
use Rattle.wb_terms.specs.declared.nodes.TermId.{TermId}
use Rattle.wb_terms.specs.Graph.{Graph, tree}
use Rattle.term_copies.specs.Copies.{AreLeaves}
use Rattle.ila_model.specs.declared.parts.Parts.{Parts}
use Rattle.ila_child.specs.Running.{point_at}

-- what the terms are worth
abbrev pub worths : Graph → List TermId → Valuation → List Value
worths g ids v = map (λ (id : TermId). val (tree g id.0) v) ids

-- the point that the machine at a place sees, where the names have the values of these terms
abbrev pub sees : Graph → Parts → Option ℕ → List TermId → Valuation → Valuation
sees g p at ids v = point_at p at (worths g ids v)

abbrev pub is_true : Graph → ℕ → Valuation → Bool
is_true g id v = as_truth (val (tree g id) v)

-- a term of the store, of truth sort
pub record IsCondition (g : Graph) (id : ℕ) : Type 0 where
  pub below : id < length g.nodes
  pub sort : sort_of (tree g id) ≡ Some truth

-- a condition that is worth a truth value under every valuation, of whatever sorts its values are
pub record IsTest (g : Graph) (id : ℕ) : Type 0 where
  pub below : id < length g.nodes
  pub sort : sort_of (tree g id) ≡ Some truth
  pub value : (v : Valuation) → val (tree g id) v ≡ truth_value (is_true g id v)

-- The test is worth whether the result ended, and where it did, the terms give the result's point.
pub record IsReached (g : Graph) (p : Parts) (at : Option ℕ) (ended : ℕ) (point : List TermId) (r : Valuation → Result) : Type 0 where
  pub test : IsTest g ended
  pub leaves : AreLeaves g p.terms.names point
  pub is_ended : (v : Valuation) → is_true g ended v ≡ (r v).ended
  pub at_point : (v : Valuation) → (r v).ended ≡ true → sees g p at point v ≡ (r v).point

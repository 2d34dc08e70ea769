-- Terms that are false where values break an obligation, or are a whole command.
use Rattle.std.specs.Prelude.{◌≡◌, ◌↔◌, ℕ, ◌<◌, false, length, slice_get, Some}
use Rattle.wb_values.specs.Value.{truth, truth_value, Valuation}
use Rattle.model_meaning.specs.Term.{val, sort_of}
use Rattle.model_meaning.specs.Model.{Model}
use Rattle.wb_terms.specs.Graph.{Graph, tree}
use Rattle.v_design.specs.Parts.{Parts}
use Rattle.mapped_designs.specs.Mapped.{Mapped, MappedInstruction}
use Rattle.mapped_designs.specs.Runs.{Values, IsRestZero}
use Rattle.run_terms.specs.Names.{names_of_run, values_of_run, FitsNames}
use Rattle.condition_terms.specs.Told.{Tells}
use Rattle.obligation_lists.specs.declared.claims.MapCounts.{MapCounts}
use Rattle.obligation_lists.specs.declared.claims.Obligation.{Obligation}
use Rattle.obligation_lists.specs.Within.{IsObligationOf}
use Rattle.fact_terms.specs.Asked.{AreCountsIn}
use Rattle.fact_terms.specs.Ready as facts
use Rattle.obligation_terms.specs.declared.terms.ObligationTerms.{ObligationTerms}

-- The term is a truth value of the store.
pub record IsCondition (g : Graph) (id : ℕ) : Type 0 where
  pub below : id < length g.nodes
  pub sort : sort_of (tree g id) ≡ Some truth

-- It is false exactly where the values of a run are so.
abbrev pub IsFalseWhere : Graph → (id : ℕ) → Parts → (cycles : ℕ) → (IsSo : Values → Type 0) → Type 0
IsFalseWhere g id d cycles IsSo = (v : Valuation) → FitsNames g.names v → (val (tree g id) v ≡ truth_value false) ↔ IsSo (values_of_run d cycles v)

-- The store has the names of a run, its terms for facts, and a condition that is true exactly where what does not count of the first registers is 0.
pub record IsReadyFor (m : Model) (e : Mapped) (t : ObligationTerms) : Type 0 where
  pub names : t.terms.names ≡ names_of_run e.parts t.cycles
  pub facts : facts.IsReadyFor m e t.cycles t.terms t.read.items t.shown.items t.modelled
  pub rest : Tells t.terms t.rest.0 (λ v. IsRestZero e.parts (values_of_run e.parts t.cycles v).first)

-- The obligation speaks of what is there.
abbrev pub IsStated : Model → Mapped → Obligation → Type 0
IsStated m e o = (counts : MapCounts) × AreCountsIn e counts × IsObligationOf m counts o

-- The instruction has this bound.
abbrev pub HasEnd : Mapped → (j bound : ℕ) → Type 0
HasEnd e j bound = (i : MappedInstruction) × (slice_get e.instructions j ≡ Some i) × (i.bound ≡ bound)

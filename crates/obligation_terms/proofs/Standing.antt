-- A store that is ready stays so.
use Rattle.std.proofs.Common.{◌∙◌}
use Rattle.model_meaning.specs.Model.{Model}
use Rattle.wb_terms.specs.Graph.{Graph}
use Rattle.term_copies.specs.Copies.{IsExtended}
use Rattle.mapped_designs.specs.Mapped.{Mapped}
use Rattle.mapped_designs.specs.Runs.{IsRestZero}
use Rattle.run_terms.specs.Names.{values_of_run}
use Rattle.condition_terms.proofs.Forming.{Tells-kept}
use Rattle.fact_terms.proofs.Growing.{ready_kept}
use Rattle.obligation_terms.specs.declared.terms.ObligationTerms.{ObligationTerms}
use Rattle.obligation_terms.specs.Asked.{IsReadyFor}

pub still_ready : (m : Model) (e : Mapped) (t : ObligationTerms) (h : Graph) → IsExtended t.terms h → IsReadyFor m e t
    → IsReadyFor m e (record { terms = h; cycles = t.cycles; read = t.read; shown = t.shown; modelled = t.modelled; rest = t.rest })
still_ready m e t h a r = record {
  names = a.names ∙ r.names;
  facts = ready_kept m e t.cycles t.read.items t.shown.items t.modelled a r.facts;
  rest = Tells-kept t.rest.0 (λ v. IsRestZero e.parts (values_of_run e.parts t.cycles v).first) a r.rest;
}

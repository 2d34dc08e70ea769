use Rattle.std.proofs.Common.{◌≡◌}
use Rattle.wb_values.specs.Value.{memory, Valuation}
use Rattle.model_meaning.specs.Term.{val}
use Rattle.wb_terms.specs.Graph.{tree}
use Rattle.v_operators.specs.Meaning.{Grows, IsOfSort}
use Rattle.v_elab.specs.Kept.{named_at}
use Rattle.v_elab.specs.Tables.{IsCut}
use Rattle.v_elab.proofs.memory.memory_kept.Given as goal

abbrev pub invariant-loop-address : goal.invariant-loop-address
invariant-loop-address l = record {
  grows : Grows l.fn.terms l.terms;
  whole : IsOfSort l.terms l.whole.0 (memory l.address_width l.width);
  same : (p : Valuation) → val (tree l.terms l.whole.0) p ≡ p (named_at l.fn.terms l.fn.place.0).0;
  cut : IsCut l.terms (named_at l.fn.terms l.fn.place.0).0 l.address_width l.width l.masks l.address l.id.0;
}

use Rattle.std.proofs.Common.{◌≡◌}
use Rattle.v_operators.specs.Meaning.{Grows}
use Rattle.v_value.specs.Scope.{scope_at}
use Rattle.v_lower.specs.Table.{images_at}
use Rattle.v_design.specs.Parts.{Parts}
use Rattle.path_terms.specs.Origins.{AreOrigins}
use Rattle.path_terms.proofs.Filling.{IsFilled}
use Rattle.path_terms.proofs.naming.named_terms.Given as goal

abbrev pub invariant-loop-place : goal.invariant-loop-place
invariant-loop-place l = record {
  grows : Grows l.fn.terms l.terms;
  filled : (e : Parts) → e.graph ≡ l.fn.terms → AreOrigins (scope_at l.scope) e l.scope.declarations.items l.origins
      → IsFilled (scope_at l.scope) e l.scope.declarations.items l.place l.terms (images_at l.table);
}

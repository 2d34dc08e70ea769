use Rattle.std.proofs.Common.{◌≡◌, [], map, drop}
use Rattle.v_value.specs.Scope.{scope_at}
use Rattle.v_elab.proofs.Entering.{IsStoring}
use Rattle.v_elab.proofs.declaring.store_of.Given as goal

abbrev pub invariant-loop-name : goal.invariant-loop-name
invariant-loop-name l = record {
  so_far : IsStoring (scope_at l.scope) (map (λ n. n.now) l.list) (map (λ n. n.now) (drop l.name-index l.list)) l.terms.names;
  nodes : l.terms.nodes ≡ [];
}

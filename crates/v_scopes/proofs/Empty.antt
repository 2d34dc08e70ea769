-- A scope without names.
use Rattle.std.proofs.Common.{◌≡◌, sym, subst, arith, List, []}
use Rattle.verilog_meaning.specs.Expression.{scope_of}
use Rattle.v_value.specs.declared.scope.Declaration.{Declaration}
use Rattle.v_value.specs.Scope.{objects_of}
use Rattle.v_value.specs.Narrow.{HasNarrowObjects}

pub narrow_empty : (ds : List Declaration) → ds ≡ [] → HasNarrowObjects (scope_of (objects_of ds))
narrow_empty ds e = subst (λ xs. HasNarrowObjects (scope_of (objects_of xs))) (sym e) (λ n. (omega arith, tt))

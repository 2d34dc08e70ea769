use Rattle.std.proofs.Common.{take}
use Rattle.v_value.specs.Scope.{scope_at}
use Rattle.v_design.specs.Seen.{parts_of}
use Rattle.path_terms.specs.Origins.{AreOrigins}
use Rattle.path_terms.proofs.origins.origins_of.Given as goal

abbrev pub invariant-loop-declaration : goal.invariant-loop-declaration
invariant-loop-declaration l =
    AreOrigins (scope_at l.scope) (parts_of l.design) (take l.declaration-index l.declaration-items) l.list.items

use Rattle.std.proofs.Common.{◌≡◌, drop}
use Rattle.v_value.specs.Scope.{scope_at}
use Rattle.v_scopes.specs.Rows.{rows_of}
use Rattle.v_modules.specs.Combined.{one_other}
use Rattle.v_modules.proofs.name.has_other.Given as goal

abbrev pub invariant-loop-each : goal.invariant-loop-each
invariant-loop-each l = one_other (scope_at l.names) (rows_of l.declared) ≡ one_other (scope_at l.names) (rows_of (drop l.each-index l.declared))

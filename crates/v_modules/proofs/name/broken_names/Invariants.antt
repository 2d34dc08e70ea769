use Rattle.std.proofs.Common.{◌≡◌, drop}
use Rattle.v_value.specs.Scope.{scope_at}
use Rattle.v_scopes.specs.Rows.{rows_of}
use Rattle.v_rules.specs.Judging.{none}
use Rattle.v_modules.specs.Combined.{names_from}
use Rattle.v_modules.proofs.name.broken_names.Given as goal

abbrev pub invariant-loop-each : goal.invariant-loop-each
invariant-loop-each l = names_from (scope_at l.names) none (rows_of l.declared) ≡ names_from (scope_at l.names) l.all (rows_of (drop l.each-index l.declared))

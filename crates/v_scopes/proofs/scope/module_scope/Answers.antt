use Rattle.std.proofs.Common.{ap, ◌∙◌}
use Rattle.verilog_meaning.specs.Expression.{scope_of}
use Rattle.verilog_meaning.specs.Hierarchy.{declarations}
use Rattle.v_syntax.specs.Source.{module_of}
use Rattle.v_value.specs.Scope.{objects_of}
use Rattle.v_scopes.specs.Rows.{rows, rows_of}
use Rattle.v_scopes.proofs.Objects.{scope_so}
use Rattle.v_scopes.proofs.scope.module_scope.Goals as goal

pub returns-clause-declared : goal.returns-clause-declared
returns-clause-declared c =
    c.in_ok-names.ensures ∙ ap (λ ds. rows (scope_of (objects_of ds)) (declarations (module_of c.args.within.now))) c.no_constants-scope.ensures

pub returns-clause-scope : goal.returns-clause-scope
returns-clause-scope c =
    scope_so (module_of c.args.within.now) (rows_of c.in_ok-names.names.declared.items)
    (c.in_ok-names.ensures ∙ ap (λ ds. rows (scope_of (objects_of ds)) (declarations (module_of c.args.within.now))) c.no_constants-scope.ensures)

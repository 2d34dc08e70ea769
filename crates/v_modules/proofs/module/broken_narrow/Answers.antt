use Rattle.std.proofs.Common.{◌∙◌, ap, sym, subst}
use Rattle.verilog_meaning.specs.Expression.{scope_of}
use Rattle.v_syntax.specs.Source.{module_of}
use Rattle.v_value.specs.Scope.{objects_of, scope_at}
use Rattle.v_value.specs.Narrow.{HasNarrowObjects}
use Rattle.v_size.specs.Rule.{coded}
use Rattle.v_scopes.specs.Rows.{rows_of}
use Rattle.v_modules.specs.Combined.{text}
use Rattle.v_modules.proofs.Shapes.{narrow-fits}
use Rattle.v_modules.proofs.module.broken_narrow.Goals as goal

pub invariant_of-narrow : goal.invariant_of-narrow
invariant_of-narrow c = record {
  narrow =
      subst (λ es. HasNarrowObjects (scope_of es)) (sym c.in_ok-scope.ensures)
      (narrow-fits (objects_of c.args.constants.scope.now.declarations.items) c.args.constants.narrow (scope_at c.args.names.now) (rows_of c.args.declared.now));
}

pub returns : goal.returns
returns c = λ source so. c.broken_text-text.ensures source so ∙ ap (λ es. coded (text source (scope_of es) (module_of c.args.within.now))) c.in_ok-scope.ensures

use Rattle.std.proofs.Common.{◌∙◌, ap}
use Rattle.verilog_meaning.specs.Expression.{scope_of}
use Rattle.v_syntax.specs.Source.{module_of}
use Rattle.v_value.specs.Scope.{objects_of, scope_at}
use Rattle.v_scopes.specs.Rows.{rows_of}
use Rattle.v_size.specs.Rule.{coded}
use Rattle.v_rules.specs.Judging.{none}
use Rattle.v_modules.specs.Combined.{names_from, one_other, narrow_objects, net_objects, text}
use Rattle.v_modules.proofs.Assembled.{is_parameter, with-values, without-values}
use Rattle.v_modules.proofs.module.module_rule.Goals as goal

pub returns-then-not-has_other : goal.returns-then-not-has_other
returns-then-not-has_other c = λ source p so of_m constants.
    let m = module_of c.args.within.now in
    let cs = objects_of c.args.constants.scope.now.declarations.items in
    let ds = c.in_ok-rows.rows.declared.items in
    let s = scope_at c.in_ok-names.names in
    c.combined.ensures ∙ with-values source m cs c.args.constants.narrow (rows_of ds) c.in_ok-rows.ensures s (c.in_ok-names.ensures m c.in_ok-rows.ensures)
    c.broken_names-declared.result c.in_ok-text.text (c.broken_names-declared.ensures ∙ ap (λ xs. names_from s none (rows_of xs)) c.declarations.ensures)
    (c.in_ok-text.ensures source so ∙ ap (λ xs. coded (text source (scope_of (narrow_objects cs s (rows_of xs))) m)) c.declarations-2.ensures) p of_m constants
    c.has_other.result (c.has_other.ensures ∙ ap (λ xs. one_other s (rows_of xs)) c.declarations-3.ensures) c.if-not-has_other.true

pub returns : goal.returns
returns c = λ source p so of_m constants.
    let m = module_of c.args.within.now in
    let cs = objects_of c.args.constants.scope.now.declarations.items in
    let ds = c.in_ok-rows.rows.declared.items in
    let s = scope_at c.in_ok-names.names in
    c.combined-2.ensures ∙ without-values source m cs c.args.constants.narrow (rows_of ds) c.in_ok-rows.ensures s (c.in_ok-names.ensures m c.in_ok-rows.ensures)
    c.broken_names-declared.result c.in_ok-text.text (c.broken_names-declared.ensures ∙ ap (λ xs. names_from s none (rows_of xs)) c.declarations.ensures)
    (c.in_ok-text.ensures source so ∙ ap (λ xs. coded (text source (scope_of (narrow_objects cs s (rows_of xs))) m)) c.declarations-2.ensures) p of_m constants
    c.in_ok-other.other (c.in_ok-other.ensures source so ∙ ap (λ xs. coded (text source (scope_of (net_objects (is_parameter m) cs s (rows_of xs))) m)) c.declarations-4.ensures)

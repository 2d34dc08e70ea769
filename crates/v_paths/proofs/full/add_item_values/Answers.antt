use Rattle.std.proofs.Common.{◌∙◌, ◌≤◌, ap, sym, subst}
use Rattle.std.specs.Prelude.{◌||◌}
use Rattle.std.proofs.lemmas.Result.{on_ok_weaker}
use Rattle.verilog_meaning.specs.Statement.{greatest_width}
use Rattle.v_syntax.specs.Tree.{expressions_of}
use Rattle.v_value.specs.Scope.{scope_at}
use Rattle.v_flow.proofs.Sets.{or_false}
use Rattle.v_flow.proofs.Flows as flow
use Rattle.v_paths.specs.Cases.{label_width, one_label_is, item_has, has_number}
use Rattle.v_paths.proofs.full.add_item_values.Goals as goal

pub add_values-requires-clause-narrow : goal.add_values-requires-clause-narrow
add_values-requires-clause-narrow c =
    flow.narrow-Values (scope_at c.args.scope.now) c.args.item.now c.in-Values.labels c.in-Values.field-1 c.in-Values.is c.requires.narrow c.deref.result.now c.deref.ensures.value

pub add_values-requires-clause-within : goal.add_values-requires-clause-within
add_values-requires-clause-within c =
    let s = scope_at c.args.scope.now in
    subst (λ es. greatest_width s (expressions_of es) ≤ c.args.context.width) (sym c.deref.ensures.value)
    (subst (λ i. label_width s i ≤ c.args.context.width) c.in-Values.is c.requires.within)

pub returns-in-Values : goal.returns-in-Values
returns-in-Values c =
    let s = scope_at c.args.scope.now in
    let w = c.args.context.width in
    let g = c.args.context.signed in
    on_ok_weaker c.add_values.result
    (λ k x. k x ∙ ap (λ es. has_number c.args.values.now x || one_label_is s w g x es) c.deref.ensures.value
    ∙ ap (λ i. has_number c.args.values.now x || item_has s w g x i) (sym c.in-Values.is)) c.add_values.ensures

pub returns-in-Default : goal.returns-in-Default
returns-in-Default c = λ x.
    sym (or_false (has_number c.args.values.now x))
    ∙ ap (λ i. has_number c.args.values.now x || item_has (scope_at c.args.scope.now) c.args.context.width c.args.context.signed x i) (sym c.in-Default.is)

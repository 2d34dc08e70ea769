use Rattle.std.proofs.Common.{◌∙◌, ap, sym, max}
use Rattle.std.specs.Prelude.{◌&&◌}
use Rattle.verilog_meaning.specs.Statement.{greatest_width, all_signed}
use Rattle.v_syntax.specs.Tree.{expressions_of}
use Rattle.v_value.specs.Scope.{scope_at}
use Rattle.v_flow.proofs.Constants.{and_true}
use Rattle.v_flow.proofs.Flows as flow
use Rattle.v_paths.specs.Cases.{label_width, label_signed}
use Rattle.v_paths.proofs.Labels.{default-width}
use Rattle.v_paths.proofs.full.joined_item.Goals as goal

pub joined_all-requires : goal.joined_all-requires
joined_all-requires c =
    flow.narrow-Values (scope_at c.args.scope.now) c.args.item.now c.in-Values.labels c.in-Values.field-1 c.in-Values.is c.requires c.deref.result.now c.deref.ensures.value

pub returns-in-Values-clause-width : goal.returns-in-Values-clause-width
returns-in-Values-clause-width c =
    let s = scope_at c.args.scope.now in
    c.joined_all.ensures.width ∙ ap (λ es. max c.args.context.width (greatest_width s (expressions_of es))) c.deref.ensures.value
    ∙ ap (λ i. max c.args.context.width (label_width s i)) (sym c.in-Values.is)

pub returns-in-Values-clause-signed : goal.returns-in-Values-clause-signed
returns-in-Values-clause-signed c =
    let s = scope_at c.args.scope.now in
    c.joined_all.ensures.signed ∙ ap (λ es. c.args.context.signed && all_signed s (expressions_of es)) c.deref.ensures.value
    ∙ ap (λ i. c.args.context.signed && label_signed s i) (sym c.in-Values.is)

pub returns-in-Default-clause-width : goal.returns-in-Default-clause-width
returns-in-Default-clause-width c =
    default-width c.args.context.width ∙ ap (λ i. max c.args.context.width (label_width (scope_at c.args.scope.now) i)) (sym c.in-Default.is)

pub returns-in-Default-clause-signed : goal.returns-in-Default-clause-signed
returns-in-Default-clause-signed c =
    sym (and_true c.args.context.signed) ∙ ap (λ i. c.args.context.signed && label_signed (scope_at c.args.scope.now) i) (sym c.in-Default.is)

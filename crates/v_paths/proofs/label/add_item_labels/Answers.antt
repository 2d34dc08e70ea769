use Rattle.std.proofs.Common.{◌∙◌, ap, sym}
use Rattle.verilog_designs.specs.Reads.{or_in, reads_in_all}
use Rattle.v_syntax.specs.Tree.{expressions_of}
use Rattle.v_value.specs.Scope.{scope_at}
use Rattle.v_flow.specs.Spans.{bits_in}
use Rattle.v_flow.proofs.Sets.{nothing}
use Rattle.v_flow.proofs.Flows as flow
use Rattle.v_paths.specs.Walks.{item_reads}
use Rattle.v_paths.proofs.label.add_item_labels.Goals as goal

pub add_labels-requires-clause-narrow : goal.add_labels-requires-clause-narrow
add_labels-requires-clause-narrow c =
    flow.narrow-Values (scope_at c.args.scope.now) c.args.item.now c.in-Values.labels c.in-Values.field-1 c.in-Values.is c.requires.narrow c.deref.result.now c.deref.ensures.value

pub returns-in_ok-add_labels-in-Values : goal.returns-in_ok-add_labels-in-Values
returns-in_ok-add_labels-in-Values c =
    let s = scope_at c.args.scope.now in
    c.in_ok-add_labels-in-Values.ensures
    ∙ ap (λ es. or_in (bits_in c.args.outside.now.items) (reads_in_all s (expressions_of es))) c.deref.ensures.value
    ∙ ap (λ i. or_in (bits_in c.args.outside.now.items) (item_reads s i)) (sym c.in-Values.is)

pub returns-in-Default : goal.returns-in-Default
returns-in-Default c = nothing _ _ (sym (ap (item_reads (scope_at c.args.scope.now)) c.in-Default.is))

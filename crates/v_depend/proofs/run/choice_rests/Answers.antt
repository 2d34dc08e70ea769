use Rattle.std.proofs.Common.{◌∙◌, ap}
use Rattle.verilog_designs.specs.Reads.{BitSet, or_in, reads, items_read}
use Rattle.v_syntax.specs.Tree.{tree_of}
use Rattle.v_value.specs.Scope.{scope_at}
use Rattle.v_statement.specs.Effects.{item_list}
use Rattle.v_flow.specs.Spans.{bits_in}
use Rattle.v_masks.specs.Masks.{masked}
use Rattle.v_depend.proofs.Meeting.{same-bits, begun}
use Rattle.v_depend.proofs.run.choice_rests.Goals as goal

pub returns : goal.returns
returns c =
    let s = scope_at c.args.scope.now in
    let labels = items_read s (item_list c.args.items.now) in
    same-bits (masked c.args.unsettled.now) _ (or_in (reads s (tree_of c.args.value.now)) labels) _
    (ap bits_in c.deref.ensures.value ∙ c.in_ok-add_labels.ensures
    ∙ ap (λ (z : BitSet). or_in z labels) (begun _ _ _ c.new-spans.ensures.items c.in_ok-add_reads.ensures)) c.meets-met.ensures

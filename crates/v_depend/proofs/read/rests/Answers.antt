use Rattle.std.proofs.Common.{◌∙◌, ap}
use Rattle.verilog_designs.specs.Reads.{reads}
use Rattle.v_syntax.specs.Tree.{tree_of}
use Rattle.v_value.specs.Scope.{scope_at}
use Rattle.v_flow.specs.Spans.{bits_in}
use Rattle.v_masks.specs.Masks.{masked}
use Rattle.v_depend.proofs.Meeting.{same-bits, begun}
use Rattle.v_depend.proofs.read.rests.Goals as goal

pub returns : goal.returns
returns c =
    same-bits (masked c.args.unsettled.now) _ (reads (scope_at c.args.scope.now) (tree_of c.args.expression.now)) _
    (ap bits_in c.deref.ensures.value ∙ begun _ _ _ c.new-spans.ensures.items c.in_ok-add_reads.ensures) c.meets-met.ensures

use Rattle.std.proofs.Common.{◌∙◌, ap}
use Rattle.verilog_designs.specs.Reads.{target_reads}
use Rattle.v_syntax.specs.Tree.{target_of}
use Rattle.v_value.specs.Scope.{scope_at}
use Rattle.v_flow.specs.Spans.{bits_in}
use Rattle.v_masks.specs.Masks.{masked}
use Rattle.v_depend.proofs.Meeting.{same-bits, begun}
use Rattle.v_depend.proofs.read.index_rests.Goals as goal

pub returns : goal.returns
returns c =
    same-bits (masked c.args.unsettled.now) _ (target_reads (scope_at c.args.scope.now) (target_of c.args.target.now)) _
    (ap bits_in c.deref.ensures.value ∙ begun _ _ _ c.new-spans.ensures.items c.in_ok-add_target_reads.ensures) c.meets-met.ensures

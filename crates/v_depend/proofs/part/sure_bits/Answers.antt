use Rattle.verilog_designs.specs.Reads.{surely_reaches}
use Rattle.v_syntax.specs.Tree.{target_of}
use Rattle.v_value.specs.Scope.{scope_at}
use Rattle.v_flow.specs.Spans.{existing}
use Rattle.v_depend.proofs.Meeting.{begun, mask-of}
use Rattle.v_depend.proofs.part.sure_bits.Goals as goal

pub returns : goal.returns
returns c = λ b.
    mask-of c.in_ok-table.table c.args.name.now _ b _ c.deref.result.now (existing (scope_at c.args.scope.now) (surely_reaches (scope_at c.args.scope.now) (target_of c.args.target.now)))
    c.mask_under.ensures c.in_ok-table.ensures c.deref.ensures.value (begun _ _ _ c.new-spans.ensures.items c.in_ok-add_surely_reached.ensures)

use Rattle.std.proofs.Common.{◌∙◌, ap}
use Rattle.v_flow.specs.Spans.{bits_in}
use Rattle.v_paths.proofs.Tables.{appended}
use Rattle.v_paths.proofs.path.follow.Goals as goal

pub returns-clause-outside : goal.returns-clause-outside
returns-clause-outside c = c.in_ok-add_left.ensures

pub returns-clause-done : goal.returns-clause-done
returns-clause-done c = c.in_ok-add_spans.ensures

pub returns-clause-sure : goal.returns-clause-sure
returns-clause-sure c = ap bits_in c.in_ok-extend_from_slice.ensures.items ∙ appended c.args.sure.now.items c.args.assigned.now

use Rattle.v_value.specs.Scope.{scope_at}
use Rattle.v_syntax.specs.Tree.{statement_of}
use Rattle.v_drivers.specs.Sets.{assigned_by}
use Rattle.v_drivers.proofs.Driving.{one-more}
use Rattle.v_drivers.proofs.block.add_block.Goals as goal

pub returns : goal.returns
returns c =
    one-more c.args.drivers.now.items c.push.new.self.items c.add_assigned.new.found c.new-spans.result.items
    (assigned_by (scope_at c.args.scope.now) (statement_of c.args.block.now)) c.new-spans.ensures.items c.in_ok-add_assigned.ensures c.in_ok-push.ensures.items

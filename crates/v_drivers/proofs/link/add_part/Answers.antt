use Rattle.v_value.specs.Scope.{scope_at}
use Rattle.v_syntax.specs.Tree.{target_of}
use Rattle.v_drivers.specs.Sets.{reached_by}
use Rattle.v_drivers.proofs.Driving.{one-more}
use Rattle.v_drivers.proofs.link.add_part.Goals as goal

pub returns : goal.returns
returns c =
    one-more c.args.drivers.now.items c.push.new.self.items c.add_reached.new.found c.new-spans.result.items
    (reached_by (scope_at c.args.scope.now) (target_of c.args.target.now)) c.new-spans.ensures.items c.in_ok-add_reached.ensures c.in_ok-push.ensures.items

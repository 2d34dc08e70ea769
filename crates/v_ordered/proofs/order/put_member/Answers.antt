use Rattle.std.proofs.Common.{ap, sym, option_map}
use Rattle.v_hier.specs.Tables.{under_name}
use Rattle.v_ordered.specs.Membership.{member_of}
use Rattle.v_ordered.specs.Tables.{text_under}
use Rattle.v_ordered.proofs.Told.{net_put, instance_put}
use Rattle.v_ordered.proofs.order.put_member.Goals as goal

pub returns-in_ok-push-in-Some : goal.returns-in_ok-push-in-Some
returns-in_ok-push-in-Some c = λ lists.
    net_put lists (text_under c.args.names.now) (under_name c.args.below.now) c.args.stack.now.items c.push.new.self.items (member_of c.args.member)
    c.in-Net.name.now c.in-Some.text.now (ap member_of c.in-Net.is) c.in_ok-push-in-Some.ensures.items
    (sym (ap (option_map (λ m. m.now)) c.in-Some.ensures.value))

pub returns-in_ok-push-in-Some-get : goal.returns-in_ok-push-in-Some-get
returns-in_ok-push-in-Some-get c = λ lists.
    instance_put lists (text_under c.args.names.now) (under_name c.args.below.now) c.args.stack.now.items c.push-in-Some-get.new.self.items
    (member_of c.args.member) c.in-Instance.name.now c.in-Some-get.number.now (ap member_of c.in-Instance.is) c.in_ok-push-in-Some-get.ensures.items
    (sym c.in-Some-get.ensures.value)

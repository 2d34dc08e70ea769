use Rattle.std.proofs.Common.{◌∙◌, sym, ap, map}
use Rattle.std.proofs.lemmas.List.{map-append}
use Rattle.verilog_registers.specs.Order.{net}
use Rattle.v_ordered.specs.Membership.{member_of}
use Rattle.v_ordered.proofs.Adding.{old_one, new_one, more_nets}
use Rattle.v_ordered.proofs.members.add_net.Goals as goal

pub returns-then-contains : goal.returns-then-contains
returns-then-contains c = old_one c.args.members.now (net c.args.name.now) (sym c.contains.ensures ∙ c.if-contains.true)

pub returns : goal.returns
returns c =
    new_one c.args.members.now (record { list = c.push.new.self; nets = c.insert.new.self; instances = c.args.members.now.instances }) (net c.args.name.now) (sym c.contains.ensures ∙ c.if-contains.false)
    (more_nets c.args.members.now.nets c.insert.new.self c.args.members.now.instances c.args.name c.in_ok-insert.ensures.updates)
    (ap (map member_of) c.in_ok-push.ensures.items ∙ map-append member_of c.args.members.now.list.items _)

use Rattle.std.proofs.Common.{◌∙◌, sym, ap, map}
use Rattle.std.proofs.lemmas.List.{map-append}
use Rattle.verilog_registers.specs.Order.{instance}
use Rattle.v_ordered.specs.Membership.{member_of}
use Rattle.v_ordered.proofs.Adding.{old_one, new_one, more_instances}
use Rattle.v_ordered.proofs.members.add_instance.Goals as goal

pub returns-then-contains : goal.returns-then-contains
returns-then-contains c = old_one c.args.members.now (instance c.args.name.now) (sym c.contains.ensures ∙ c.if-contains.true)

pub returns : goal.returns
returns c =
    new_one c.args.members.now (record { list = c.push.new.self; nets = c.args.members.now.nets; instances = c.insert.new.self }) (instance c.args.name.now) (sym c.contains.ensures ∙ c.if-contains.false)
    (more_instances c.args.members.now.nets c.args.members.now.instances c.insert.new.self c.args.name c.in_ok-insert.ensures.updates)
    (ap (map member_of) c.in_ok-push.ensures.items ∙ map-append member_of c.args.members.now.list.items _)

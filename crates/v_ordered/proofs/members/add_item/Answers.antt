use Rattle.std.proofs.Common.{◌∙◌, ap, sym, subst, map}
use Rattle.std.specs.Prelude.{OnOk}
use Rattle.v_hier.specs.Tables.{has_name}
use Rattle.v_syntax.specs.Source.{item_of}
use Rattle.v_ordered.specs.Membership.{Adds, nets_named, instances_named, item_nets}
use Rattle.v_ordered.proofs.Texts.{wires_named, variables_named, instances_listed}
use Rattle.v_ordered.proofs.members.add_item.Goals as goal

pub returns-in-Wires : goal.returns-in-Wires
returns-in-Wires c =
    subst (λ i. OnOk c.add_wires.result (Adds c.args.members.now (item_nets (has_name c.args.variables.now) (item_of i)) c.add_wires.new.members)) (sym c.in-Wires.is)
    (subst (λ xs. OnOk c.add_wires.result (Adds c.args.members.now xs c.add_wires.new.members))
    (ap (λ ys. nets_named (map (λ y. y.name.now) ys)) c.deref-in-Wires.ensures.value ∙ wires_named c.in-Wires.wires.items) c.add_wires.ensures)

pub returns-in-Variables : goal.returns-in-Variables
returns-in-Variables c =
    subst (λ i. OnOk c.add_variables.result (Adds c.args.members.now (item_nets (has_name c.args.variables.now) (item_of i)) c.add_variables.new.members)) (sym c.in-Variables.is)
    (subst (λ xs. OnOk c.add_variables.result (Adds c.args.members.now xs c.add_variables.new.members))
    (ap (λ ys. nets_named (map (λ y. y.name.now) ys)) c.deref-in-Variables.ensures.value ∙ variables_named c.in-Variables.variables.items) c.add_variables.ensures)

pub returns-in-Instances : goal.returns-in-Instances
returns-in-Instances c =
    subst (λ i. OnOk c.add_instances.result (Adds c.args.members.now (item_nets (has_name c.args.variables.now) (item_of i)) c.add_instances.new.members)) (sym c.in-Instances.is)
    (subst (λ xs. OnOk c.add_instances.result (Adds c.args.members.now xs c.add_instances.new.members))
    (ap (λ ys. instances_named (map (λ y. y.name.now) ys)) c.deref-in-Instances.ensures.value ∙ instances_listed c.in-Instances.instances.items) c.add_instances.ensures)

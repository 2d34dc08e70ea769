use Rattle.std.proofs.Common.{refl}
use Rattle.v_print.proofs.Written.{then, as_front}
use Rattle.v_print_source.proofs.Wholes.{port_arm, parameter_arm, wires_arm, variables_arm, assign_arm, always_arm, instances_arm}
use Rattle.v_print_source.proofs.item.write_item.Goals as goal

pub returns-in_ok-mark-in-Port : goal.returns-in_ok-mark-in-Port
returns-in_ok-mark-in-Port c = as_front (port_arm c.args.colons c.args.item.now c.in-Port.port c.in-Port.is) (then c.in_ok-write_port-in-Port.ensures c.in_ok-mark-in-Port.ensures)

pub returns-in_ok-mark-in-Parameter : goal.returns-in_ok-mark-in-Parameter
returns-in_ok-mark-in-Parameter c = as_front (parameter_arm c.args.colons c.args.item.now c.in-Parameter.parameter c.in-Parameter.is) (then c.in_ok-write_parameter-in-Parameter.ensures c.in_ok-mark-in-Parameter.ensures)

pub returns-in_ok-mark-in-Wires : goal.returns-in_ok-mark-in-Wires
returns-in_ok-mark-in-Wires c = as_front (wires_arm c.args.colons c.args.item.now c.in-Wires.signed c.in-Wires.signed c.in-Wires.range c.in-Wires.wires c.deref.result.now c.in-Wires.is refl c.deref.ensures.value)
    (then c.in_ok-write_kind_of-in-Wires.ensures (then c.in_ok-write_wires-in-Wires.ensures c.in_ok-mark-in-Wires.ensures))

pub returns-in_ok-mark-in-Variables : goal.returns-in_ok-mark-in-Variables
returns-in_ok-mark-in-Variables c = as_front (variables_arm c.args.colons c.args.item.now c.in-Variables.signed c.in-Variables.signed c.in-Variables.range c.in-Variables.variables c.deref-in-Variables.result.now c.in-Variables.is refl c.deref-in-Variables.ensures.value)
    (then c.in_ok-write_kind_of-in-Variables.ensures (then c.in_ok-write_variables-in-Variables.ensures c.in_ok-mark-in-Variables.ensures))

pub returns-in_ok-mark-in-Assign : goal.returns-in_ok-mark-in-Assign
returns-in_ok-mark-in-Assign c = as_front (assign_arm c.args.colons c.args.item.now c.in-Assign.assignments c.deref-in-Assign.result.now c.in-Assign.is c.deref-in-Assign.ensures.value)
    (then c.in_ok-word-in-Assign.ensures (then c.in_ok-blank-in-Assign.ensures.reads (then c.in_ok-write_all_continuous-in-Assign.ensures c.in_ok-mark-in-Assign.ensures)))

pub returns-in_ok-write_always-in-Always : goal.returns-in_ok-write_always-in-Always
returns-in_ok-write_always-in-Always c = as_front (always_arm c.args.colons c.args.item.now c.in-Always.events c.in-Always.statement c.deref-in-Always.result.now c.in-Always.is c.deref-in-Always.ensures) c.in_ok-write_always-in-Always.ensures

pub returns-in_ok-mark-in-Instances : goal.returns-in_ok-mark-in-Instances
returns-in_ok-mark-in-Instances c = as_front (instances_arm c.args.colons c.args.item.now c.in-Instances.module c.in-Instances.overrides c.in-Instances.instances c.deref-in-Instances.result.now c.in-Instances.is c.deref-in-Instances.ensures.value)
    (then c.in_ok-word-in-Instances.ensures (then c.in_ok-write_overrides-in-Instances.ensures (then c.in_ok-blank-in-Instances.ensures.reads (then c.in_ok-write_instances-in-Instances.ensures c.in_ok-mark-in-Instances.ensures))))

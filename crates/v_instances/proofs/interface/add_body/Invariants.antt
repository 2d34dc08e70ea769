use Rattle.std.proofs.Common.{◌≡◌, ◌++◌, drop, map}
use Rattle.verilog_meaning.specs.Hierarchy.{body_parameters, overridable}
use Rattle.v_syntax.specs.Source.{item_of}
use Rattle.v_instances.specs.Texts.{texts}
use Rattle.v_instances.proofs.interface.add_body.Given as goal

abbrev pub invariant-loop-item : goal.invariant-loop-item
invariant-loop-item l = texts l.initial.order.items ++ overridable (body_parameters (map item_of l.items)) ≡ texts l.order.items ++ overridable (body_parameters (map item_of (drop l.item-index l.items)))

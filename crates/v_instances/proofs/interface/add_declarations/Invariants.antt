use Rattle.std.proofs.Common.{◌≡◌, ◌++◌, drop, map}
use Rattle.verilog_meaning.specs.Hierarchy.{overridable}
use Rattle.v_syntax.specs.Source.{parameter_of}
use Rattle.v_instances.specs.Texts.{texts}
use Rattle.v_instances.proofs.interface.add_declarations.Given as goal

abbrev pub invariant-loop-declaration : goal.invariant-loop-declaration
invariant-loop-declaration l = texts l.initial.order.items ++ overridable (map parameter_of l.declarations) ≡ texts l.order.items ++ overridable (map parameter_of (drop l.declaration-index l.declarations))

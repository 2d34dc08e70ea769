use Rattle.std.proofs.Common.{◌≡◌, ◌++◌, drop}
use Rattle.v_instances.specs.Texts.{texts}
use Rattle.v_instances.proofs.listing.add_names.Given as goal

abbrev pub invariant-loop-name : goal.invariant-loop-name
invariant-loop-name l = texts l.initial.order.items ++ texts l.names ≡ texts l.order.items ++ texts (drop l.name-index l.names)

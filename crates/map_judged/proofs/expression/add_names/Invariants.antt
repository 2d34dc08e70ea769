use Rattle.std.proofs.Common.{◌≡◌, ◌++◌, drop}
use Rattle.v_instances.specs.Texts.{texts}
use Rattle.map_judged.proofs.expression.add_names.Given as goal

abbrev pub invariant-loop-name : goal.invariant-loop-name
invariant-loop-name l = texts l.initial.all.items ++ texts l.names ≡ texts l.all.items ++ texts (drop l.name-index l.names)

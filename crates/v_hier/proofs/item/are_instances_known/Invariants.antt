use Rattle.std.proofs.Common.{◌≡◌, drop, map}
use Rattle.v_syntax.specs.Source.{connections_of}
use Rattle.v_hier.specs.Reading.{knows, instances_known}
use Rattle.v_hier.proofs.item.are_instances_known.Given as goal

abbrev pub invariant-loop-instance : goal.invariant-loop-instance
invariant-loop-instance l = instances_known (knows l.names) (map (λ i. (i.name.now, connections_of i.connections)) l.instances) ≡ instances_known (knows l.names) (map (λ i. (i.name.now, connections_of i.connections)) (drop l.instance-index l.instances))

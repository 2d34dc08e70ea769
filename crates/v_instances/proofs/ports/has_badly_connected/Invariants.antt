use Rattle.std.proofs.Common.{◌≡◌, drop, map}
use Rattle.v_syntax.specs.Source.{connections_of}
use Rattle.v_instances.specs.Connections.{one_bad_to}
use Rattle.v_instances.proofs.ports.has_badly_connected.Given as goal

abbrev pub invariant-loop-instance : goal.invariant-loop-instance
invariant-loop-instance l = one_bad_to l.interface (map (λ i. (i.name.now, connections_of i.connections)) l.instances) ≡ one_bad_to l.interface (map (λ i. (i.name.now, connections_of i.connections)) (drop l.instance-index l.instances))

use Rattle.std.proofs.Common.{◌≡◌, ◌++◌, drop, map}
use Rattle.v_ports.proofs.ports.add_names.Given as goal

abbrev pub invariant-loop-name : goal.invariant-loop-name
invariant-loop-name l =
    map (λ n. n.now) l.initial.order.items ++ map (λ n. n.now) l.names ≡ map (λ n. n.now) l.order.items ++ map (λ n. n.now) (drop l.name-index l.names)

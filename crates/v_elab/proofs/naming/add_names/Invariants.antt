use Rattle.std.proofs.Common.{◌≡◌, ◌++◌, map, take}
use Rattle.v_elab.proofs.naming.add_names.Given as goal

abbrev pub invariant-loop-name : goal.invariant-loop-name
invariant-loop-name l =
    map (λ n. n.now) l.order.items ≡ map (λ n. n.now) l.initial.order.items ++ map (λ n. n.now) (take l.name-index l.names)

use Rattle.std.proofs.Common.{◌≡◌, ◌++◌, drop}
use Rattle.std.specs.Prelude.{map}
use Rattle.v_hier.specs.Tables.{has_name}
use Rattle.v_registers.specs.Once.{each_once, outside}
use Rattle.v_registers.proofs.once.each_once.Given as goal

abbrev pub invariant-loop-each : goal.invariant-loop-each
invariant-loop-each l =
    map (λ n. n.now) l.names.items ++ outside (has_name l.seen) (each_once (map (λ n. n.now) (drop l.each-index l.list)))
    ≡ each_once (map (λ n. n.now) l.list)

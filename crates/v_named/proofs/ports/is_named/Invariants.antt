use Rattle.std.proofs.Common.{◌≡◌, drop, map, Bor, List, ℕ}
use Rattle.verilog_designs.specs.Names.{is_among}
use Rattle.v_named.proofs.ports.is_named.Given as goal

abbrev pub invariant-loop-each : goal.invariant-loop-each
invariant-loop-each l =
    is_among (map (λ (n : Bor (List ℕ)). n.now) l.names) l.name ≡ is_among (map (λ (n : Bor (List ℕ)). n.now) (drop l.each-index l.names)) l.name

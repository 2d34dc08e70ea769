use Rattle.std.proofs.Common.{◌≡◌, drop, map}
use Rattle.std.specs.List.{list_any}
use Rattle.v_scopes.specs.Scopes.{declared_in}
use Rattle.v_ports.specs.Ports.{is_reg_input_row}
use Rattle.v_ports.proofs.ports.has_reg_input.Given as goal

abbrev pub invariant-loop-name : goal.invariant-loop-name
invariant-loop-name l =
    list_any (λ n. is_reg_input_row (declared_in l.names n)) (map (λ n. n.now) l.order)
    ≡ list_any (λ n. is_reg_input_row (declared_in l.names n)) (map (λ n. n.now) (drop l.name-index l.order))

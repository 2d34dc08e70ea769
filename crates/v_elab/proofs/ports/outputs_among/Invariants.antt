use Rattle.std.proofs.Common.{◌≡◌, ◌++◌, map, drop}
use Rattle.std.specs.Prelude.{string_bytes}
use Rattle.v_elab.specs.Names.{is_output_of, chosen}
use Rattle.v_elab.proofs.ports.outputs_among.Given as goal

abbrev pub invariant-loop-name : goal.invariant-loop-name
invariant-loop-name l =
    map string_bytes l.found.items ++ chosen (is_output_of l.names) (map (λ n. n.now) (drop l.name-index l.list)) ≡ chosen (is_output_of l.names) (map (λ n. n.now) l.list)

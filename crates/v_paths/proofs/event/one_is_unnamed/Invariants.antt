use Rattle.std.proofs.Common.{◌≡◌, not, drop}
use Rattle.v_hier.specs.Tables.{has_name}
use Rattle.v_paths.specs.Latches.{one_has_bit}
use Rattle.v_paths.proofs.event.one_is_unnamed.Given as goal

abbrev pub invariant-loop-span : goal.invariant-loop-span
invariant-loop-span l =
    one_has_bit (λ n. not (has_name l.names n)) l.spans ≡ one_has_bit (λ n. not (has_name l.names n)) (drop l.span-index l.spans)

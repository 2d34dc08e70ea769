use Rattle.std.proofs.Common.{◌≡◌, drop}
use Rattle.std.specs.Prelude.{is_none}
use Rattle.v_value.specs.Scope.{scope_at}
use Rattle.v_paths.specs.Latches.{one_has_bit}
use Rattle.v_paths.proofs.latch.one_has_variable_bit.Given as goal

abbrev pub invariant-loop-span : goal.invariant-loop-span
invariant-loop-span l =
    one_has_bit (λ n. is_none (scope_at l.scope n).constant) l.spans ≡ one_has_bit (λ n. is_none (scope_at l.scope n).constant) (drop l.span-index l.spans)

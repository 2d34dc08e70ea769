use Rattle.std.proofs.Common.{◌*◌}
use Rattle.std.specs.Prelude.{map}
use Rattle.v_syntax.specs.Source.{item_of}
use Rattle.v_value.specs.Scope.{scope_at}
use Rattle.v_flow.specs.Spans.{bits_in}
use Rattle.v_paths.specs.Premises.{HasNoMemory}
use Rattle.v_loops.specs.Turns.{IsLeft}
use Rattle.v_loops.proofs.module.has_loop.Given as goal

abbrev pub invariant-loop : goal.invariant-loop
invariant-loop l = record {
  stays : IsLeft (scope_at l.scope) (map item_of l.items) (l.counter * 128) (bits_in l.left.items);
  variables : HasNoMemory (scope_at l.scope) (bits_in l.left.items);
}

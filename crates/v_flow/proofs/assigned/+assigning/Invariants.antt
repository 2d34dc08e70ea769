use Rattle.std.proofs.Common.{◌≡◌, drop}
use Rattle.verilog_designs.specs.Reads.{or_in}
use Rattle.v_value.specs.Scope.{scope_at}
use Rattle.v_flow.specs.Spans.{bits_in}
use Rattle.v_flow.specs.Flow.{all_assigned, ladder_assigned, bodies_assigned, AreNarrowLadder, AreNarrowAll, AreNarrowItems}
use Rattle.v_flow.proofs.assigned.+assigning.Given as goal

abbrev pub invariant-add_all-loop-statement : goal.invariant-add_all-loop-statement
invariant-add_all-loop-statement l = record {
  same : or_in (bits_in l.initial.found.items) (all_assigned (scope_at l.scope) l.statements)
      ≡ or_in (bits_in l.found.items) (all_assigned (scope_at l.scope) (drop l.statement-index l.statements));
  narrow : AreNarrowAll (scope_at l.scope) (drop l.statement-index l.statements);
}

abbrev pub invariant-add_bodies-loop-item : goal.invariant-add_bodies-loop-item
invariant-add_bodies-loop-item l = record {
  same : or_in (bits_in l.initial.found.items) (bodies_assigned (scope_at l.scope) l.items)
      ≡ or_in (bits_in l.found.items) (bodies_assigned (scope_at l.scope) (drop l.item-index l.items));
  narrow : AreNarrowItems (scope_at l.scope) (drop l.item-index l.items);
}

abbrev pub invariant-add_ladder-loop-arm : goal.invariant-add_ladder-loop-arm
invariant-add_ladder-loop-arm l = record {
  same : or_in (bits_in l.initial.found.items) (ladder_assigned (scope_at l.scope) l.arms)
      ≡ or_in (bits_in l.found.items) (ladder_assigned (scope_at l.scope) (drop l.arm-index l.arms));
  narrow : AreNarrowLadder (scope_at l.scope) (drop l.arm-index l.arms);
}

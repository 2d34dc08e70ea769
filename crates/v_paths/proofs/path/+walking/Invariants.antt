use Rattle.std.proofs.Common.{◌≡◌, true, drop}
use Rattle.verilog_designs.specs.Reads.{no_bits, or_in, but_not_in}
use Rattle.v_value.specs.Scope.{scope_at}
use Rattle.v_flow.specs.Spans.{bits_in}
use Rattle.v_flow.specs.Flow.{all_assigned, ladder_assigned, bodies_assigned, AreNarrowLadder, AreNarrowAll, AreNarrowItems}
use Rattle.v_masks.specs.Masks.{masked, spread}
use Rattle.v_paths.specs.Premises.{HasNoMemory}
use Rattle.v_paths.specs.Walks.{all_sure, all_outside, ladder_sure, ladder_outside, bodies_sure, bodies_outside}
use Rattle.v_paths.proofs.Plain.{IsPlain}
use Rattle.v_paths.proofs.path.+walking.Given as goal

abbrev pub invariant-in_turn-loop-statement : goal.invariant-in_turn-loop-statement
invariant-in_turn-loop-statement l = record {
  outside : or_in (bits_in l.initial.outside.items) (all_outside (scope_at l.scope) l.statements)
      ≡ or_in (bits_in l.outside.items) (but_not_in (all_outside (scope_at l.scope) (drop l.statement-index l.statements)) (bits_in l.sure.items));
  surely : all_sure (scope_at l.scope) l.statements ≡ or_in (bits_in l.sure.items) (all_sure (scope_at l.scope) (drop l.statement-index l.statements));
  done : masked l.done ≡ spread (bits_in l.sure.items);
  plain : IsPlain (scope_at l.scope) (bits_in l.sure.items);
  narrow : AreNarrowAll (scope_at l.scope) (drop l.statement-index l.statements);
  free : HasNoMemory (scope_at l.scope) (all_assigned (scope_at l.scope) (drop l.statement-index l.statements));
}

abbrev pub invariant-ladder-loop-arm : goal.invariant-ladder-loop-arm
invariant-ladder-loop-arm l = record {
  outside : or_in (bits_in l.initial.outside.items) (ladder_outside (scope_at l.scope) l.arms)
      ≡ or_in (bits_in l.outside.items) (ladder_outside (scope_at l.scope) (drop l.arm-index l.arms));
  surely : ladder_sure (scope_at l.scope) l.arms (bits_in l.initial.sure.items) ≡ ladder_sure (scope_at l.scope) (drop l.arm-index l.arms) (bits_in l.sure.items);
  narrow : AreNarrowLadder (scope_at l.scope) (drop l.arm-index l.arms);
  free : HasNoMemory (scope_at l.scope) (ladder_assigned (scope_at l.scope) (drop l.arm-index l.arms));
}

abbrev pub invariant-bodies-loop-item : goal.invariant-bodies-loop-item
invariant-bodies-loop-item l = record {
  outside : or_in (bits_in l.initial.outside.items) (bodies_outside (scope_at l.scope) l.items)
      ≡ or_in (bits_in l.outside.items) (bodies_outside (scope_at l.scope) (drop l.item-index l.items));
  surely : bodies_sure (scope_at l.scope) l.items true no_bits ≡ bodies_sure (scope_at l.scope) (drop l.item-index l.items) l.first (bits_in l.sure.items);
  narrow : AreNarrowItems (scope_at l.scope) (drop l.item-index l.items);
  free : HasNoMemory (scope_at l.scope) (bodies_assigned (scope_at l.scope) (drop l.item-index l.items));
}

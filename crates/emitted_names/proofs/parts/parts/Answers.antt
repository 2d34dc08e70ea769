use Rattle.std.proofs.Common.{sym, subst, List, Bool}
use Rattle.emitted_names.specs.Parts.{ArePartMarks}
use Rattle.emitted_names.proofs.parts.parts.Goals as goal

pub marked_parts-requires : goal.marked_parts-requires
marked_parts-requires c = record {
  few = c.requires.few;
  marked = subst (λ (ms : List Bool). ArePartMarks c.args.terms.now c.args.memory.0 ms) (sym c.as_slice.ensures.value) c.in_ok-marks.ensures;
}

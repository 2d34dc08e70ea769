use Rattle.std.proofs.Common.{true, false, refl}
use Rattle.v_syntax.specs.Tree.{target_of}
use Rattle.v_print.specs.Spelled.{parted}
use Rattle.v_print.proofs.Loops.{loop_begins, loop_goes_on, loop_ends}
use Rattle.v_print.proofs.Written.{then, as_front}
use Rattle.v_print_source.specs.Shown.{printed_target}
use Rattle.v_print_source.proofs.Fronts.{place_arm, joined_arm, targets_front, one_target, all_targets}
use Rattle.v_print_source.proofs.target.+target.Goals as goal

pub write_target-returns-in_ok-write_selects-in-Place : goal.write_target-returns-in_ok-write_selects-in-Place
write_target-returns-in_ok-write_selects-in-Place t c =
    as_front (place_arm c.args.target.now c.in-Place.name c.in-Place.selects c.in-Place.is) (then c.in_ok-word-in-Place.ensures c.in_ok-write_selects-in-Place.ensures)

pub write_target-returns-in_ok-mark-in-Joined-2 : goal.write_target-returns-in_ok-mark-in-Joined-2
write_target-returns-in_ok-mark-in-Joined-2 t c =
    as_front (joined_arm c.args.target.now c.in-Joined.parts c.deref.result.now c.in-Joined.is c.deref.ensures.value)
    (then c.in_ok-mark-in-Joined.ensures (then c.in_ok-write_targets-in-Joined.ensures c.in_ok-mark-in-Joined-2.ensures))

pub write_targets-loop-part-init : goal.write_targets-loop-part-init
write_targets-loop-part-init t c = loop_begins targets_front c.args.parts.now false c.args.out.now

pub write_targets-loop-part-preserved : goal.write_targets-loop-part-preserved
write_targets-loop-part-preserved t c =
    loop_goes_on targets_front c.args.parts.now c.loop-part.part-index c.part-item.result c.loop-part.started true (λ r. parted c.loop-part.started (printed_target (target_of c.part-item.result) r)) c.loop-part-test.true
    c.part-item.is (one_target c.loop-part.started c.part-item.result) c.loop-part.invariant (then c.in_ok-comma_if.ensures c.in_ok-write_target.ensures)

pub write_targets-returns : goal.write_targets-returns
write_targets-returns t c =
    as_front (all_targets c.args.parts.now) (loop_ends targets_front c.args.parts.now c.loop-part.part-index c.loop-part.started c.loop-part-test.false (λ r. refl) c.loop-part.invariant)

use Rattle.std.proofs.Common.{◌∙◌, ap, arith}
use Rattle.v_renamed.specs.NewNames.{new_name}
use Rattle.v_syntax.specs.Tree.{target_of}
use Rattle.v_renamed.specs.Copies.{target_under}
use Rattle.v_renamed.proofs.Statements as arms
use Rattle.v_renamed.proofs.Turns.{turn, end}
use Rattle.v_renamed.proofs.target.+target.Goals as goal

pub copy_target-returns-in_ok-selects-in-Place : goal.copy_target-returns-in_ok-selects-in-Place
copy_target-returns-in_ok-selects-in-Place t c =
    arms.place-copied (new_name c.args.names.now) c.args.target.now c.in-Place.name c.name_for.result c.in-Place.selects c.in_ok-selects-in-Place.selects c.in-Place.is c.name_for.ensures c.in_ok-selects-in-Place.ensures

pub copy_target-returns-in_ok-targets-in-Joined : goal.copy_target-returns-in_ok-targets-in-Joined
copy_target-returns-in_ok-targets-in-Joined t c =
    arms.joined-copied (new_name c.args.names.now) c.args.target.now c.in-Joined.targets c.in_ok-targets-in-Joined.targets c.deref.result.now c.in-Joined.is c.deref.ensures.value c.in_ok-targets-in-Joined.ensures

pub copy_targets-loop-target-preserved : goal.copy_targets-loop-target-preserved
copy_targets-loop-target-preserved t c =
    turn target_of (target_under (new_name c.args.names.now)) c.args.targets.now c.loop-target.target-index _ c.loop-target.copies.items c.push.new.self.items c.in_ok-target.target (omega arith)
    c.loop-target.invariant (c.in_ok-target.ensures ∙ ap (target_under (new_name c.args.names.now)) c.target-item.is) c.in_ok-push.ensures.items

pub copy_targets-returns : goal.copy_targets-returns
copy_targets-returns t c =
    end target_of (target_under (new_name c.args.names.now)) c.args.targets.now c.loop-target.target-index c.loop-target.copies.items (omega arith) c.loop-target.invariant

use Rattle.std.proofs.Common.{◌+◌, ◌∙◌, ap, sym, subst, rules, drop, arith}
use Rattle.verilog_trees.specs.Syntax.{joined}
use Rattle.v_syntax.specs.Tree.{target_of}
use Rattle.v_syntax.specs.declared.tree.Target.{the_lemmas}
use Rattle.v_value.specs.Scope.{scope_at}
use Rattle.v_lower.specs.Table.{images_at}
use Rattle.v_lower.proofs.Lowering.{images_kept}
use Rattle.v_write.specs.Sound.{IsSoundTarget, AreSoundTargets, target_list}
use Rattle.v_write.specs.Selecting.{ArePrepared, ArePreparing}
use Rattle.v_write.proofs.Indexed.{preparing_begun, preparing_more, preparing_ended}
use Rattle.v_write.proofs.Trees.{target_of-Joined, rest_is, none_left}
use Rattle.v_write.proofs.preparing.+parts.Goals as goal

pub add_parts-add_part-requires-clause-sound : goal.add_parts-add_part-requires-clause-sound
add_parts-add_part-requires-clause-sound t c = subst (λ x. IsSoundTarget (scope_at c.args.scope.now) (target_of x)) c.in-Place.is c.requires.sound

pub add_parts-returns-in_ok-add_part-in-Place-clause-prepared : goal.add_parts-returns-in_ok-add_part-in-Place-clause-prepared
add_parts-returns-in_ok-add_part-in-Place-clause-prepared t c =
    subst (λ x. ArePrepared (scope_at c.args.scope.now) (images_at c.args.table.now) c.args.terms.now c.args.parts.now.items (target_of x) c.add_part.new.terms c.add_part.new.parts.items) (sym c.in-Place.is) c.in_ok-add_part-in-Place.ensures.prepared

pub add_parts-add_all_parts-requires : goal.add_parts-add_all_parts-requires
add_parts-add_all_parts-requires t c = (
  search (rules, the_lemmas),
  (
    c.requires.objects,
    (
      c.requires.known,
      (
        let h = subst (IsSoundTarget (scope_at c.args.scope.now)) (ap target_of c.in-Joined.is ∙ target_of-Joined c.in-Joined.targets) c.requires.sound in
            subst (λ ts. AreSoundTargets (scope_at c.args.scope.now) (target_list ts)) (sym c.deref.ensures.value) h,
        c.requires.parts,
      ),
    ),
  ),
)

pub add_parts-returns-in_ok-add_all_parts-in-Joined-clause-prepared : goal.add_parts-returns-in_ok-add_all_parts-in-Joined-clause-prepared
add_parts-returns-in_ok-add_all_parts-in-Joined-clause-prepared t c =
    let e = ap target_of c.in-Joined.is ∙ (target_of-Joined c.in-Joined.targets ∙ ap (λ ts. joined (target_list ts)) (sym c.deref.ensures.value)) in
    subst (λ x. ArePrepared (scope_at c.args.scope.now) (images_at c.args.table.now) c.args.terms.now c.args.parts.now.items x c.add_all_parts.new.terms c.add_all_parts.new.parts.items) (sym e) c.in_ok-add_all_parts-in-Joined.ensures.prepared

pub add_all_parts-loop-target-init : goal.add_all_parts-loop-target-init
add_all_parts-loop-target-init t c =
    record {
      so_far = preparing_begun (scope_at c.args.scope.now) (images_at c.args.table.now) c.args.terms.now c.args.parts.now.items (target_list c.args.targets.now) c.requires.parts;
      known = c.requires.known;
      sound = c.requires.sound;
    }

pub add_all_parts-add_parts-requires : goal.add_all_parts-add_parts-requires
add_all_parts-add_parts-requires t c = (
  search (rules, the_lemmas),
  (
    c.requires.objects,
    (
      c.loop-target.invariant.known,
      (
        (subst (λ ts. AreSoundTargets (scope_at c.args.scope.now) (target_list ts)) (rest_is c.args.targets.now c.loop-target.target-index c.target-item.result (omega arith) c.target-item.is) c.loop-target.invariant.sound).0,
        c.loop-target.invariant.so_far.parts,
      ),
    ),
  ),
)

pub add_all_parts-loop-target-preserved : goal.add_all_parts-loop-target-preserved
add_all_parts-loop-target-preserved t c =
    let ts = c.args.targets.now in
    let r = c.target-item.result in
    let i = c.loop-target.target-index in
    let rest = rest_is ts i r (omega arith) c.target-item.is in
    record {
      so_far = preparing_more (scope_at c.args.scope.now) (images_at c.args.table.now) c.args.terms.now c.args.parts.now.items (target_list ts) c.loop-target.terms c.add_parts.new.terms c.loop-target.parts.items c.add_parts.new.parts.items (target_of r) (target_list (drop (i + 1) ts))
          c.loop-target.invariant.known
          (subst (λ us. ArePreparing (scope_at c.args.scope.now) (images_at c.args.table.now) c.args.terms.now c.args.parts.now.items (target_list ts) c.loop-target.terms c.loop-target.parts.items (target_list us)) rest c.loop-target.invariant.so_far)
          c.in_ok-add_parts.ensures.grows c.in_ok-add_parts.ensures.prepared;
      known = images_kept (scope_at c.args.scope.now) (images_at c.args.table.now) c.loop-target.terms c.add_parts.new.terms c.in_ok-add_parts.ensures.grows c.loop-target.invariant.known;
      sound = (subst (λ us. AreSoundTargets (scope_at c.args.scope.now) (target_list us)) rest c.loop-target.invariant.sound).1;
    }

pub add_all_parts-returns-clause-grows : goal.add_all_parts-returns-clause-grows
add_all_parts-returns-clause-grows t c = c.loop-target.invariant.so_far.grows

pub add_all_parts-returns-clause-prepared : goal.add_all_parts-returns-clause-prepared
add_all_parts-returns-clause-prepared t c =
    let ts = c.args.targets.now in
    preparing_ended (scope_at c.args.scope.now) (images_at c.args.table.now) c.args.terms.now c.args.parts.now.items (target_list ts) c.loop-target.terms c.loop-target.parts.items (target_list (drop c.loop-target.target-index ts))
    (ap target_list (none_left ts c.loop-target.target-index (omega arith))) c.loop-target.invariant.so_far

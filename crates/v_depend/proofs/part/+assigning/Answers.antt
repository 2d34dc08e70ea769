use Rattle.std.proofs.Common.{rules, arith}
use Rattle.v_value.specs.Scope.{scope_at}
use Rattle.v_syntax.specs.Tree.{target_of}
use Rattle.v_syntax.specs.declared.tree.Target.{the_lemmas}
use Rattle.v_flow.proofs.Targets as target
use Rattle.v_masks.specs.Masks.{masked}
use Rattle.v_depend.specs.Tables.{all_changed}
use Rattle.v_depend.proofs.Walk as walk
use Rattle.v_depend.proofs.part.+assigning.Goals as goal

pub add_changes-add_all_changes-requires : goal.add_changes-add_all_changes-requires
add_changes-add_all_changes-requires t c =
    let s = scope_at c.args.scope.now in (
      search (rules, the_lemmas),
      (
        c.requires.objects,
        (
          target.narrow-Joined s c.args.target.now c.requires.narrow c.in-Joined.targets c.in-Joined.is c.deref.result.now c.deref.ensures.value,
          walk.free-Joined (masked c.args.unsettled.now) s c.args.target.now c.in-Joined.targets c.in-Joined.is c.deref.result.now c.deref.ensures.value c.requires.variables,
        ),
      ),
    )

pub add_changes-returns-in_ok-push-in-Place-clause-changes : goal.add_changes-returns-in_ok-push-in-Place-clause-changes
add_changes-returns-in_ok-push-in-Place-clause-changes t c = λ p.
    walk.changes-Place (masked c.args.unsettled.now) (scope_at c.args.scope.now) (target_of c.args.target.now) c.args.value c.args.changes.now.items _
    c.in_ok-change-in-Place.change p c.in_ok-change-in-Place.ensures c.in_ok-push-in-Place.ensures.items

pub add_changes-returns-in_ok-rest-in-Joined-clause-rest : goal.add_changes-returns-in_ok-rest-in-Joined-clause-rest
add_changes-returns-in_ok-rest-in-Joined-clause-rest t c =
    walk.rest-Joined (masked c.args.unsettled.now) (scope_at c.args.scope.now) c.args.target.now c.in-Joined.targets c.in-Joined.is c.deref.result.now c.deref.ensures.value
    c.args.value c.in_ok-rest-in-Joined.rest c.in_ok-rest-in-Joined.ensures.rest

pub add_changes-returns-in_ok-rest-in-Joined-clause-changes : goal.add_changes-returns-in_ok-rest-in-Joined-clause-changes
add_changes-returns-in_ok-rest-in-Joined-clause-changes t c = λ p.
    walk.changes-Joined (masked c.args.unsettled.now) (scope_at c.args.scope.now) c.args.target.now c.in-Joined.targets c.in-Joined.is c.deref.result.now c.deref.ensures.value
    c.args.value (all_changed c.args.changes.now.items p) (all_changed c.add_all_changes.new.changes.items p) (c.in_ok-rest-in-Joined.ensures.changes p)

pub add_all_changes-add_changes-requires : goal.add_all_changes-add_changes-requires
add_all_changes-add_changes-requires t c =
    let s = scope_at c.args.scope.now in
    let xs = c.args.targets.now in
    let i = c.loop-i.i in
    let r = c.index-targets-i.result in
    let e = walk.drop-before xs i r c.loop-i-test.true c.loop-i.auto.i c.index-targets-i.is in
    (search (rules, the_lemmas), (c.requires.objects, (walk.part-narrow s xs i r e c.requires.narrow, walk.part-free s xs i r e c.requires.variables)))

pub add_all_changes-loop-i-preserved : goal.add_all_changes-loop-i-preserved
add_all_changes-loop-i-preserved t c =
    let s = scope_at c.args.scope.now in
    let xs = c.args.targets.now in
    let i = c.loop-i.i in
    let r = c.index-targets-i.result in
    let e = walk.drop-before xs i r c.loop-i-test.true c.loop-i.auto.i c.index-targets-i.is in
    let v = c.loop-i.invariant in
    record {
      rest = walk.rest-turn (masked c.args.unsettled.now) s xs i r e c.args.value c.loop-i.rest c.in_ok-rest.rest v.rest c.in_ok-rest.ensures.rest;
      changes = λ p. walk.changes-turn (masked c.args.unsettled.now) s xs i r e c.args.value c.loop-i.rest c.in_ok-rest.rest v.rest p c.args.changes.now.items
          c.loop-i.changes.items c.add_changes.new.changes.items (v.changes p) (c.in_ok-rest.ensures.changes p);
    }

pub add_all_changes-returns-clause-changes : goal.add_all_changes-returns-clause-changes
add_all_changes-returns-clause-changes t c = λ p.
    walk.walk-ended (masked c.args.unsettled.now) (scope_at c.args.scope.now) c.args.targets.now c.loop-i.i c.args.value (all_changed c.args.changes.now.items p)
    (all_changed c.loop-i.changes.items p) (omega (arith, c.loop-i-test.false)) (c.loop-i.invariant.changes p)

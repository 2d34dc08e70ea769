use Rattle.std.proofs.Common.{◌∙◌, ◌+◌, ◌++◌, drop, ap, subst, rules, arith}
use Rattle.std.proofs.lemmas.Result.{on_ok_weaker}
use Rattle.std.proofs.lemmas.List.{at_drop_all}
use Rattle.v_value.specs.Scope.{scope_at}
use Rattle.v_syntax.specs.Tree.{target_of}
use Rattle.v_syntax.specs.declared.tree.Target.{the_lemmas}
use Rattle.v_statement.specs.Statements.{target_list}
use Rattle.v_statement.proofs.Runs.{rest_is}
use Rattle.v_flow.specs.Narrow.{HaveNarrowParts}
use Rattle.v_flow.proofs.Targets as target
use Rattle.v_drivers.specs.Sets.{targets_drivers}
use Rattle.v_drivers.specs.Lists.{sets_in}
use Rattle.v_drivers.proofs.Driving.{turn, end, of-Place, of-Joined, no-targets, more-targets}
use Rattle.v_drivers.proofs.link.+parts.Goals as goal

pub add_target-add_targets-requires : goal.add_target-add_targets-requires
add_target-add_targets-requires t c =
    (search (rules, the_lemmas), (c.requires.objects, target.narrow-Joined (scope_at c.args.scope.now) c.args.target.now c.requires.narrow c.in-Joined.targets c.in-Joined.is c.deref.result.now c.deref.ensures.value))

pub add_target-returns-in-Place : goal.add_target-returns-in-Place
add_target-returns-in-Place t c =
    on_ok_weaker c.add_part.result
    (λ k. k ∙ ap (λ z. sets_in c.args.drivers.now.items ++ z) (of-Place (scope_at c.args.scope.now) c.args.target.now c.in-Place.field-0 c.in-Place.field-1 c.in-Place.is))
    c.add_part.ensures

pub add_target-returns-in-Joined : goal.add_target-returns-in-Joined
add_target-returns-in-Joined t c =
    on_ok_weaker c.add_targets.result
    (λ k. k ∙ ap (λ z. sets_in c.args.drivers.now.items ++ z) (of-Joined (scope_at c.args.scope.now) c.args.target.now c.in-Joined.targets c.in-Joined.is c.deref.result.now c.deref.ensures.value))
    c.add_targets.ensures

pub add_targets-add_target-requires : goal.add_targets-add_target-requires
add_targets-add_target-requires t c =
    let s = (scope_at c.args.scope.now) in
    let rest = rest_is c.args.targets.now c.loop-target.target-index c.target-item.result (omega arith) c.target-item.is in
    let n = subst (λ ys. HaveNarrowParts s (target_list ys)) rest c.loop-target.invariant.narrow in
    (search (rules, the_lemmas), (c.requires.objects, n.0))

pub add_targets-loop-target-preserved : goal.add_targets-loop-target-preserved
add_targets-loop-target-preserved t c =
    let s = (scope_at c.args.scope.now) in
    let xs = c.args.targets.now in
    let i = c.loop-target.target-index in
    let rest = rest_is xs i c.target-item.result (omega arith) c.target-item.is in
    let n = subst (λ ys. HaveNarrowParts s (target_list ys)) rest c.loop-target.invariant.narrow in
    record {
      same = turn _ _ _ _ _
          (c.loop-target.invariant.same ∙ ap (λ ys. sets_in c.loop-target.drivers.items ++ targets_drivers s (target_list ys)) rest
          ∙ ap (λ z. sets_in c.loop-target.drivers.items ++ z) (more-targets s (target_of c.target-item.result) (target_list (drop (i + 1) xs))))
          c.in_ok-add_target.ensures;
      narrow = n.1;
    }

pub add_targets-returns : goal.add_targets-returns
add_targets-returns t c =
    let s = (scope_at c.args.scope.now) in
    end _ _ _ c.loop-target.invariant.same
    (at_drop_all (λ ys. targets_drivers s (target_list ys)) c.args.targets.now c.loop-target.target-index c.loop-target-test.false ∙ no-targets s)

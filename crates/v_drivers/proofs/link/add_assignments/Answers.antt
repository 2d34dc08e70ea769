use Rattle.std.proofs.Common.{◌∙◌, ◌++◌, ap, subst, arith}
use Rattle.std.proofs.lemmas.List.{at_drop_all}
use Rattle.v_value.specs.Scope.{scope_at}
use Rattle.v_statement.proofs.Runs.{rest_is}
use Rattle.v_drivers.specs.Sets.{assignments_drivers}
use Rattle.v_drivers.specs.Premises.{HaveNarrowTargets}
use Rattle.v_drivers.specs.Lists.{sets_in, links_of}
use Rattle.v_drivers.proofs.Driving.{turn, end}
use Rattle.v_drivers.proofs.link.add_assignments.Goals as goal

pub add_target-requires-clause-narrow : goal.add_target-requires-clause-narrow
add_target-requires-clause-narrow c =
    let s = (scope_at c.args.scope.now) in
    let rest = rest_is c.args.assignments.now c.loop-assignment.assignment-index c.assignment-item.result (omega arith) c.assignment-item.is in
    (subst (λ ys. HaveNarrowTargets s (links_of ys)) rest c.loop-assignment.invariant.narrow).0

pub loop-assignment-preserved : goal.loop-assignment-preserved
loop-assignment-preserved c =
    let s = (scope_at c.args.scope.now) in
    let rest = rest_is c.args.assignments.now c.loop-assignment.assignment-index c.assignment-item.result (omega arith) c.assignment-item.is in
    let n = subst (λ ys. HaveNarrowTargets s (links_of ys)) rest c.loop-assignment.invariant.narrow in
    record {
      same = turn _ _ _ _ _
          (c.loop-assignment.invariant.same ∙ ap (λ ys. sets_in c.loop-assignment.drivers.items ++ assignments_drivers s (links_of ys)) rest)
          c.in_ok-add_target.ensures;
      narrow = n.1;
    }

pub returns : goal.returns
returns c =
    let s = (scope_at c.args.scope.now) in
    end _ _ _ c.loop-assignment.invariant.same
    (at_drop_all (λ ys. assignments_drivers s (links_of ys)) c.args.assignments.now c.loop-assignment.assignment-index c.loop-assignment-test.false)

use Rattle.std.proofs.Common.{◌≤◌, ap, subst, arith}
use Rattle.std.proofs.lemmas.List.{at_drop_all}
use Rattle.verilog_meaning.specs.Statement.{greatest_width}
use Rattle.v_syntax.specs.Tree.{expressions_of}
use Rattle.v_value.specs.Scope.{scope_at}
use Rattle.v_value.specs.Narrow.{AreNarrow}
use Rattle.v_statement.proofs.Runs.{rest_is}
use Rattle.v_paths.specs.Cases.{one_label_is}
use Rattle.v_paths.proofs.Labels.{has-turn, has-end, first-within, rest-within}
use Rattle.v_paths.proofs.full.add_values.Goals as goal

pub add_value-requires-clause-narrow : goal.add_value-requires-clause-narrow
add_value-requires-clause-narrow c =
    let s = scope_at c.args.scope.now in
    let rest = rest_is c.args.labels.now c.loop-label.label-index c.label-item.result (omega arith) c.label-item.is in
    (subst (λ es. AreNarrow s (expressions_of es)) rest c.loop-label.invariant.narrow).0

pub add_value-requires-clause-within : goal.add_value-requires-clause-within
add_value-requires-clause-within c =
    let s = scope_at c.args.scope.now in
    let rest = rest_is c.args.labels.now c.loop-label.label-index c.label-item.result (omega arith) c.label-item.is in
    first-within _ _ _ (subst (λ es. greatest_width s (expressions_of es) ≤ c.args.context.width) rest c.loop-label.invariant.within)

pub loop-label-preserved : goal.loop-label-preserved
loop-label-preserved c =
    let s = scope_at c.args.scope.now in
    let w = c.args.context.width in
    let g = c.args.context.signed in
    let rest = rest_is c.args.labels.now c.loop-label.label-index c.label-item.result (omega arith) c.label-item.is in
    record {
      same = λ x. has-turn _ _ _ _ _ _ (c.loop-label.invariant.same x) (ap (one_label_is s w g x) rest) (c.in_ok-add_value.ensures x);
      narrow = (subst (λ es. AreNarrow s (expressions_of es)) rest c.loop-label.invariant.narrow).1;
      within = rest-within _ _ _ (subst (λ es. greatest_width s (expressions_of es) ≤ w) rest c.loop-label.invariant.within);
    }

pub returns : goal.returns
returns c = λ x.
    has-end _ _ _ (c.loop-label.invariant.same x)
    (at_drop_all (one_label_is (scope_at c.args.scope.now) c.args.context.width c.args.context.signed x) c.args.labels.now c.loop-label.label-index c.loop-label-test.false)

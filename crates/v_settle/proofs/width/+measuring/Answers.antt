use Rattle.std.proofs.Common.{◌∙◌, ◌+◌, ◌≤◌, drop, sym, subst, rules, arith}
use Rattle.std.proofs.lemmas.List.{at_drop_all}
use Rattle.verilog_meaning.specs.Statement.{targets_width}
use Rattle.v_value.specs.Scope.{scope_at}
use Rattle.v_syntax.specs.declared.tree.Target.{the_lemmas}
use Rattle.v_statement.specs.Statements.{target_list}
use Rattle.v_statement.proofs.Runs.{rest_is}
use Rattle.v_flow.specs.Narrow.{HaveNarrowParts}
use Rattle.v_flow.proofs.Targets as target
use Rattle.v_settle.proofs.Widths.{width-Place, width-Joined, all-turn, one-within, all-end}
use Rattle.v_settle.proofs.width.+measuring.Goals as goal

pub target_width-place_width-requires-clause-narrow : goal.target_width-place_width-requires-clause-narrow
target_width-place_width-requires-clause-narrow t c =
    target.narrow-Place (scope_at c.args.scope.now) c.args.target.now c.requires.narrow c.in-Place.name c.in-Place.selects c.in-Place.is

pub target_width-returns-in-Place : goal.target_width-returns-in-Place
target_width-returns-in-Place t c =
    c.place_width.ensures ∙ width-Place (scope_at c.args.scope.now) c.args.target.now c.in-Place.name c.in-Place.selects c.in-Place.is

pub target_width-all_width-requires : goal.target_width-all_width-requires
target_width-all_width-requires t c =
    let s = scope_at c.args.scope.now in
    let same = width-Joined s c.args.target.now c.in-Joined.targets c.in-Joined.is c.deref.result.now c.deref.ensures.value in (
      search (rules, the_lemmas),
      (
        c.requires.objects,
        (
          target.narrow-Joined s c.args.target.now c.requires.narrow c.in-Joined.targets c.in-Joined.is c.deref.result.now c.deref.ensures.value,
          subst (λ k. k ≤ 128) (sym same) c.requires.at_most_128,
        ),
      ),
    )

pub target_width-returns-in-Joined : goal.target_width-returns-in-Joined
target_width-returns-in-Joined t c =
    c.all_width.ensures ∙ width-Joined (scope_at c.args.scope.now) c.args.target.now c.in-Joined.targets c.in-Joined.is c.deref.result.now c.deref.ensures.value

pub all_width-target_width-more-requires : goal.all_width-target_width-more-requires
all_width-target_width-more-requires t c =
    let s = scope_at c.args.scope.now in
    let xs = c.args.targets.now in
    let i = c.loop-target.target-index in
    let r = c.target-item.result in
    let rest = rest_is xs i r (omega arith) c.target-item.is in
    let n = subst (λ ys. HaveNarrowParts s (target_list ys)) rest c.loop-target.invariant.narrow in (
      search (rules, the_lemmas),
      (c.requires.objects, (n.0, one-within s (drop i xs) r (drop (i + 1) xs) c.loop-target.width _ rest c.loop-target.invariant.sum c.requires.at_most_128)),
    )

pub all_width-loop-target-preserved : goal.all_width-loop-target-preserved
all_width-loop-target-preserved t c =
    let s = scope_at c.args.scope.now in
    let xs = c.args.targets.now in
    let i = c.loop-target.target-index in
    let r = c.target-item.result in
    let rest = rest_is xs i r (omega arith) c.target-item.is in
    let n = subst (λ ys. HaveNarrowParts s (target_list ys)) rest c.loop-target.invariant.narrow in
    record {
      sum = all-turn s (drop i xs) r (drop (i + 1) xs) c.loop-target.width _ c.target_width-more.result _ rest c.loop-target.invariant.sum c.target_width-more.ensures (omega arith);
      narrow = n.1;
    }

pub all_width-returns : goal.all_width-returns
all_width-returns t c =
    let s = scope_at c.args.scope.now in
    all-end s (drop c.loop-target.target-index c.args.targets.now) c.loop-target.width _
    (at_drop_all (λ ys. targets_width s (target_list ys)) c.args.targets.now c.loop-target.target-index c.loop-target-test.false) c.loop-target.invariant.sum

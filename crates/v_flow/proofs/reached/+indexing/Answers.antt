use Rattle.std.proofs.Common.{◌∙◌, ◌+◌, drop, ap, subst, rules, arith}
use Rattle.std.proofs.lemmas.Result.{on_ok_weaker}
use Rattle.std.proofs.lemmas.List.{at_drop_all}
use Rattle.verilog_designs.specs.Reads.{or_in}
use Rattle.v_value.specs.Scope.{scope_at}
use Rattle.v_syntax.specs.Tree.{target_of}
use Rattle.v_syntax.specs.declared.tree.Target.{the_lemmas}
use Rattle.v_statement.specs.Statements.{target_list}
use Rattle.v_statement.proofs.Runs.{rest_is}
use Rattle.v_flow.specs.Spans.{bits_in}
use Rattle.v_flow.specs.Narrow.{HaveNarrowParts}
use Rattle.v_flow.specs.Flow.{targets_read_at}
use Rattle.v_flow.proofs.Sets.{turn, end}
use Rattle.v_flow.proofs.Targets as target
use Rattle.v_flow.proofs.reached.+indexing.Goals as goal

pub add_indexes-add_selects-requires-clause-narrow : goal.add_indexes-add_selects-requires-clause-narrow
add_indexes-add_selects-requires-clause-narrow t c = (target.narrow-Place (scope_at c.args.scope.now) c.args.target.now c.requires.narrow c.in-Place.field-0 c.in-Place.selects c.in-Place.is).1

pub add_indexes-add_all_indexes-requires : goal.add_indexes-add_all_indexes-requires
add_indexes-add_all_indexes-requires t c = (search (rules, the_lemmas), (c.requires.objects, target.narrow-Joined (scope_at c.args.scope.now) c.args.target.now c.requires.narrow c.in-Joined.targets c.in-Joined.is c.deref.result.now c.deref.ensures.value))

pub add_indexes-returns-in-Place : goal.add_indexes-returns-in-Place
add_indexes-returns-in-Place t c = on_ok_weaker c.add_selects.result (λ k. k ∙ ap (or_in (bits_in c.args.found.now.items)) (target.reads-Place (scope_at c.args.scope.now) c.args.target.now c.in-Place.field-0 c.in-Place.selects c.in-Place.is)) c.add_selects.ensures

pub add_indexes-returns-in-Joined : goal.add_indexes-returns-in-Joined
add_indexes-returns-in-Joined t c = on_ok_weaker c.add_all_indexes.result (λ k. k ∙ ap (or_in (bits_in c.args.found.now.items)) (target.reads-Joined (scope_at c.args.scope.now) c.args.target.now c.in-Joined.targets c.in-Joined.is c.deref.result.now c.deref.ensures.value)) c.add_all_indexes.ensures

pub add_all_indexes-add_indexes-requires : goal.add_all_indexes-add_indexes-requires
add_all_indexes-add_indexes-requires t c =
    let s = (scope_at c.args.scope.now) in
    let xs = c.args.targets.now in
    let i = c.loop-target.target-index in
    let rest = rest_is xs i c.target-item.result (omega arith) c.target-item.is in
    let n = subst (λ ys. HaveNarrowParts s (target_list ys)) rest c.loop-target.invariant.narrow in
    (search (rules, the_lemmas), (c.requires.objects, n.0))

pub add_all_indexes-loop-target-preserved : goal.add_all_indexes-loop-target-preserved
add_all_indexes-loop-target-preserved t c =
    let s = (scope_at c.args.scope.now) in
    let xs = c.args.targets.now in
    let i = c.loop-target.target-index in
    let rest = rest_is xs i c.target-item.result (omega arith) c.target-item.is in
    let n = subst (λ ys. HaveNarrowParts s (target_list ys)) rest c.loop-target.invariant.narrow in
    record {
      same = turn _ _ _ _ _ (c.loop-target.invariant.same ∙ ap (λ ys. or_in (bits_in c.loop-target.found.items) (targets_read_at s (target_list ys))) rest ∙ ap (or_in (bits_in c.loop-target.found.items)) (target.target-reads s (target_of c.target-item.result) (target_list (drop (i + 1) xs)))) c.in_ok-add_indexes.ensures;
      narrow = n.1;
    }

pub add_all_indexes-returns : goal.add_all_indexes-returns
add_all_indexes-returns t c =
    let s = (scope_at c.args.scope.now) in
    end _ _ _ c.loop-target.invariant.same (at_drop_all (λ ys. targets_read_at s (target_list ys)) c.args.targets.now c.loop-target.target-index c.loop-target-test.false ∙ target.no_target-reads s)

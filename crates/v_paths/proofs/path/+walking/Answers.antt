use Rattle.std.proofs.Common.{◌∙◌, ◌+◌, refl, drop, ap, sym, subst, true, false, rules, arith}
use Rattle.std.proofs.lemmas.List.{at_drop_all}
use Rattle.verilog_designs.specs.Reads.{or_in, but_not_in}
use Rattle.v_syntax.specs.Tree.{statement_of}
use Rattle.v_syntax.specs.declared.tree.Statement.{the_lemmas}
use Rattle.v_value.specs.Scope.{scope_at}
use Rattle.v_statement.specs.Effects.{item_statement}
use Rattle.v_statement.proofs.Runs.{rest_is}
use Rattle.v_flow.specs.Spans.{bits_in}
use Rattle.v_flow.specs.Narrow.{IsNarrowFlow}
use Rattle.v_flow.specs.Flow.{assigned_at, all_assigned, ladder_assigned, bodies_assigned, AreNarrowLadder, AreNarrowAll, AreNarrowItems}
use Rattle.v_flow.proofs.Sets.{joins, joins-three, turn, turn-two, end, nothing}
use Rattle.v_flow.proofs.Flows as flow
use Rattle.v_masks.specs.Masks.{masked, spread}
use Rattle.v_paths.specs.Premises.{HasNoMemory}
use Rattle.v_paths.specs.Walks.{sure_at, outside_at, all_sure, all_outside, ladder_sure, ladder_outside, bodies_sure, bodies_outside, where_full}
use Rattle.v_paths.proofs.Plain as sets
use Rattle.v_paths.proofs.Forms as forms
use Rattle.v_paths.proofs.Turns as turns
use Rattle.v_paths.proofs.Tables.{none-masked}
use Rattle.v_paths.proofs.path.+walking.Goals as goal

pub walk-returns-in-Empty-clause-sure : goal.walk-returns-in-Empty-clause-sure
walk-returns-in-Empty-clause-sure t c = ap bits_in c.new.ensures.items ∙ forms.sure-Empty (scope_at c.args.scope.now) c.args.statement.now c.in-Empty.is

pub walk-returns-in-Empty-clause-outside : goal.walk-returns-in-Empty-clause-outside
walk-returns-in-Empty-clause-outside t c = nothing _ _ (forms.outside-Empty (scope_at c.args.scope.now) c.args.statement.now c.in-Empty.is)

pub walk-add_assignment-requires-clause-target : goal.walk-add_assignment-requires-clause-target
walk-add_assignment-requires-clause-target t c = (flow.narrow-Blocking (scope_at c.args.scope.now) c.args.statement.now c.requires.narrow c.in-Blocking.target c.in-Blocking.value c.in-Blocking.is c.deref.result.now c.deref.ensures).0

pub walk-add_assignment-requires-clause-value : goal.walk-add_assignment-requires-clause-value
walk-add_assignment-requires-clause-value t c = (flow.narrow-Blocking (scope_at c.args.scope.now) c.args.statement.now c.requires.narrow c.in-Blocking.target c.in-Blocking.value c.in-Blocking.is c.deref.result.now c.deref.ensures).1

pub walk-reached-requires-clause-narrow : goal.walk-reached-requires-clause-narrow
walk-reached-requires-clause-narrow t c = (flow.narrow-Blocking (scope_at c.args.scope.now) c.args.statement.now c.requires.narrow c.in-Blocking.target c.in-Blocking.value c.in-Blocking.is c.deref-in-Blocking.result.now c.deref-in-Blocking.ensures).0

pub walk-returns-in_ok-sure-in-Blocking-clause-sure : goal.walk-returns-in_ok-sure-in-Blocking-clause-sure
walk-returns-in_ok-sure-in-Blocking-clause-sure t c = c.in_ok-sure-in-Blocking.ensures ∙ forms.sure-Blocking (scope_at c.args.scope.now) c.args.statement.now c.in-Blocking.target c.in-Blocking.value c.in-Blocking.is c.deref-in-Blocking.result.now c.deref-in-Blocking.ensures

pub walk-returns-in_ok-sure-in-Blocking-clause-outside : goal.walk-returns-in_ok-sure-in-Blocking-clause-outside
walk-returns-in_ok-sure-in-Blocking-clause-outside t c = c.in_ok-add_assignment-in-Blocking.ensures ∙ ap (or_in (bits_in c.args.outside.now.items)) (forms.outside-Blocking (scope_at c.args.scope.now) c.args.statement.now c.in-Blocking.target c.in-Blocking.value c.in-Blocking.is c.deref.result.now c.deref.ensures)

pub walk-add_assignment-requires-in-Nonblocking-clause-target : goal.walk-add_assignment-requires-in-Nonblocking-clause-target
walk-add_assignment-requires-in-Nonblocking-clause-target t c = (flow.narrow-Nonblocking (scope_at c.args.scope.now) c.args.statement.now c.requires.narrow c.in-Nonblocking.target c.in-Nonblocking.value c.in-Nonblocking.is c.deref-in-Nonblocking.result.now c.deref-in-Nonblocking.ensures).0

pub walk-add_assignment-requires-in-Nonblocking-clause-value : goal.walk-add_assignment-requires-in-Nonblocking-clause-value
walk-add_assignment-requires-in-Nonblocking-clause-value t c = (flow.narrow-Nonblocking (scope_at c.args.scope.now) c.args.statement.now c.requires.narrow c.in-Nonblocking.target c.in-Nonblocking.value c.in-Nonblocking.is c.deref-in-Nonblocking.result.now c.deref-in-Nonblocking.ensures).1

pub walk-returns-in_ok-add_assignment-in-Nonblocking-clause-sure : goal.walk-returns-in_ok-add_assignment-in-Nonblocking-clause-sure
walk-returns-in_ok-add_assignment-in-Nonblocking-clause-sure t c = ap bits_in c.new-in-Nonblocking.ensures.items ∙ forms.sure-Nonblocking (scope_at c.args.scope.now) c.args.statement.now c.in-Nonblocking.target c.in-Nonblocking.value c.in-Nonblocking.is

pub walk-returns-in_ok-add_assignment-in-Nonblocking-clause-outside : goal.walk-returns-in_ok-add_assignment-in-Nonblocking-clause-outside
walk-returns-in_ok-add_assignment-in-Nonblocking-clause-outside t c = c.in_ok-add_assignment-in-Nonblocking.ensures ∙ ap (or_in (bits_in c.args.outside.now.items)) (forms.outside-Nonblocking (scope_at c.args.scope.now) c.args.statement.now c.in-Nonblocking.target c.in-Nonblocking.value c.in-Nonblocking.is c.deref-in-Nonblocking.result.now c.deref-in-Nonblocking.ensures)

pub walk-walk-requires : goal.walk-walk-requires
walk-walk-requires t c = (
  search (rules, the_lemmas),
  (
    c.requires.objects,
    (
      flow.narrow-else (scope_at c.args.scope.now) c.args.statement.now c.requires.narrow c.in-If.arms c.in-If.last c.in-Some.other c.in-If.is c.in-Some.is c.deref-in-Some.result.now c.deref-in-Some.ensures,
      sets.rest-free (scope_at c.args.scope.now) _ _ _ (sym (flow.assigned-else (scope_at c.args.scope.now) c.args.statement.now c.in-If.arms c.in-If.last c.in-Some.other c.in-If.is c.in-Some.is c.in-If.arms.items (λ i. c.in-If.arms.items) c.deref-in-Some.result.now c.deref-in-Some.ensures)) c.requires.plain,
    ),
  ),
)

pub walk-ladder-requires : goal.walk-ladder-requires
walk-ladder-requires t c = (
  search (rules, the_lemmas),
  (
    c.requires.objects,
    (
      flow.narrow-If (scope_at c.args.scope.now) c.args.statement.now c.requires.narrow c.in-If.arms c.in-If.last c.in-If.is c.deref-in-Some-2.result.now c.deref-in-Some-2.ensures.value,
      sets.first-free (scope_at c.args.scope.now) _ _ _ (sym (flow.assigned-else (scope_at c.args.scope.now) c.args.statement.now c.in-If.arms c.in-If.last c.in-Some.other c.in-If.is c.in-Some.is c.deref-in-Some-2.result.now c.deref-in-Some-2.ensures.value c.deref-in-Some.result.now c.deref-in-Some.ensures)) c.requires.plain,
    ),
  ),
)

pub walk-returns-in_ok-sure-in-Some-clause-sure : goal.walk-returns-in_ok-sure-in-Some-clause-sure
walk-returns-in_ok-sure-in-Some-clause-sure t c =
    c.in_ok-sure-in-Some.ensures.sure ∙ ap (ladder_sure (scope_at c.args.scope.now) c.deref-in-Some-2.result.now) c.in_ok-otherwise-in-Some.ensures.sure
    ∙ forms.sure-else (scope_at c.args.scope.now) c.args.statement.now c.in-If.arms c.in-If.last c.in-Some.other c.in-If.is c.in-Some.is c.deref-in-Some-2.result.now c.deref-in-Some-2.ensures.value c.deref-in-Some.result.now c.deref-in-Some.ensures

pub walk-returns-in_ok-sure-in-Some-clause-outside : goal.walk-returns-in_ok-sure-in-Some-clause-outside
walk-returns-in_ok-sure-in-Some-clause-outside t c =
    joins _ _ _ _ _ _ c.in_ok-otherwise-in-Some.ensures.outside c.in_ok-sure-in-Some.ensures.outside
    (forms.outside-else (scope_at c.args.scope.now) c.args.statement.now c.in-If.arms c.in-If.last c.in-Some.other c.in-If.is c.in-Some.is c.deref-in-Some-2.result.now c.deref-in-Some-2.ensures.value c.deref-in-Some.result.now c.deref-in-Some.ensures)

pub walk-ladder-requires-in-None : goal.walk-ladder-requires-in-None
walk-ladder-requires-in-None t c = (
  search (rules, the_lemmas),
  (
    c.requires.objects,
    (
      flow.narrow-If (scope_at c.args.scope.now) c.args.statement.now c.requires.narrow c.in-If.arms c.in-If.last c.in-If.is c.deref-in-None.result.now c.deref-in-None.ensures.value,
      sets.free-is (scope_at c.args.scope.now) _ _ (flow.assigned-no_else (scope_at c.args.scope.now) c.args.statement.now c.in-If.arms c.in-If.last c.in-If.is c.in-None.is c.deref-in-None.result.now c.deref-in-None.ensures.value) c.requires.plain,
    ),
  ),
)

pub walk-returns-in_ok-sure-in-None-clause-sure : goal.walk-returns-in_ok-sure-in-None-clause-sure
walk-returns-in_ok-sure-in-None-clause-sure t c =
    c.in_ok-sure-in-None.ensures.sure ∙ ap (λ ys. ladder_sure (scope_at c.args.scope.now) c.deref-in-None.result.now (bits_in ys)) c.new-in-None.ensures.items ∙ forms.sure-no_else (scope_at c.args.scope.now) c.args.statement.now c.in-If.arms c.in-If.last c.in-If.is c.in-None.is c.deref-in-None.result.now c.deref-in-None.ensures.value

pub walk-returns-in_ok-sure-in-None-clause-outside : goal.walk-returns-in_ok-sure-in-None-clause-outside
walk-returns-in_ok-sure-in-None-clause-outside t c = c.in_ok-sure-in-None.ensures.outside ∙ ap (or_in (bits_in c.args.outside.now.items)) (forms.outside-no_else (scope_at c.args.scope.now) c.args.statement.now c.in-If.arms c.in-If.last c.in-If.is c.in-None.is c.deref-in-None.result.now c.deref-in-None.ensures.value)

pub walk-add_reads-requires-clause-narrow : goal.walk-add_reads-requires-clause-narrow
walk-add_reads-requires-clause-narrow t c = flow.narrow-Case (scope_at c.args.scope.now) c.args.statement.now c.requires.narrow c.in-Case.kind c.in-Case.value c.in-Case.items c.in-Case.is

pub walk-add_all_labels-requires-clause-narrow : goal.walk-add_all_labels-requires-clause-narrow
walk-add_all_labels-requires-clause-narrow t c = flow.narrow-Items (scope_at c.args.scope.now) c.args.statement.now c.requires.narrow c.in-Case.kind c.in-Case.value c.in-Case.items c.in-Case.is c.deref-in-Case.result.now c.deref-in-Case.ensures.value

pub walk-is_full-requires-clause-narrow : goal.walk-is_full-requires-clause-narrow
walk-is_full-requires-clause-narrow t c = flow.narrow-Case (scope_at c.args.scope.now) c.args.statement.now c.requires.narrow c.in-Case.kind c.in-Case.value c.in-Case.items c.in-Case.is

pub walk-is_full-requires-clause-items : goal.walk-is_full-requires-clause-items
walk-is_full-requires-clause-items t c = flow.narrow-Items (scope_at c.args.scope.now) c.args.statement.now c.requires.narrow c.in-Case.kind c.in-Case.value c.in-Case.items c.in-Case.is c.deref-in-Case-2.result.now c.deref-in-Case-2.ensures.value

pub walk-bodies-requires : goal.walk-bodies-requires
walk-bodies-requires t c = (
  search (rules, the_lemmas),
  (
    c.requires.objects,
    (
      flow.narrow-Items (scope_at c.args.scope.now) c.args.statement.now c.requires.narrow c.in-Case.kind c.in-Case.value c.in-Case.items c.in-Case.is c.deref-in-Case-3.result.now c.deref-in-Case-3.ensures.value,
      sets.free-is (scope_at c.args.scope.now) _ _ (flow.assigned-Case (scope_at c.args.scope.now) c.args.statement.now c.in-Case.kind c.in-Case.value c.in-Case.items c.in-Case.is c.deref-in-Case-3.result.now c.deref-in-Case-3.ensures.value) c.requires.plain,
    ),
  ),
)

pub walk-returns-in_ok-sure-in-Case-clause-sure : goal.walk-returns-in_ok-sure-in-Case-clause-sure
walk-returns-in_ok-sure-in-Case-clause-sure t c =
    c.sure_where.ensures ∙ ap (where_full c.in_ok-full-in-Case.full) c.in_ok-sure-in-Case.ensures.sure
    ∙ forms.sure-Case (scope_at c.args.scope.now) c.args.statement.now c.in-Case.kind c.in-Case.value c.in-Case.items c.in-Case.is c.deref-in-Case-2.result.now c.deref-in-Case-3.result.now c.deref-in-Case-2.ensures.value c.deref-in-Case-3.ensures.value _ c.in_ok-full-in-Case.ensures

pub walk-returns-in_ok-sure-in-Case-clause-outside : goal.walk-returns-in_ok-sure-in-Case-clause-outside
walk-returns-in_ok-sure-in-Case-clause-outside t c =
    joins-three _ _ _ _ _ _ _ _ c.in_ok-add_reads-in-Case.ensures c.in_ok-add_all_labels-in-Case.ensures c.in_ok-sure-in-Case.ensures.outside
    (forms.outside-Case (scope_at c.args.scope.now) c.args.statement.now c.in-Case.kind c.in-Case.value c.in-Case.items c.in-Case.is c.deref-in-Case.result.now c.deref-in-Case-3.result.now c.deref-in-Case.ensures.value c.deref-in-Case-3.ensures.value)

pub walk-in_turn-requires : goal.walk-in_turn-requires
walk-in_turn-requires t c = (
  search (rules, the_lemmas),
  (
    c.requires.objects,
    (
      flow.narrow-Block (scope_at c.args.scope.now) c.args.statement.now c.requires.narrow c.in-Block.field-0 c.in-Block.statements c.in-Block.is c.deref-in-Block.result.now c.deref-in-Block.ensures.value,
      sets.free-is (scope_at c.args.scope.now) _ _ (flow.assigned-Block (scope_at c.args.scope.now) c.args.statement.now c.in-Block.field-0 c.in-Block.statements c.in-Block.is c.deref-in-Block.result.now c.deref-in-Block.ensures.value) c.requires.plain,
    ),
  ),
)

pub walk-returns-in_ok-sure-in-Block-clause-sure : goal.walk-returns-in_ok-sure-in-Block-clause-sure
walk-returns-in_ok-sure-in-Block-clause-sure t c = c.in_ok-sure-in-Block.ensures.sure ∙ forms.sure-Block (scope_at c.args.scope.now) c.args.statement.now c.in-Block.field-0 c.in-Block.statements c.in-Block.is c.deref-in-Block.result.now c.deref-in-Block.ensures.value

pub walk-returns-in_ok-sure-in-Block-clause-outside : goal.walk-returns-in_ok-sure-in-Block-clause-outside
walk-returns-in_ok-sure-in-Block-clause-outside t c = c.in_ok-sure-in-Block.ensures.outside ∙ ap (or_in (bits_in c.args.outside.now.items)) (forms.outside-Block (scope_at c.args.scope.now) c.args.statement.now c.in-Block.field-0 c.in-Block.statements c.in-Block.is c.deref-in-Block.result.now c.deref-in-Block.ensures.value)

pub body-walk-requires : goal.body-walk-requires
body-walk-requires t c = (
  search (rules, the_lemmas),
  (
    c.requires.objects,
    (
      subst (IsNarrowFlow (scope_at c.args.scope.now)) (sym (flow.body-Values c.args.item.now c.in-Values.field-0 c.in-Values.statement c.in-Values.is)) c.requires.narrow,
      subst (λ y. HasNoMemory (scope_at c.args.scope.now) (assigned_at (scope_at c.args.scope.now) y)) (sym (flow.body-Values c.args.item.now c.in-Values.field-0 c.in-Values.statement c.in-Values.is)) c.requires.plain,
    ),
  ),
)

pub body-returns-in_ok-sure-in-Values-clause-sure : goal.body-returns-in_ok-sure-in-Values-clause-sure
body-returns-in_ok-sure-in-Values-clause-sure t c = c.in_ok-sure-in-Values.ensures.sure ∙ ap (sure_at (scope_at c.args.scope.now)) (flow.body-Values c.args.item.now c.in-Values.field-0 c.in-Values.statement c.in-Values.is)

pub body-returns-in_ok-sure-in-Values-clause-outside : goal.body-returns-in_ok-sure-in-Values-clause-outside
body-returns-in_ok-sure-in-Values-clause-outside t c = c.in_ok-sure-in-Values.ensures.outside ∙ ap (λ y. or_in (bits_in c.args.outside.now.items) (outside_at (scope_at c.args.scope.now) y)) (flow.body-Values c.args.item.now c.in-Values.field-0 c.in-Values.statement c.in-Values.is)

pub body-walk-requires-in-Default : goal.body-walk-requires-in-Default
body-walk-requires-in-Default t c = (
  search (rules, the_lemmas),
  (
    c.requires.objects,
    (
      subst (IsNarrowFlow (scope_at c.args.scope.now)) (sym (flow.body-Default c.args.item.now c.in-Default.statement c.in-Default.is)) c.requires.narrow,
      subst (λ y. HasNoMemory (scope_at c.args.scope.now) (assigned_at (scope_at c.args.scope.now) y)) (sym (flow.body-Default c.args.item.now c.in-Default.statement c.in-Default.is)) c.requires.plain,
    ),
  ),
)

pub body-returns-in_ok-sure-in-Default-clause-sure : goal.body-returns-in_ok-sure-in-Default-clause-sure
body-returns-in_ok-sure-in-Default-clause-sure t c = c.in_ok-sure-in-Default.ensures.sure ∙ ap (sure_at (scope_at c.args.scope.now)) (flow.body-Default c.args.item.now c.in-Default.statement c.in-Default.is)

pub body-returns-in_ok-sure-in-Default-clause-outside : goal.body-returns-in_ok-sure-in-Default-clause-outside
body-returns-in_ok-sure-in-Default-clause-outside t c = c.in_ok-sure-in-Default.ensures.outside ∙ ap (λ y. or_in (bits_in c.args.outside.now.items) (outside_at (scope_at c.args.scope.now) y)) (flow.body-Default c.args.item.now c.in-Default.statement c.in-Default.is)

pub in_turn-loop-statement-init : goal.in_turn-loop-statement-init
in_turn-loop-statement-init t c =
    let s = (scope_at c.args.scope.now) in
    record {
      outside = turns.outside-start (bits_in c.args.outside.now.items) (all_outside s c.args.statements.now) c.new-sure.result.items c.new-sure.ensures.items;
      surely = ap (λ ys. or_in (bits_in ys) (all_sure s c.args.statements.now)) (sym c.new-sure.ensures.items);
      done = none-masked c.new-done.result c.new-done.ensures.empty ∙ ap (λ ys. spread (bits_in ys)) (sym c.new-sure.ensures.items);
      plain = sets.plain-none s _ (ap bits_in c.new-sure.ensures.items);
      narrow = c.requires.narrow;
      free = c.requires.plain;
    }

pub in_turn-walk-requires : goal.in_turn-walk-requires
in_turn-walk-requires t c =
    let s = (scope_at c.args.scope.now) in
    let xs = c.args.statements.now in
    let i = c.loop-statement.statement-index in
    let r = c.statement-item.result in
    let rest = rest_is xs i r (omega arith) c.statement-item.is in (
      search (rules, the_lemmas),
      (
        c.requires.objects,
        (
          (subst (AreNarrowAll s) rest c.loop-statement.invariant.narrow).0,
          sets.first-free s _ _ _ (ap (all_assigned s) rest) c.loop-statement.invariant.free,
        ),
      ),
    )

pub in_turn-loop-statement-preserved : goal.in_turn-loop-statement-preserved
in_turn-loop-statement-preserved t c =
    let s = (scope_at c.args.scope.now) in
    let xs = c.args.statements.now in
    let i = c.loop-statement.statement-index in
    let r = c.statement-item.result in
    let rest = rest_is xs i r (omega arith) c.statement-item.is in
    let v = c.loop-statement.invariant in
    let here = c.in_ok-assigned.ensures.sure in
    let free = sets.first-free s _ _ _ (ap (all_assigned s) rest) v.free in
    let bits = sets.plain-is s _ _ here (sets.plain-sure s (statement_of r) free) in
    record {
      outside = turns.read-turn s r xs i _ _ _ _ _ _ _ rest v.outside v.done v.plain
          (c.in_ok-assigned.ensures.outside ∙ ap (λ ys. or_in (bits_in ys) (outside_at s (statement_of r))) c.new-read.ensures.items)
          (c.in_ok-follow.ensures.outside ∙ ap (λ ys. or_in (bits_in c.loop-statement.outside.items) (but_not_in (bits_in ys) (masked c.loop-statement.done))) c.deref.ensures.value)
          (c.in_ok-follow.ensures.sure ∙ ap (λ ys. or_in (bits_in c.loop-statement.sure.items) (bits_in ys)) c.deref-in-loop-statement.ensures.value ∙ ap (or_in (bits_in c.loop-statement.sure.items)) here);
      surely = turn _ _ _ _ _ (v.surely ∙ ap (λ ys. or_in (bits_in c.loop-statement.sure.items) (all_sure s ys)) rest)
          (c.in_ok-follow.ensures.sure ∙ ap (λ ys. or_in (bits_in c.loop-statement.sure.items) (bits_in ys)) c.deref-in-loop-statement.ensures.value ∙ ap (or_in (bits_in c.loop-statement.sure.items)) here);
      done = turns.done-turn _ _ (bits_in c.loop-statement.sure.items) _ (bits_in c.deref-in-loop-statement.result.now) v.done c.in_ok-follow.ensures.done c.in_ok-follow.ensures.sure;
      plain = sets.plain-or s _ _ _ (c.in_ok-follow.ensures.sure ∙ ap (λ ys. or_in (bits_in c.loop-statement.sure.items) (bits_in ys)) c.deref-in-loop-statement.ensures.value) v.plain bits;
      narrow = (subst (AreNarrowAll s) rest v.narrow).1;
      free = sets.rest-free s _ _ _ (ap (all_assigned s) rest) v.free;
    }

pub in_turn-returns-clause-sure : goal.in_turn-returns-clause-sure
in_turn-returns-clause-sure t c = end _ _ _ c.loop-statement.invariant.surely (at_drop_all (all_sure (scope_at c.args.scope.now)) c.args.statements.now c.loop-statement.statement-index c.loop-statement-test.false)

pub in_turn-returns-clause-outside : goal.in_turn-returns-clause-outside
in_turn-returns-clause-outside t c = end _ _ _ c.loop-statement.invariant.outside (at_drop_all (λ ys. but_not_in (all_outside (scope_at c.args.scope.now) ys) (bits_in c.loop-statement.sure.items)) c.args.statements.now c.loop-statement.statement-index c.loop-statement-test.false)

pub ladder-add_reads-requires-clause-narrow : goal.ladder-add_reads-requires-clause-narrow
ladder-add_reads-requires-clause-narrow t c =
    let s = (scope_at c.args.scope.now) in
    let xs = c.args.arms.now in
    let i = c.loop-arm.arm-index in
    let r = c.arm-item.result in
    let rest = rest_is xs i r (omega arith) c.arm-item.is in
    (subst (AreNarrowLadder s) rest c.loop-arm.invariant.narrow).0

pub ladder-walk-requires : goal.ladder-walk-requires
ladder-walk-requires t c =
    let s = (scope_at c.args.scope.now) in
    let xs = c.args.arms.now in
    let i = c.loop-arm.arm-index in
    let r = c.arm-item.result in
    let rest = rest_is xs i r (omega arith) c.arm-item.is in (
      search (rules, the_lemmas),
      (
        c.requires.objects,
        (
          (subst (AreNarrowLadder s) rest c.loop-arm.invariant.narrow).1,
          sets.first-free s _ _ _ (ap (ladder_assigned s) rest) c.loop-arm.invariant.free,
        ),
      ),
    )

pub ladder-loop-arm-preserved : goal.ladder-loop-arm-preserved
ladder-loop-arm-preserved t c =
    let s = (scope_at c.args.scope.now) in
    let xs = c.args.arms.now in
    let i = c.loop-arm.arm-index in
    let r = c.arm-item.result in
    let rest = rest_is xs i r (omega arith) c.arm-item.is in
    let v = c.loop-arm.invariant in
    let free = sets.first-free s _ _ _ (ap (ladder_assigned s) rest) v.free in
    let here = c.in_ok-assigned.ensures.sure in
    let x = statement_of r.statement in
    record {
      outside = turn-two _ _ _ _ _ _ _ (v.outside ∙ ap (λ ys. or_in (bits_in c.loop-arm.outside.items) (ladder_outside s ys)) rest) c.in_ok-add_reads.ensures c.in_ok-assigned.ensures.outside;
      surely = v.surely ∙ ap (λ ys. ladder_sure s ys (bits_in c.loop-arm.sure.items)) rest
          ∙ ap (ladder_sure s (drop (i + 1) xs)) (turns.met-turn s false x _ _ _ _ free here c.in_ok-sure.ensures (ap bits_in c.deref.ensures.value));
      narrow = (subst (AreNarrowLadder s) rest v.narrow).2;
      free = sets.rest-free s _ _ _ (ap (ladder_assigned s) rest) v.free;
    }

pub ladder-returns-clause-sure : goal.ladder-returns-clause-sure
ladder-returns-clause-sure t c =
    sym (c.loop-arm.invariant.surely ∙ at_drop_all (λ ys. ladder_sure (scope_at c.args.scope.now) ys (bits_in c.loop-arm.sure.items)) c.args.arms.now c.loop-arm.arm-index c.loop-arm-test.false)

pub ladder-returns-clause-outside : goal.ladder-returns-clause-outside
ladder-returns-clause-outside t c = end _ _ _ c.loop-arm.invariant.outside (at_drop_all (ladder_outside (scope_at c.args.scope.now)) c.args.arms.now c.loop-arm.arm-index c.loop-arm-test.false)

pub bodies-loop-item-init : goal.bodies-loop-item-init
bodies-loop-item-init t c =
    record {
      outside = refl;
      surely = ap (λ ys. bodies_sure (scope_at c.args.scope.now) c.args.items.now true (bits_in ys)) (sym c.new-sure.ensures.items);
      narrow = c.requires.narrow;
      free = c.requires.plain;
    }

pub bodies-body-requires : goal.bodies-body-requires
bodies-body-requires t c =
    let s = (scope_at c.args.scope.now) in
    let xs = c.args.items.now in
    let i = c.loop-item.item-index in
    let r = c.item-item.result in
    let rest = rest_is xs i r (omega arith) c.item-item.is in (
      search (rules, the_lemmas),
      (
        c.requires.objects,
        (
          (subst (AreNarrowItems s) rest c.loop-item.invariant.narrow).1,
          sets.first-free s _ _ _ (ap (bodies_assigned s) rest) c.loop-item.invariant.free,
        ),
      ),
    )

pub bodies-loop-item-preserved : goal.bodies-loop-item-preserved
bodies-loop-item-preserved t c =
    let s = (scope_at c.args.scope.now) in
    let xs = c.args.items.now in
    let i = c.loop-item.item-index in
    let r = c.item-item.result in
    let rest = rest_is xs i r (omega arith) c.item-item.is in
    let v = c.loop-item.invariant in
    let free = sets.first-free s _ _ _ (ap (bodies_assigned s) rest) v.free in
    let here = c.in_ok-assigned.ensures.sure in
    record {
      outside = turn _ _ _ _ _ (v.outside ∙ ap (λ ys. or_in (bits_in c.loop-item.outside.items) (bodies_outside s ys)) rest) c.in_ok-assigned.ensures.outside;
      surely = v.surely ∙ ap (λ ys. bodies_sure s ys c.loop-item.first (bits_in c.loop-item.sure.items)) rest
          ∙ ap (bodies_sure s (drop (i + 1) xs) false) (turns.met-turn s c.loop-item.first (item_statement r) _ _ _ _ free here c.in_ok-sure.ensures (ap bits_in c.deref.ensures.value));
      narrow = (subst (AreNarrowItems s) rest v.narrow).2;
      free = sets.rest-free s _ _ _ (ap (bodies_assigned s) rest) v.free;
    }

pub bodies-returns-clause-sure : goal.bodies-returns-clause-sure
bodies-returns-clause-sure t c =
    sym (c.loop-item.invariant.surely ∙ at_drop_all (λ ys. bodies_sure (scope_at c.args.scope.now) ys c.loop-item.first (bits_in c.loop-item.sure.items)) c.args.items.now c.loop-item.item-index c.loop-item-test.false)

pub bodies-returns-clause-outside : goal.bodies-returns-clause-outside
bodies-returns-clause-outside t c = end _ _ _ c.loop-item.invariant.outside (at_drop_all (bodies_outside (scope_at c.args.scope.now)) c.args.items.now c.loop-item.item-index c.loop-item-test.false)

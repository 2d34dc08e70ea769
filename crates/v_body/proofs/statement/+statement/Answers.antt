use Rattle.std.proofs.Common.{◌≡◌, ◌∙◌, ◌<◌, ◌++◌, ◌∷◌, [], map, sym, ap, arith}
use Rattle.std.specs.Prelude.{codes}
use Rattle.std.proofs.lemmas.Result.{err_from_is_err_and}
use Rattle.std.proofs.lemmas.List.{map_push}
use Rattle.v_token.specs.View.{tokens_of}
use Rattle.v_syntax.specs.Tree.{tree_of, statement_of, case_kind_of, name_of_option}
use Rattle.v_expr.specs.Repeat.{repeated}
use Rattle.v_expr.proofs.Repeat.{goes_on, is_over}
use Rattle.v_body.specs.Words.{after_word}
use Rattle.v_body.specs.Statements.{are_items_of_case, as_items, conditional_at, item_at, items_at, statement_in}
use Rattle.v_body.specs.View.{arm_of, item_of}
use Rattle.v_body.proofs.Longer.{statement_in_shrinks, item_shrinks, guarded_shrinks}
use Rattle.v_body.proofs.Ladder.{goes_up, made_alone, made_with_else, no_arm, no_last, no_arms_start, ladder_shrinks}
use Rattle.v_body.proofs.Turns.{fails, starts, items_start, no_statement_level, statement_level, statement_level_fails, block_read, case_read}
use Rattle.v_expr.proofs.Flat.{each-none, each-pushed, some-pushed}
use Rattle.v_body.specs.Flat.{IsFlatStatement, IsFlatArm, IsFlatCaseItem}
use Rattle.v_body.proofs.statement.+statement.Goals as goal

pub nested-returns-then-levels-eq0-clause-read : goal.nested-returns-then-levels-eq0-clause-read
nested-returns-then-levels-eq0-clause-read t c = no_statement_level c.args.levels (tokens_of c.args.tokens.now) c.if-levels-eq0.true

pub nested-returns-in_err-statement-clause-read : goal.nested-returns-in_err-statement-clause-read
nested-returns-in_err-statement-clause-read t c =
    let h : 0 < c.args.levels = omega arith in
    let p = err_from_is_err_and c.from_residual.result c.from_residual.ensures.1 in
    rw (p.1, p.2) (statement_level_fails c.in_err-statement.field-0.0 c.args.levels (tokens_of c.args.tokens.now) h c.in_err-statement.ensures.read)

pub nested-returns-clause-read : goal.nested-returns-clause-read
nested-returns-clause-read t c =
    let h : 0 < c.args.levels = omega arith in
    statement_level c.args.levels (tokens_of c.args.tokens.now) h ∙ c.in_ok-statement.ensures.read

pub block-returns-clause-read : goal.block-returns-clause-read
block-returns-clause-read t c =
    block_read (statement_in c.args.levels) (tokens_of c.args.tokens.now) (tokens_of c.in_ok-name.rest.now) (tokens_of c.in_ok-statements.rest.now) (name_of_option c.in_ok-name.name) (map statement_of c.in_ok-statements.statements.items)
    (statement_of c.block_of.result) c.in_ok-name.ensures c.in_ok-statements.ensures.read c.block_of.ensures.made

pub statements-loop-after-init : goal.statements-loop-after-init
statements-loop-after-init t c = (
  (starts (after_word (codes "end")) (statement_in c.args.levels) (map statement_of c.new-statements.result.items) (tokens_of c.in_ok-rest.rest.now) (tokens_of c.args.tokens.now)
      (ap (map statement_of) c.new-statements.ensures.items) (ap tokens_of c.in_ok-rest.ensures.same)),
  each-none IsFlatStatement c.new-statements.result.items c.new-statements.ensures.items,
)

pub statements-returns-in-Some-clause-read : goal.statements-returns-in-Some-clause-read
statements-returns-in-Some-clause-read t c =
    is_over (after_word (codes "end")) (statement_in c.args.levels) (map statement_of c.loop-after.statements.items) (tokens_of c.loop-after.rest.now) (tokens_of c.in-Some.after.now)
    (repeated (after_word (codes "end")) (statement_in c.args.levels) (tokens_of c.args.tokens.now)) (sym c.in-Some.ensures) c.loop-after.invariant.0

pub statements-returns-in_err-statement-in-None-clause-read : goal.statements-returns-in_err-statement-in-None-clause-read
statements-returns-in_err-statement-in-None-clause-read t c =
    let p = err_from_is_err_and c.from_residual-in_err-statement-in-None.result c.from_residual-in_err-statement-in-None.ensures.1 in
    rw (p.1, p.2)
    (fails (after_word (codes "end")) (statement_in c.args.levels) c.in_err-statement-in-None.field-0.0 (map statement_of c.loop-after.statements.items) (tokens_of c.loop-after.rest.now)
    (repeated (after_word (codes "end")) (statement_in c.args.levels) (tokens_of c.args.tokens.now)) (sym c.in-None.ensures) c.in_err-statement-in-None.ensures.read c.loop-after.invariant.0)

pub statements-loop-after-smaller : goal.statements-loop-after-smaller
statements-loop-after-smaller t c =
    statement_in_shrinks c.args.levels (tokens_of c.loop-after.rest.now) (statement_of c.in_ok-statement-in-None.statement) (tokens_of c.in_ok-statement-in-None.after.now) c.in_ok-statement-in-None.ensures.read

pub statements-loop-after-preserved : goal.statements-loop-after-preserved
statements-loop-after-preserved t c =
    let e : map statement_of c.append.new.list.items ≡ map statement_of c.loop-after.statements.items ++ statement_of c.in_ok-statement-in-None.statement ∷ [] =
    rw c.in_ok-append-in-None.ensures (map_push _ c.loop-after.statements.items c.in_ok-statement-in-None.statement) in (
      (rw e
          (goes_on (after_word (codes "end")) (statement_in c.args.levels) (statement_in_shrinks c.args.levels) (map statement_of c.loop-after.statements.items) (tokens_of c.loop-after.rest.now)
          (statement_of c.in_ok-statement-in-None.statement) (tokens_of c.in_ok-statement-in-None.after.now) (repeated (after_word (codes "end")) (statement_in c.args.levels) (tokens_of c.args.tokens.now))
          (sym c.in-None.ensures) c.in_ok-statement-in-None.ensures.read c.loop-after.invariant.0)),
      each-pushed IsFlatStatement c.loop-after.statements.items c.in_ok-statement-in-None.statement c.append.new.list.items c.in_ok-append-in-None.ensures c.loop-after.invariant.1 c.in_ok-statement-in-None.ensures.flat,
    )

pub items-loop-after-init : goal.items-loop-after-init
items-loop-after-init t c = (
  (items_start (statement_in c.args.levels) (map item_of c.new-items.result.items) (tokens_of c.in_ok-rest.rest.now) (tokens_of c.args.tokens.now)
      (ap (map item_of) c.new-items.ensures.items) (ap tokens_of c.in_ok-rest.ensures.same)),
  each-none IsFlatCaseItem c.new-items.result.items c.new-items.ensures.items,
)

pub items-returns-in-Some-clause-read : goal.items-returns-in-Some-clause-read
items-returns-in-Some-clause-read t c =
    is_over (after_word (codes "endcase")) (item_at (statement_in c.args.levels)) (map item_of c.loop-after.items.items) (tokens_of c.loop-after.rest.now) (tokens_of c.in-Some.after.now)
    (items_at (statement_in c.args.levels) (tokens_of c.args.tokens.now)) (sym c.in-Some.ensures) c.loop-after.invariant.0

pub items-returns-in_err-item-in-None-clause-read : goal.items-returns-in_err-item-in-None-clause-read
items-returns-in_err-item-in-None-clause-read t c =
    let p = err_from_is_err_and c.from_residual-in_err-item-in-None.result c.from_residual-in_err-item-in-None.ensures.1 in
    rw (p.1, p.2)
    (fails (after_word (codes "endcase")) (item_at (statement_in c.args.levels)) c.in_err-item-in-None.field-0.0 (map item_of c.loop-after.items.items) (tokens_of c.loop-after.rest.now)
    (items_at (statement_in c.args.levels) (tokens_of c.args.tokens.now)) (sym c.in-None.ensures) c.in_err-item-in-None.ensures.read c.loop-after.invariant.0)

pub items-loop-after-smaller : goal.items-loop-after-smaller
items-loop-after-smaller t c =
    item_shrinks c.args.levels (tokens_of c.loop-after.rest.now) (item_of c.in_ok-item-in-None.item) (tokens_of c.in_ok-item-in-None.after.now) c.in_ok-item-in-None.ensures.read

pub items-loop-after-preserved : goal.items-loop-after-preserved
items-loop-after-preserved t c =
    let e : map item_of c.append.new.list.items ≡ map item_of c.loop-after.items.items ++ item_of c.in_ok-item-in-None.item ∷ [] =
    rw c.in_ok-append-in-None.ensures (map_push _ c.loop-after.items.items c.in_ok-item-in-None.item) in (
      (rw e
          (goes_on (after_word (codes "endcase")) (item_at (statement_in c.args.levels)) (item_shrinks c.args.levels) (map item_of c.loop-after.items.items) (tokens_of c.loop-after.rest.now)
          (item_of c.in_ok-item-in-None.item) (tokens_of c.in_ok-item-in-None.after.now) (items_at (statement_in c.args.levels) (tokens_of c.args.tokens.now))
          (sym c.in-None.ensures) c.in_ok-item-in-None.ensures.read c.loop-after.invariant.0)),
      each-pushed IsFlatCaseItem c.loop-after.items.items c.in_ok-item-in-None.item c.append.new.list.items c.in_ok-append-in-None.ensures c.loop-after.invariant.1 c.in_ok-item-in-None.ensures.flat,
    )

pub case-returns-clause-read : goal.case-returns-clause-read
case-returns-clause-read t c =
    case_read (statement_in c.args.levels) (case_kind_of c.args.kind) (tokens_of c.args.tokens.now) (tokens_of c.in_ok-subject.rest.now) (tokens_of c.in_ok-items.rest.now) (tree_of c.in_ok-subject.subject) (map item_of c.in_ok-items.items.items)
    (statement_of c.case_of.result) c.in_ok-subject.ensures.read c.in_ok-items.ensures.read (ap (λ xs. are_items_of_case (as_items (map item_of xs))) (sym c.deref.ensures.value) ∙ sym c.are_items_of_case.ensures ∙ c.if-not-are_items_of_case.false) c.case_of.ensures.made

pub ladder-loop-arms-init : goal.ladder-loop-arms-init
ladder-loop-arms-init t c = (
  (no_arms_start (statement_in c.args.levels) (map arm_of c.in_ok-arms.arms.items) (tokens_of c.in_ok-rest.rest.now) (tokens_of c.args.tokens.now) (ap (map arm_of) c.in_ok-arms.ensures.items) (ap tokens_of c.in_ok-rest.ensures.same)),
  each-none IsFlatArm c.in_ok-arms.arms.items c.in_ok-arms.ensures.items,
)

pub ladder-returns-in_err-arm-clause-read : goal.ladder-returns-in_err-arm-clause-read
ladder-returns-in_err-arm-clause-read t c =
    let p = err_from_is_err_and c.from_residual-in_err-arm.result c.from_residual-in_err-arm.ensures.1 in
    rw (p.1, p.2)
    (no_arm (statement_in c.args.levels) c.in_err-arm.field-0.0 (map arm_of c.loop-arms.arms.items) (tokens_of c.loop-arms.rest.now) (conditional_at (statement_in c.args.levels) (tokens_of c.args.tokens.now)) c.in_err-arm.ensures.read c.loop-arms.invariant.0)

pub ladder-returns-in-None-clause-read : goal.ladder-returns-in-None-clause-read
ladder-returns-in-None-clause-read t c =
    let e : map arm_of c.push.new.self.items ≡ map arm_of c.loop-arms.arms.items ++ arm_of c.in_ok-arm.arm ∷ [] = rw c.in_ok-push.ensures.items (map_push _ c.loop-arms.arms.items c.in_ok-arm.arm) in
    made_alone (statement_in c.args.levels) (map arm_of c.loop-arms.arms.items) (map arm_of c.push.new.self.items) (tokens_of c.loop-arms.rest.now) (arm_of c.in_ok-arm.arm) (tokens_of c.in_ok-arm.after.now)
    (conditional_at (statement_in c.args.levels) (tokens_of c.args.tokens.now)) (statement_of c.alone.result) c.in_ok-arm.ensures.read (sym c.in-None.ensures) c.loop-arms.invariant.0 e c.alone.ensures.made

pub ladder-returns-in_err-last-in-None-behind_word-clause-read : goal.ladder-returns-in_err-last-in-None-behind_word-clause-read
ladder-returns-in_err-last-in-None-behind_word-clause-read t c =
    let p = err_from_is_err_and c.from_residual-in_err-last-in-None-behind_word.result c.from_residual-in_err-last-in-None-behind_word.ensures.1 in
    rw (p.1, p.2)
    (no_last (statement_in c.args.levels) c.in_err-last-in-None-behind_word.field-0.0 (map arm_of c.loop-arms.arms.items) (tokens_of c.loop-arms.rest.now) (arm_of c.in_ok-arm.arm) (tokens_of c.in_ok-arm.after.now) (tokens_of c.in-Some.other.now)
    (conditional_at (statement_in c.args.levels) (tokens_of c.args.tokens.now)) c.in_ok-arm.ensures.read (sym c.in-Some.ensures) (sym c.in-None-behind_word.ensures) c.in_err-last-in-None-behind_word.ensures.read c.loop-arms.invariant.0)

pub ladder-returns-in-None-behind_word-clause-read : goal.ladder-returns-in-None-behind_word-clause-read
ladder-returns-in-None-behind_word-clause-read t c =
    let e : map arm_of c.push.new.self.items ≡ map arm_of c.loop-arms.arms.items ++ arm_of c.in_ok-arm.arm ∷ [] = rw c.in_ok-push.ensures.items (map_push _ c.loop-arms.arms.items c.in_ok-arm.arm) in
    made_with_else (statement_in c.args.levels) (map arm_of c.loop-arms.arms.items) (map arm_of c.push.new.self.items) (tokens_of c.loop-arms.rest.now) (arm_of c.in_ok-arm.arm) (tokens_of c.in_ok-arm.after.now) (tokens_of c.in-Some.other.now)
    (statement_of c.in_ok-last-in-None-behind_word.last) (tokens_of c.in_ok-last-in-None-behind_word.behind.now) (conditional_at (statement_in c.args.levels) (tokens_of c.args.tokens.now))
    (statement_of c.in_ok-whole-in-None-behind_word.whole) c.in_ok-arm.ensures.read (sym c.in-Some.ensures) (sym c.in-None-behind_word.ensures) c.in_ok-last-in-None-behind_word.ensures.read c.loop-arms.invariant.0 e
    c.in_ok-whole-in-None-behind_word.ensures.made

pub ladder-loop-arms-smaller : goal.ladder-loop-arms-smaller
ladder-loop-arms-smaller t c =
    ladder_shrinks (statement_in c.args.levels) (guarded_shrinks c.args.levels) (tokens_of c.loop-arms.rest.now) (arm_of c.in_ok-arm.arm) (tokens_of c.in_ok-arm.after.now) (tokens_of c.in-Some.other.now) (tokens_of c.in-Some-behind_word.next.now)
    c.in_ok-arm.ensures.read (sym c.in-Some.ensures) (sym c.in-Some-behind_word.ensures)

pub ladder-loop-arms-preserved : goal.ladder-loop-arms-preserved
ladder-loop-arms-preserved t c =
    let e : map arm_of c.push.new.self.items ≡ map arm_of c.loop-arms.arms.items ++ arm_of c.in_ok-arm.arm ∷ [] = rw c.in_ok-push.ensures.items (map_push _ c.loop-arms.arms.items c.in_ok-arm.arm) in (
      (rw e
          (goes_up (statement_in c.args.levels) (guarded_shrinks c.args.levels) (map arm_of c.loop-arms.arms.items) (tokens_of c.loop-arms.rest.now) (arm_of c.in_ok-arm.arm) (tokens_of c.in_ok-arm.after.now) (tokens_of c.in-Some.other.now)
          (tokens_of c.in-Some-behind_word.next.now) (conditional_at (statement_in c.args.levels) (tokens_of c.args.tokens.now)) c.in_ok-arm.ensures.read (sym c.in-Some.ensures) (sym c.in-Some-behind_word.ensures) c.loop-arms.invariant.0)),
      each-pushed IsFlatArm c.loop-arms.arms.items c.in_ok-arm.arm c.push.new.self.items c.in_ok-push.ensures.items c.loop-arms.invariant.1 c.in_ok-arm.ensures.flat,
    )

pub ladder-returns-in-None-clause-flat : goal.ladder-returns-in-None-clause-flat
ladder-returns-in-None-clause-flat t c =
    c.alone.ensures.flat (some-pushed c.loop-arms.arms.items c.in_ok-arm.arm c.push.new.self.items c.in_ok-push.ensures.items)
    (each-pushed IsFlatArm c.loop-arms.arms.items c.in_ok-arm.arm c.push.new.self.items c.in_ok-push.ensures.items c.loop-arms.invariant.1 c.in_ok-arm.ensures.flat)

pub ladder-returns-in-None-behind_word-clause-flat : goal.ladder-returns-in-None-behind_word-clause-flat
ladder-returns-in-None-behind_word-clause-flat t c =
    c.in_ok-whole-in-None-behind_word.ensures.flat (some-pushed c.loop-arms.arms.items c.in_ok-arm.arm c.push.new.self.items c.in_ok-push.ensures.items)
    (each-pushed IsFlatArm c.loop-arms.arms.items c.in_ok-arm.arm c.push.new.self.items c.in_ok-push.ensures.items c.loop-arms.invariant.1 c.in_ok-arm.ensures.flat)
    (c.in_ok-last-in-None-behind_word.ensures.no_if (sym c.in-None-behind_word.ensures)) c.in_ok-last-in-None-behind_word.ensures.flat

pub block-returns-clause-flat : goal.block-returns-clause-flat
block-returns-clause-flat t c = c.block_of.ensures.flat c.in_ok-statements.ensures.flat

pub case-returns-clause-flat : goal.case-returns-clause-flat
case-returns-clause-flat t c = c.case_of.ensures.flat c.in_ok-subject.ensures.flat c.in_ok-items.ensures.flat

use Rattle.std.proofs.Common.{◌+◌, ◌∙◌, Bool, None, Some, refl, ap, sym, subst, cond, rules, drop, arith}
use Rattle.wb_values.specs.Value.{word, Valuation}
use Rattle.verilog_trees.specs.Syntax.{case, blocking, nonblocking}
use Rattle.verilog_meaning.specs.Expression.{is_true}
use Rattle.verilog_meaning.specs.Statement.{Effect, run, run_all, unchanged, followed_by, any_matches}
use Rattle.v_syntax.specs.declared.tree.Statement.{the_lemmas}
use Rattle.v_syntax.specs.Tree.{tree_of, expressions_of, target_of, statement_of, or_empty, case_kind_of}
use Rattle.v_value.specs.Scope.{scope_at}
use Rattle.v_lower.specs.Table.{images_at}
use Rattle.v_lower.proofs.Lowering.{images_kept}
use Rattle.v_operators.specs.Meaning.{HasTruth}
use Rattle.v_operators.proofs.Growing.{Grows-refl, Grows-trans, IsOfSort-kept, number_kept}
use Rattle.v_write.specs.Sound.{IsSoundStatement, AreSoundStatements, AreSoundBranches, AreSoundItems, statement_list, arm_list, item_list}
use Rattle.v_write.specs.Matching.{AreComparable, IsComparable, AreItemsComparable}
use Rattle.v_write.specs.Cases.{item_effect, items_effect, item_statement}
use Rattle.v_write.specs.Running.{Runs, Always, IsWorth, IsGoing}
use Rattle.v_write.proofs.Kept.{guard_there}
use Rattle.v_write.proofs.Running.{started, going_as, going_then, going_on, ended, ran, runs_as, nothing_ran, arm_going}
use Rattle.v_write.proofs.Trees.{statement_of-Case, statement_of-Block, sound-If, run-If, run-arm_before, rest_is, none_left, last_statement, last_sound, last_run}
use Rattle.v_write.proofs.Values.{items_comparable, item_sound}
use Rattle.v_write.proofs.Items.{items_within, case_with_default, case_without_default, case_going}
use Rattle.v_write.proofs.statement.+run.Goals as goal

pub run_statement-returns-in-Empty-clause-grows : goal.run_statement-returns-in-Empty-clause-grows
run_statement-returns-in-Empty-clause-grows t c = Grows-refl c.args.terms.now

pub run_statement-returns-in-Empty-clause-ran : goal.run_statement-returns-in-Empty-clause-ran
run_statement-returns-in-Empty-clause-ran t c =
    runs_as (scope_at c.args.scope.now) (images_at c.args.table.now) (images_at c.args.next.now) (images_at c.args.table.now) (images_at c.args.next.now) c.args.terms.now c.args.terms.now c.args.guard unchanged _ (λ v. ap (λ x. run (scope_at c.args.scope.now) (statement_of x) v) (sym c.in-Empty.is)) (nothing_ran (scope_at c.args.scope.now) (images_at c.args.table.now) (images_at c.args.next.now) c.args.terms.now c.args.guard c.requires.known c.requires.known_next)

pub run_statement-assign-requires-clause-sound : goal.run_statement-assign-requires-clause-sound
run_statement-assign-requires-clause-sound t c =
    subst (λ z. IsSoundStatement (scope_at c.args.scope.now) (blocking (target_of z) (tree_of c.in-Blocking.expression))) (sym c.deref.ensures)
    (subst (λ x. IsSoundStatement (scope_at c.args.scope.now) (statement_of x)) c.in-Blocking.is c.requires.sound)

pub run_statement-returns-in_ok-assign-in-Blocking-clause-ran : goal.run_statement-returns-in_ok-assign-in-Blocking-clause-ran
run_statement-returns-in_ok-assign-in-Blocking-clause-ran t c =
    runs_as (scope_at c.args.scope.now) (images_at c.args.table.now) (images_at c.args.next.now) (images_at c.assign.new.table) (images_at c.args.next.now) c.args.terms.now c.assign.new.terms c.args.guard _ _ (λ v. ap (λ z. run (scope_at c.args.scope.now) (blocking (target_of z) (tree_of c.in-Blocking.expression)) v) c.deref.ensures ∙ ap (λ x. run (scope_at c.args.scope.now) (statement_of x) v) (sym c.in-Blocking.is)) (c.in_ok-assign-in-Blocking.ensures.ran (images_at c.args.next.now) c.requires.known_next)

pub run_statement-defer-requires-clause-sound : goal.run_statement-defer-requires-clause-sound
run_statement-defer-requires-clause-sound t c =
    subst (λ z. IsSoundStatement (scope_at c.args.scope.now) (nonblocking (target_of z) (tree_of c.in-Nonblocking.expression))) (sym c.deref-in-Nonblocking.ensures)
    (subst (λ x. IsSoundStatement (scope_at c.args.scope.now) (statement_of x)) c.in-Nonblocking.is c.requires.sound)

pub run_statement-returns-in_ok-defer-in-Nonblocking-clause-ran : goal.run_statement-returns-in_ok-defer-in-Nonblocking-clause-ran
run_statement-returns-in_ok-defer-in-Nonblocking-clause-ran t c =
    runs_as (scope_at c.args.scope.now) (images_at c.args.table.now) (images_at c.args.next.now) (images_at c.args.table.now) (images_at c.defer.new.next) c.args.terms.now c.defer.new.terms c.args.guard _ _ (λ v. ap (λ z. run (scope_at c.args.scope.now) (nonblocking (target_of z) (tree_of c.in-Nonblocking.expression)) v) c.deref-in-Nonblocking.ensures ∙ ap (λ x. run (scope_at c.args.scope.now) (statement_of x) v) (sym c.in-Nonblocking.is)) c.in_ok-defer-in-Nonblocking.ensures.ran

pub run_statement-run_arms-requires : goal.run_statement-run_arms-requires
run_statement-run_arms-requires t c = (
  search (rules, the_lemmas),
  (c.requires.objects, (c.requires.known, (c.requires.known_next, (c.requires.guard, subst (AreSoundBranches (scope_at c.args.scope.now)) (sym c.deref-in-If.ensures.value) (sound-If (scope_at c.args.scope.now) c.args.statement.now c.in-If.arms c.in-If.last c.in-If.is c.requires.sound).0)))),
)

pub run_statement-run_statement-requires : goal.run_statement-run_statement-requires
run_statement-run_statement-requires t c =
    let going = c.in_ok-rest-in-If.ensures.going None in (
      search (rules, the_lemmas),
      (c.requires.objects, (going.known, (going.known_next, (going.there, last_sound (scope_at c.args.scope.now) c.in-If.last c.in-Some.other c.in-Some.is c.deref-in-Some.result.now c.deref-in-Some.ensures (sound-If (scope_at c.args.scope.now) c.args.statement.now c.in-If.arms c.in-If.last c.in-If.is c.requires.sound).1)))),
    )

pub run_statement-returns-in_ok-run_statement-in-Some-clause-ran : goal.run_statement-returns-in_ok-run_statement-in-Some-clause-ran
run_statement-returns-in_ok-run_statement-in-Some-clause-ran t c =
    let y = last_statement c.in-If.last in
    let same = last_run (scope_at c.args.scope.now) c.in-If.last c.in-Some.other c.in-Some.is c.deref-in-Some.result.now c.deref-in-Some.ensures in
    ran (scope_at c.args.scope.now) (images_at c.args.table.now) (images_at c.args.next.now) c.args.terms.now c.args.guard (λ v. run (scope_at c.args.scope.now) (or_empty (arm_list c.deref-in-If.result.now y)) v) (images_at c.run_arms.new.table) (images_at c.run_arms.new.next) (images_at c.run_statement.new.table) (images_at c.run_statement.new.next) c.run_arms.new.terms c.run_statement.new.terms c.in_ok-rest-in-If.rest
    (λ v. run (scope_at c.args.scope.now) (or_empty y) v) (λ v. run (scope_at c.args.scope.now) (statement_of c.args.statement.now) v) (c.in_ok-rest-in-If.ensures.going y)
    (runs_as (scope_at c.args.scope.now) (images_at c.run_arms.new.table) (images_at c.run_arms.new.next) (images_at c.run_statement.new.table) (images_at c.run_statement.new.next) c.run_arms.new.terms c.run_statement.new.terms c.in_ok-rest-in-If.rest _ _ same c.in_ok-run_statement-in-Some.ensures.ran)
    (λ v. run-If (scope_at c.args.scope.now) c.args.statement.now c.in-If.arms c.in-If.last c.in-If.is c.deref-in-If.result.now c.deref-in-If.ensures.value v)

pub run_statement-returns-in-None-clause-ran : goal.run_statement-returns-in-None-clause-ran
run_statement-returns-in-None-clause-ran t c =
    let going = subst (λ y. IsGoing (scope_at c.args.scope.now) (images_at c.args.table.now) (images_at c.args.next.now) c.args.terms.now Always c.args.guard (λ v. run (scope_at c.args.scope.now) (or_empty (arm_list c.deref-in-If.result.now y)) v) (images_at c.run_arms.new.table) (images_at c.run_arms.new.next) c.run_arms.new.terms c.in_ok-rest-in-If.rest (λ v. run (scope_at c.args.scope.now) (or_empty y) v)) (ap last_statement c.in-None.is) (c.in_ok-rest-in-If.ensures.going (last_statement c.in-If.last)) in
    ended (scope_at c.args.scope.now) (images_at c.args.table.now) (images_at c.args.next.now) c.args.terms.now c.args.guard (λ v. run (scope_at c.args.scope.now) (or_empty (arm_list c.deref-in-If.result.now None)) v) (images_at c.run_arms.new.table) (images_at c.run_arms.new.next) c.run_arms.new.terms c.in_ok-rest-in-If.rest (λ v. run (scope_at c.args.scope.now) (statement_of c.args.statement.now) v) going
    (λ v. ap (λ y. run (scope_at c.args.scope.now) (or_empty (arm_list c.deref-in-If.result.now y)) v) (sym (ap last_statement c.in-None.is)) ∙ run-If (scope_at c.args.scope.now) c.args.statement.now c.in-If.arms c.in-If.last c.in-If.is c.deref-in-If.result.now c.deref-in-If.ensures.value v)

pub run_statement-run_case-requires : goal.run_statement-run_case-requires
run_statement-run_case-requires t c =
    let h = subst (IsSoundStatement (scope_at c.args.scope.now)) (ap statement_of c.in-Case.is ∙ statement_of-Case c.in-Case.kind c.in-Case.expression c.in-Case.items) c.requires.sound in (
      search (rules, the_lemmas),
      (c.requires.objects, (c.requires.known, (c.requires.known_next, (c.requires.guard, (h.0, subst (λ items. AreSoundItems (scope_at c.args.scope.now) (case_kind_of c.in-Case.kind) (item_list items)) (sym c.deref-in-Case.ensures.value) h.1))))),
    )

pub run_statement-returns-in_ok-run_case-in-Case-clause-ran : goal.run_statement-returns-in_ok-run_case-in-Case-clause-ran
run_statement-returns-in_ok-run_case-in-Case-clause-ran t c =
    runs_as (scope_at c.args.scope.now) (images_at c.args.table.now) (images_at c.args.next.now) (images_at c.run_case.new.table) (images_at c.run_case.new.next) c.args.terms.now c.run_case.new.terms c.args.guard _ _
    (λ v. ap (λ items. run (scope_at c.args.scope.now) (case (case_kind_of c.in-Case.kind) (tree_of c.in-Case.expression) (item_list items)) v) c.deref-in-Case.ensures.value
    ∙ sym (ap (λ x. run (scope_at c.args.scope.now) (statement_of x) v) c.in-Case.is ∙ ap (λ x. run (scope_at c.args.scope.now) x v) (statement_of-Case c.in-Case.kind c.in-Case.expression c.in-Case.items)))
    c.in_ok-run_case-in-Case.ensures.ran

pub run_statement-run_all-requires : goal.run_statement-run_all-requires
run_statement-run_all-requires t c = (
  search (rules, the_lemmas),
  (c.requires.objects, (c.requires.known, (c.requires.known_next, (c.requires.guard, subst (λ xs. AreSoundStatements (scope_at c.args.scope.now) (statement_list xs)) (sym c.deref-in-Block.ensures.value) (subst (IsSoundStatement (scope_at c.args.scope.now)) (ap statement_of c.in-Block.is ∙ statement_of-Block c.in-Block.field-0 c.in-Block.statements) c.requires.sound))))),
)

pub run_statement-returns-in_ok-run_all-in-Block-clause-ran : goal.run_statement-returns-in_ok-run_all-in-Block-clause-ran
run_statement-returns-in_ok-run_all-in-Block-clause-ran t c =
    runs_as (scope_at c.args.scope.now) (images_at c.args.table.now) (images_at c.args.next.now) (images_at c.run_all.new.table) (images_at c.run_all.new.next) c.args.terms.now c.run_all.new.terms c.args.guard _ _
    (λ v. ap (λ xs. run_all (scope_at c.args.scope.now) (statement_list xs) v) c.deref-in-Block.ensures.value ∙ sym (ap (λ x. run (scope_at c.args.scope.now) (statement_of x) v) c.in-Block.is ∙ ap (λ x. run (scope_at c.args.scope.now) x v) (statement_of-Block c.in-Block.field-0 c.in-Block.statements)))
    c.in_ok-run_all-in-Block.ensures.ran

pub run_all-loop-statement-init : goal.run_all-loop-statement-init
run_all-loop-statement-init t c =
    record { so_far = started (scope_at c.args.scope.now) (images_at c.args.table.now) (images_at c.args.next.now) c.args.terms.now Always c.args.guard (λ v. run_all (scope_at c.args.scope.now) (statement_list c.args.statements.now) v) c.requires.known c.requires.known_next c.requires.guard; sound = c.requires.sound }

pub run_all-run_statement-requires : goal.run_all-run_statement-requires
run_all-run_statement-requires t c = (
  search (rules, the_lemmas),
  (c.requires.objects, (c.loop-statement.invariant.so_far.known, (c.loop-statement.invariant.so_far.known_next, (c.loop-statement.invariant.so_far.there, (subst (λ ys. AreSoundStatements (scope_at c.args.scope.now) (statement_list ys)) (rest_is c.args.statements.now c.loop-statement.statement-index c.statement-item.result (omega arith) c.statement-item.is) c.loop-statement.invariant.sound).0)))),
)

pub run_all-loop-statement-preserved : goal.run_all-loop-statement-preserved
run_all-loop-statement-preserved t c =
    let xs = c.args.statements.now in
    let i = c.loop-statement.statement-index in
    let r = c.statement-item.result in
    let rest = rest_is xs i r (omega arith) c.statement-item.is in
    let all : Valuation → Effect = λ v. run_all (scope_at c.args.scope.now) (statement_list xs) v in
    let so = going_as (scope_at c.args.scope.now) (images_at c.args.table.now) (images_at c.args.next.now) c.args.terms.now Always c.args.guard all (images_at c.loop-statement.table) (images_at c.loop-statement.next) c.loop-statement.terms c.args.guard (λ v. run_all (scope_at c.args.scope.now) (statement_list (drop i xs)) v) (λ v. followed_by (run (scope_at c.args.scope.now) (statement_of r) v) (λ u. run_all (scope_at c.args.scope.now) (statement_list (drop (i + 1) xs)) u)) (λ v. ap (λ ys. run_all (scope_at c.args.scope.now) (statement_list ys) v) rest) c.loop-statement.invariant.so_far in
    record {
      so_far = going_then (scope_at c.args.scope.now) (images_at c.args.table.now) (images_at c.args.next.now) c.args.terms.now Always c.args.guard all (images_at c.loop-statement.table) (images_at c.loop-statement.next) (images_at c.run_statement.new.table) (images_at c.run_statement.new.next) c.loop-statement.terms c.run_statement.new.terms c.args.guard
          (λ v. run (scope_at c.args.scope.now) (statement_of r) v) (λ v. run_all (scope_at c.args.scope.now) (statement_list (drop (i + 1) xs)) v) so c.in_ok-run_statement.ensures.grows c.in_ok-run_statement.ensures.ran;
      sound = (subst (λ ys. AreSoundStatements (scope_at c.args.scope.now) (statement_list ys)) rest c.loop-statement.invariant.sound).1;
    }

pub run_all-returns-clause-grows : goal.run_all-returns-clause-grows
run_all-returns-clause-grows t c = c.loop-statement.invariant.so_far.grows

pub run_all-returns-clause-ran : goal.run_all-returns-clause-ran
run_all-returns-clause-ran t c =
    let xs = c.args.statements.now in
    let i = c.loop-statement.statement-index in
    let all : Valuation → Effect = λ v. run_all (scope_at c.args.scope.now) (statement_list xs) v in
    let none = none_left xs i (omega arith) in
    ended (scope_at c.args.scope.now) (images_at c.args.table.now) (images_at c.args.next.now) c.args.terms.now c.args.guard all (images_at c.loop-statement.table) (images_at c.loop-statement.next) c.loop-statement.terms c.args.guard (λ v. run_all (scope_at c.args.scope.now) (statement_list xs) v)
    (going_as (scope_at c.args.scope.now) (images_at c.args.table.now) (images_at c.args.next.now) c.args.terms.now Always c.args.guard all (images_at c.loop-statement.table) (images_at c.loop-statement.next) c.loop-statement.terms c.args.guard (λ v. run_all (scope_at c.args.scope.now) (statement_list (drop i xs)) v) (λ v. unchanged v) (λ v. ap (λ ys. run_all (scope_at c.args.scope.now) (statement_list ys) v) none) c.loop-statement.invariant.so_far)
    (λ v. refl)

pub run_arms-loop-arm-init : goal.run_arms-loop-arm-init
run_arms-loop-arm-init t c =
    record { so_far = λ y. started (scope_at c.args.scope.now) (images_at c.args.table.now) (images_at c.args.next.now) c.args.terms.now Always c.args.guard (λ v. run (scope_at c.args.scope.now) (or_empty (arm_list c.args.arms.now y)) v) c.requires.known c.requires.known_next c.requires.guard; sound = c.requires.sound }

pub run_arms-run_arm-requires : goal.run_arms-run_arm-requires
run_arms-run_arm-requires t c =
    let sound = subst (AreSoundBranches (scope_at c.args.scope.now)) (rest_is c.args.arms.now c.loop-arm.arm-index c.arm-item.result (omega arith) c.arm-item.is) c.loop-arm.invariant.sound in
    let so = c.loop-arm.invariant.so_far None in (
      search (rules, the_lemmas),
      (c.requires.objects, (so.known, (so.known_next, (so.there, (sound.0, sound.1))))),
    )

pub run_arms-loop-arm-preserved : goal.run_arms-loop-arm-preserved
run_arms-loop-arm-preserved t c =
    let xs = c.args.arms.now in
    let i = c.loop-arm.arm-index in
    let r = c.arm-item.result in
    let rest = rest_is xs i r (omega arith) c.arm-item.is in
    record {
      so_far = λ y.
          let all : Valuation → Effect = λ v. run (scope_at c.args.scope.now) (or_empty (arm_list xs y)) v in
          let mid : Valuation → Effect = λ v. cond (is_true (scope_at c.args.scope.now) v (tree_of r.condition)) (run (scope_at c.args.scope.now) (statement_of r.statement) v) (run (scope_at c.args.scope.now) (or_empty (arm_list (drop (i + 1) xs) y)) v) in
          let so = going_as (scope_at c.args.scope.now) (images_at c.args.table.now) (images_at c.args.next.now) c.args.terms.now Always c.args.guard all (images_at c.loop-arm.table) (images_at c.loop-arm.next) c.loop-arm.terms c.loop-arm.rest (λ v. run (scope_at c.args.scope.now) (or_empty (arm_list (drop i xs) y)) v) mid
          (λ v. ap (λ ys. run (scope_at c.args.scope.now) (or_empty (arm_list ys y)) v) rest ∙ run-arm_before (scope_at c.args.scope.now) v (tree_of r.condition) (statement_of r.statement) (arm_list (drop (i + 1) xs) y)) (c.loop-arm.invariant.so_far y) in
          going_on (scope_at c.args.scope.now) (images_at c.args.table.now) (images_at c.args.next.now) (images_at c.loop-arm.table) (images_at c.loop-arm.next) (images_at c.run_arm.new.table) (images_at c.run_arm.new.next) c.args.terms.now c.loop-arm.terms c.run_arm.new.terms Always Always c.args.guard c.loop-arm.rest c.in_ok-rest.rest all mid
          (λ v. run (scope_at c.args.scope.now) (or_empty (arm_list (drop (i + 1) xs) y)) v) (λ p is. is) so (c.in_ok-rest.ensures.going (λ v. run (scope_at c.args.scope.now) (or_empty (arm_list (drop (i + 1) xs) y)) v));
      sound = (subst (AreSoundBranches (scope_at c.args.scope.now)) rest c.loop-arm.invariant.sound).2;
    }

pub run_arms-returns-clause-grows : goal.run_arms-returns-clause-grows
run_arms-returns-clause-grows t c = (c.loop-arm.invariant.so_far None).grows

pub run_arms-returns-in_err-rest-clause-grows : goal.run_arms-returns-in_err-rest-clause-grows
run_arms-returns-in_err-rest-clause-grows t c = Grows-trans (c.loop-arm.invariant.so_far None).grows c.run_arm.ensures.grows

pub run_arms-returns-clause-going : goal.run_arms-returns-clause-going
run_arms-returns-clause-going t c y =
    let xs = c.args.arms.now in
    let i = c.loop-arm.arm-index in
    going_as (scope_at c.args.scope.now) (images_at c.args.table.now) (images_at c.args.next.now) c.args.terms.now Always c.args.guard (λ v. run (scope_at c.args.scope.now) (or_empty (arm_list xs y)) v) (images_at c.loop-arm.table) (images_at c.loop-arm.next) c.loop-arm.terms c.loop-arm.rest (λ v. run (scope_at c.args.scope.now) (or_empty (arm_list (drop i xs) y)) v) (λ v. run (scope_at c.args.scope.now) (or_empty y) v)
    (λ v. ap (λ ys. run (scope_at c.args.scope.now) (or_empty (arm_list ys y)) v) (none_left xs i (omega arith))) (c.loop-arm.invariant.so_far y)

pub run_arm-sides-requires-clause-guard : goal.run_arm-sides-requires-clause-guard
run_arm-sides-requires-clause-guard t c = guard_there c.args.terms.now c.condition.new.terms c.in_ok-said.ensures.grows c.args.guard c.requires.guard

pub run_arm-sides-requires-clause-said : goal.run_arm-sides-requires-clause-said
run_arm-sides-requires-clause-said t c = c.in_ok-said.ensures.condition.of_sort

pub run_arm-run_statement-requires : goal.run_arm-run_statement-requires
run_arm-run_statement-requires t c =
    let grows = Grows-trans c.in_ok-said.ensures.grows c.in_ok-split.ensures.grows in (
      search (rules, the_lemmas),
      (c.requires.objects, (images_kept (scope_at c.args.scope.now) (images_at c.args.table.now) c.args.terms.now c.sides.new.terms grows c.requires.known, (images_kept (scope_at c.args.scope.now) (images_at c.args.next.now) c.args.terms.now c.sides.new.terms grows c.requires.known_next, (c.in_ok-split.ensures.taken_sort, c.requires.sound)))),
    )

pub run_arm-returns-clause-going : goal.run_arm-returns-clause-going
run_arm-returns-clause-going t c rest =
    arm_going (scope_at c.args.scope.now) (images_at c.args.table.now) (images_at c.args.next.now) (images_at c.run_statement.new.table) (images_at c.run_statement.new.next) c.args.terms.now c.condition.new.terms c.sides.new.terms c.run_statement.new.terms Always c.args.guard
    (λ v. is_true (scope_at c.args.scope.now) v (tree_of c.args.arm.now.condition)) c.in_ok-said.said.0
    c.in_ok-split.split.taken c.in_ok-split.split.other (λ v. run (scope_at c.args.scope.now) (statement_of c.args.arm.now.statement) v) rest c.requires.known c.requires.known_next c.requires.guard
    c.in_ok-said.ensures.grows (λ p v is st. c.in_ok-said.ensures.condition.value p v st) c.in_ok-split.ensures.grows c.in_ok-split.ensures.taken c.in_ok-split.ensures.other c.in_ok-split.ensures.other_sort c.in_ok-run_statement.ensures.grows c.in_ok-run_statement.ensures.ran

pub run_case-loop-item-init : goal.run_case-loop-item-init
run_case-loop-item-init t c =
    let grows = c.in_ok-selector.ensures.grows in
    let s = scope_at c.args.scope.now in
    let k = case_kind_of c.args.kind in
    let q = c.in_ok-selector.selector in
    record {
      so_far = λ a rest. started s (images_at c.args.table.now) (images_at c.args.next.now) c.lowered_selector.new.terms (IsWorth c.lowered_selector.new.terms q.id.0 q.width a) c.args.guard
          (λ v. items_effect s (case_kind_of q.kind) q.width q.signed a c.args.items.now v (rest v))
          (images_kept s (images_at c.args.table.now) c.args.terms.now c.lowered_selector.new.terms grows c.requires.known) (images_kept s (images_at c.args.next.now) c.args.terms.now c.lowered_selector.new.terms grows c.requires.known_next)
          (guard_there c.args.terms.now c.lowered_selector.new.terms grows c.args.guard c.requires.guard);
      items = subst (λ z. AreItemsComparable s (case_kind_of z) q.width c.args.items.now) (sym c.in_ok-selector.ensures.kind)
          (items_comparable s k q.width c.args.items.now c.requires.items (items_within s (images_at c.args.table.now) c.lowered_selector.new.terms (tree_of c.args.expression.now) (item_list c.args.items.now) q.width q.signed q.id.0 c.in_ok-selector.ensures.selector));
    }

pub run_case-run_item-requires : goal.run_case-run_item-requires
run_case-run_item-requires t c =
    let so = c.loop-item.invariant.so_far 0 (λ v. unchanged v) in
    let items = subst (λ ys. AreItemsComparable (scope_at c.args.scope.now) (case_kind_of c.in_ok-selector.selector.kind) c.in_ok-selector.selector.width ys) (rest_is c.args.items.now c.loop-item.item-index c.item-item.result (omega arith) c.item-item.is) c.loop-item.invariant.items in (
      search (rules, the_lemmas),
      (c.requires.objects, (so.known, (so.known_next, (so.there, (IsOfSort-kept c.in_ok-selector.selector.id.0 (word c.in_ok-selector.selector.width) so.grows c.in_ok-selector.ensures.selector.lowered.of_sort, items.0))))),
    )

pub run_case-loop-item-preserved : goal.run_case-loop-item-preserved
run_case-loop-item-preserved t c =
    let s = scope_at c.args.scope.now in
    let q = c.in_ok-selector.selector in
    let k = case_kind_of q.kind in
    let xs = c.args.items.now in
    let i = c.loop-item.item-index in
    let r = c.item-item.result in
    let g = c.lowered_selector.new.terms in
    let left = rest_is xs i r (omega arith) c.item-item.is in
    record {
      so_far = λ a rest.
          let all : Valuation → Effect = λ v. items_effect s k q.width q.signed a xs v (rest v) in
          let after : Valuation → Effect = λ v. items_effect s k q.width q.signed a (drop (i + 1) xs) v (rest v) in
          let mid : Valuation → Effect = λ v. item_effect s k q.width q.signed a r v (after v) in
          let before = c.loop-item.invariant.so_far a rest in
          let so = going_as s (images_at c.args.table.now) (images_at c.args.next.now) g (IsWorth g q.id.0 q.width a) c.args.guard all (images_at c.loop-item.table) (images_at c.loop-item.next) c.loop-item.terms c.loop-item.rest
          (λ v. items_effect s k q.width q.signed a (drop i xs) v (rest v)) mid (λ v. ap (λ ys. items_effect s k q.width q.signed a ys v (rest v)) left) before in
          going_on s (images_at c.args.table.now) (images_at c.args.next.now) (images_at c.loop-item.table) (images_at c.loop-item.next) (images_at c.run_item.new.table) (images_at c.run_item.new.next) g c.loop-item.terms c.run_item.new.terms
          (IsWorth g q.id.0 q.width a) (IsWorth c.loop-item.terms q.id.0 q.width a) c.args.guard c.loop-item.rest c.in_ok-rest.rest all mid after
          (λ p is. number_kept q.id.0 q.width p a before.grows c.in_ok-selector.ensures.selector.lowered.of_sort.below is) so (c.in_ok-rest.ensures.going a after);
      items = (subst (λ ys. AreItemsComparable s k q.width ys) left c.loop-item.invariant.items).1;
    }

pub run_case-run_default-requires : goal.run_case-run_default-requires
run_case-run_default-requires t c =
    let so = c.loop-item.invariant.so_far 0 (λ v. unchanged v) in (
      search (rules, the_lemmas),
      (
        c.requires.objects,
        (
          so.known,
          (
            so.known_next,
            (
              so.there,
              subst (λ i. IsSoundStatement (scope_at c.args.scope.now) (item_statement i)) (sym c.index-items-index.is)
                  (item_sound (scope_at c.args.scope.now) (case_kind_of c.args.kind) c.args.items.now c.index-items-index.result c.in-Some.index c.in-Some.ensures.below c.requires.items),
            ),
          ),
        ),
      ),
    )

pub run_case-returns-in_ok-run_default-in-Some-clause-grows : goal.run_case-returns-in_ok-run_default-in-Some-clause-grows
run_case-returns-in_ok-run_default-in-Some-clause-grows t c =
    Grows-trans c.in_ok-selector.ensures.grows (Grows-trans (c.loop-item.invariant.so_far 0 (λ v. unchanged v)).grows c.in_ok-run_default-in-Some.ensures.grows)

pub run_case-returns-in_ok-run_default-in-Some-clause-ran : goal.run_case-returns-in_ok-run_default-in-Some-clause-ran
run_case-returns-in_ok-run_default-in-Some-clause-ran t c =
    let s = scope_at c.args.scope.now in
    let q = c.in_ok-selector.selector in
    let k = case_kind_of c.args.kind in
    let xs = c.args.items.now in
    let e = tree_of c.args.expression.now in
    let a = images_at c.args.table.now in
    let n = images_at c.args.next.now in
    let g = c.lowered_selector.new.terms in
    let r = c.index-items-index.result in
    let f : Valuation → Effect = λ v. run s (case k e (item_list xs)) v in
    let last : Valuation → Effect = λ v. run s (item_statement r) v in
    ran s a n c.args.terms.now c.args.guard f (images_at c.loop-item.table) (images_at c.loop-item.next) (images_at c.run_default.new.table) (images_at c.run_default.new.next) c.loop-item.terms c.run_default.new.terms c.loop-item.rest last f
    (case_going s a n (images_at c.loop-item.table) (images_at c.loop-item.next) c.args.terms.now g c.loop-item.terms c.args.guard c.loop-item.rest k (case_kind_of q.kind) e xs q.width q.signed q.id.0 last
    c.requires.known c.requires.known_next c.requires.guard c.in_ok-selector.ensures.grows (ap case_kind_of c.in_ok-selector.ensures.kind) c.in_ok-selector.ensures.selector (λ b.
    going_as s a n g (IsWorth g q.id.0 q.width b) c.args.guard (λ v. items_effect s (case_kind_of q.kind) q.width q.signed b xs v (last v)) (images_at c.loop-item.table) (images_at c.loop-item.next) c.loop-item.terms c.loop-item.rest
    (λ v. items_effect s (case_kind_of q.kind) q.width q.signed b (drop c.loop-item.item-index xs) v (last v)) (λ v. last v)
    (λ v. ap (λ ys. items_effect s (case_kind_of q.kind) q.width q.signed b ys v (last v)) (none_left xs c.loop-item.item-index (omega arith)))
    (c.loop-item.invariant.so_far b (λ v. last v)))
    (case_with_default s a g k e xs q.width q.signed q.id.0 c.in_ok-selector.ensures.selector c.in-Some.index r c.in-Some.ensures.value c.index-items-index.is))
    c.in_ok-run_default-in-Some.ensures.ran (λ v. refl)

pub run_case-returns-in-None-clause-grows : goal.run_case-returns-in-None-clause-grows
run_case-returns-in-None-clause-grows t c = Grows-trans c.in_ok-selector.ensures.grows (c.loop-item.invariant.so_far 0 (λ v. unchanged v)).grows

pub run_case-returns-in-None-clause-ran : goal.run_case-returns-in-None-clause-ran
run_case-returns-in-None-clause-ran t c =
    let s = scope_at c.args.scope.now in
    let q = c.in_ok-selector.selector in
    let k = case_kind_of c.args.kind in
    let xs = c.args.items.now in
    let e = tree_of c.args.expression.now in
    let a = images_at c.args.table.now in
    let n = images_at c.args.next.now in
    let g = c.lowered_selector.new.terms in
    let f : Valuation → Effect = λ v. run s (case k e (item_list xs)) v in
    ended s a n c.args.terms.now c.args.guard f (images_at c.loop-item.table) (images_at c.loop-item.next) c.loop-item.terms c.loop-item.rest f
    (case_going s a n (images_at c.loop-item.table) (images_at c.loop-item.next) c.args.terms.now g c.loop-item.terms c.args.guard c.loop-item.rest k (case_kind_of q.kind) e xs q.width q.signed q.id.0 (λ v. unchanged v)
    c.requires.known c.requires.known_next c.requires.guard c.in_ok-selector.ensures.grows (ap case_kind_of c.in_ok-selector.ensures.kind) c.in_ok-selector.ensures.selector (λ b.
    going_as s a n g (IsWorth g q.id.0 q.width b) c.args.guard (λ v. items_effect s (case_kind_of q.kind) q.width q.signed b xs v (unchanged v)) (images_at c.loop-item.table) (images_at c.loop-item.next) c.loop-item.terms c.loop-item.rest
    (λ v. items_effect s (case_kind_of q.kind) q.width q.signed b (drop c.loop-item.item-index xs) v (unchanged v)) (λ v. unchanged v)
    (λ v. ap (λ ys. items_effect s (case_kind_of q.kind) q.width q.signed b ys v (unchanged v)) (none_left xs c.loop-item.item-index (omega arith)))
    (c.loop-item.invariant.so_far b (λ v. unchanged v)))
    (case_without_default s a g k e xs q.width q.signed q.id.0 c.in_ok-selector.ensures.selector c.in-None.ensures.value))
    (λ v. refl)

pub run_case-returns-in_err-run_default-in-Some-clause-grows : goal.run_case-returns-in_err-run_default-in-Some-clause-grows
run_case-returns-in_err-run_default-in-Some-clause-grows t c =
    Grows-trans c.in_ok-selector.ensures.grows (Grows-trans (c.loop-item.invariant.so_far 0 (λ v. unchanged v)).grows c.run_default.ensures.grows)

pub run_case-returns-in_err-rest-clause-grows : goal.run_case-returns-in_err-rest-clause-grows
run_case-returns-in_err-rest-clause-grows t c =
    Grows-trans c.in_ok-selector.ensures.grows (Grows-trans (c.loop-item.invariant.so_far 0 (λ v. unchanged v)).grows c.run_item.ensures.grows)

pub run_item-item_matches-requires-clause-values : goal.run_item-item_matches-requires-clause-values
run_item-item_matches-requires-clause-values t c =
    let h = subst (IsComparable (scope_at c.args.scope.now) (case_kind_of c.args.selector.kind) c.args.selector.width) c.in-Values.is c.requires.item in
    subst (AreComparable (scope_at c.args.scope.now) (case_kind_of c.args.selector.kind) c.args.selector.width) (sym c.deref.ensures.value) h.0

pub run_item-sides-requires-clause-guard : goal.run_item-sides-requires-clause-guard
run_item-sides-requires-clause-guard t c = guard_there c.args.terms.now c.item_matches.new.terms c.in_ok-said-in-Values.ensures.grows c.args.guard c.requires.guard

pub run_item-sides-requires-clause-said : goal.run_item-sides-requires-clause-said
run_item-sides-requires-clause-said t c = c.in_ok-said-in-Values.ensures.test.of_sort

pub run_item-run_statement-requires : goal.run_item-run_statement-requires
run_item-run_statement-requires t c =
    let grows = Grows-trans c.in_ok-said-in-Values.ensures.grows c.in_ok-split-in-Values.ensures.grows in
    let h = subst (IsComparable (scope_at c.args.scope.now) (case_kind_of c.args.selector.kind) c.args.selector.width) c.in-Values.is c.requires.item in (
      search (rules, the_lemmas),
      (c.requires.objects, (images_kept (scope_at c.args.scope.now) (images_at c.args.table.now) c.args.terms.now c.sides.new.terms grows c.requires.known, (images_kept (scope_at c.args.scope.now) (images_at c.args.next.now) c.args.terms.now c.sides.new.terms grows c.requires.known_next, (c.in_ok-split-in-Values.ensures.taken_sort, h.1)))),
    )

pub run_item-returns-in_ok-run_statement-in-Values-clause-going : goal.run_item-returns-in_ok-run_statement-in-Values-clause-going
run_item-returns-in_ok-run_statement-in-Values-clause-going t c a rest =
    let s = scope_at c.args.scope.now in
    let q = c.args.selector in
    let k = case_kind_of q.kind in
    let is_match = c.in_ok-said-in-Values.ensures.test in
    let test : Valuation → Bool = λ v. any_matches s v k q.width q.signed a (expressions_of c.in-Values.values.items) in
    let so = arm_going s (images_at c.args.table.now) (images_at c.args.next.now) (images_at c.run_statement.new.table) (images_at c.run_statement.new.next) c.args.terms.now c.item_matches.new.terms c.sides.new.terms c.run_statement.new.terms
    (IsWorth c.args.terms.now q.id.0 q.width a) c.args.guard test c.in_ok-said-in-Values.said.0
    c.in_ok-split-in-Values.split.taken c.in_ok-split-in-Values.split.other (λ v. run s (statement_of c.in-Values.statement) v) rest c.requires.known c.requires.known_next c.requires.guard
    c.in_ok-said-in-Values.ensures.grows (λ p v is st. subst (λ es. HasTruth c.item_matches.new.terms c.in_ok-said-in-Values.said.0 p (any_matches s v k q.width q.signed a (expressions_of es))) c.deref.ensures.value (is_match.value p v a st is))
    c.in_ok-split-in-Values.ensures.grows c.in_ok-split-in-Values.ensures.taken c.in_ok-split-in-Values.ensures.other c.in_ok-split-in-Values.ensures.other_sort c.in_ok-run_statement-in-Values.ensures.grows c.in_ok-run_statement-in-Values.ensures.ran in
    subst (λ i. IsGoing s (images_at c.args.table.now) (images_at c.args.next.now) c.args.terms.now (IsWorth c.args.terms.now q.id.0 q.width a) c.args.guard (λ v. item_effect s k q.width q.signed a i v (rest v))
    (images_at c.run_statement.new.table) (images_at c.run_statement.new.next) c.run_statement.new.terms (Some c.in_ok-split-in-Values.split.other) rest) (sym c.in-Values.is) so

pub run_item-returns-in-Default-clause-grows : goal.run_item-returns-in-Default-clause-grows
run_item-returns-in-Default-clause-grows t c = Grows-refl c.args.terms.now

pub run_item-returns-in-Default-clause-going : goal.run_item-returns-in-Default-clause-going
run_item-returns-in-Default-clause-going t c a rest =
    let s = scope_at c.args.scope.now in
    let q = c.args.selector in
    let k = case_kind_of q.kind in
    subst (λ i. IsGoing s (images_at c.args.table.now) (images_at c.args.next.now) c.args.terms.now (IsWorth c.args.terms.now q.id.0 q.width a) c.args.guard (λ v. item_effect s k q.width q.signed a i v (rest v))
    (images_at c.args.table.now) (images_at c.args.next.now) c.args.terms.now c.args.guard rest) (sym c.in-Default.is)
    (started s (images_at c.args.table.now) (images_at c.args.next.now) c.args.terms.now (IsWorth c.args.terms.now q.id.0 q.width a) c.args.guard rest c.requires.known c.requires.known_next c.requires.guard)

pub run_default-run_statement-requires : goal.run_default-run_statement-requires
run_default-run_statement-requires t c = (
  search (rules, the_lemmas),
  (c.requires.objects, (c.requires.known, (c.requires.known_next, (c.requires.guard, subst (λ i. IsSoundStatement (scope_at c.args.scope.now) (item_statement i)) c.in-Values.is c.requires.sound)))),
)

pub run_default-returns-in_ok-run_statement-in-Values-clause-ran : goal.run_default-returns-in_ok-run_statement-in-Values-clause-ran
run_default-returns-in_ok-run_statement-in-Values-clause-ran t c =
    subst (λ i. Runs (scope_at c.args.scope.now) (images_at c.args.table.now) (images_at c.args.next.now) c.args.terms.now c.args.guard (run (scope_at c.args.scope.now) (item_statement i)) (images_at c.run_statement.new.table) (images_at c.run_statement.new.next) c.run_statement.new.terms)
    (sym c.in-Values.is) c.in_ok-run_statement-in-Values.ensures.ran

pub run_default-run_statement-requires-in-Default : goal.run_default-run_statement-requires-in-Default
run_default-run_statement-requires-in-Default t c = (
  search (rules, the_lemmas),
  (c.requires.objects, (c.requires.known, (c.requires.known_next, (c.requires.guard, subst (λ i. IsSoundStatement (scope_at c.args.scope.now) (item_statement i)) c.in-Default.is c.requires.sound)))),
)

pub run_default-returns-in_ok-run_statement-in-Default-clause-ran : goal.run_default-returns-in_ok-run_statement-in-Default-clause-ran
run_default-returns-in_ok-run_statement-in-Default-clause-ran t c =
    subst (λ i. Runs (scope_at c.args.scope.now) (images_at c.args.table.now) (images_at c.args.next.now) c.args.terms.now c.args.guard (run (scope_at c.args.scope.now) (item_statement i)) (images_at c.run_statement-in-Default.new.table) (images_at c.run_statement-in-Default.new.next) c.run_statement-in-Default.new.terms)
    (sym c.in-Default.is) c.in_ok-run_statement-in-Default.ensures.ran

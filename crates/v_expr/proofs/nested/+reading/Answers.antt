use Rattle.std.proofs.Common.{◌≡◌, ◌∙◌, ◌++◌, ◌∷◌, [], ◌<◌, ◌-◌, sym, ap, subst, map, arith}
use Rattle.std.proofs.lemmas.Result.{err_from_is_err_and}
use Rattle.std.proofs.lemmas.List.{map_push}
use Rattle.verilog_trees.specs.Syntax as tree
use Rattle.verilog_text.specs.Token.{colon}
use Rattle.v_token.specs.View.{tokens_of}
use Rattle.v_syntax.specs.Tree.{tree_of, select_of, selects_of}
use Rattle.v_expr.specs.Reading.{parts_at, select_at, tier_at, conditional_at, expression_at}
use Rattle.v_expr.specs.Starting.{closed_at, chosen_by}
use Rattle.v_expr.specs.View.{Gives, in_front}
use Rattle.v_expr.specs.Flat.{IsFlat, AreFlat, HasFlatChoices}
use Rattle.v_expr.proofs.Flat.{flat-push, choices-push}
use Rattle.v_expr.proofs.Repeat.{some}
use Rattle.v_expr.proofs.Steps as step
use Rattle.v_expr.proofs.nested.+reading.Goals as goal

pub alone-selects-requires : goal.alone-selects-requires
alone-selects-requires t c = (omega (arith, c.decreases), tt)

pub alone-closed-requires : goal.alone-closed-requires
alone-closed-requires t c = (omega (arith, c.decreases), tt)

pub alone-braces-requires : goal.alone-braces-requires
alone-braces-requires t c = (omega (arith, c.decreases), tt)

pub braces-expression-requires : goal.braces-expression-requires
braces-expression-requires t c = (omega (arith, c.decreases), tt)

pub braces-returns-in_err-first-clause-read : goal.braces-returns-in_err-first-clause-read
braces-returns-in_err-first-clause-read t c =
    let p = err_from_is_err_and c.from_residual.result c.from_residual.ensures.1 in
    rw (p.1, p.2) (step.braces-fail c.in_err-first.field-0.0 (expression_at c.args.levels) (tokens_of c.args.tokens.now) c.in_err-first.ensures.read)

pub braces-copied-requires : goal.braces-copied-requires
braces-copied-requires t c = (omega (arith, c.decreases), tt)

pub braces-returns-in_err-parts-in-Some-clause-read : goal.braces-returns-in_err-parts-in-Some-clause-read
braces-returns-in_err-parts-in-Some-clause-read t c =
    let p = err_from_is_err_and c.from_residual-in_err-parts-in-Some.result c.from_residual-in_err-parts-in-Some.ensures.1 in
    rw (p.1, p.2) (step.braces-no_copies c.in_err-parts-in-Some.field-0.0 (expression_at c.args.levels) (tokens_of c.args.tokens.now) (tree_of c.in_ok-first.first) (tokens_of c.in_ok-first.rest.now) (tokens_of c.in-Some.inside.now)
    c.in_ok-first.ensures.read (sym c.in-Some.ensures) c.in_err-parts-in-Some.ensures.read)

pub braces-returns-in_err-rest-in-Some-clause-read : goal.braces-returns-in_err-rest-in-Some-clause-read
braces-returns-in_err-rest-in-Some-clause-read t c =
    let p = err_from_is_err_and c.from_residual-in_err-rest-in-Some.result c.from_residual-in_err-rest-in-Some.ensures.1 in
    rw (p.1, p.2) (step.braces-no_end c.in_err-rest-in-Some.field-0.0 (expression_at c.args.levels) (tokens_of c.args.tokens.now) (tree_of c.in_ok-first.first) (tokens_of c.in_ok-first.rest.now) (tokens_of c.in-Some.inside.now)
    (map tree_of c.in_ok-parts-in-Some.parts.items) (tokens_of c.in_ok-parts-in-Some.rest.now) c.in_ok-first.ensures.read (sym c.in-Some.ensures) c.in_ok-parts-in-Some.ensures.read c.in_err-rest-in-Some.ensures)

pub braces-parts-requires : goal.braces-parts-requires
braces-parts-requires t c = (omega (arith, c.decreases), tt)

pub braces-returns-in_err-parts-in-None-clause-read : goal.braces-returns-in_err-parts-in-None-clause-read
braces-returns-in_err-parts-in-None-clause-read t c =
    let p = err_from_is_err_and c.from_residual-in_err-parts-in-None.result c.from_residual-in_err-parts-in-None.ensures.1 in
    rw (p.1, p.2) (step.braces-lost c.in_err-parts-in-None.field-0.0 (expression_at c.args.levels) (tokens_of c.args.tokens.now) c.in_ok-first.first c.in_ok-first-in-None.first.items (tokens_of c.in_ok-first.rest.now)
    c.in_ok-first-in-None.ensures.made c.in_ok-first.ensures.read (sym c.in-None.ensures) c.in_err-parts-in-None.ensures.read)

pub braces-returns-in_ok-rest-in-Some-clause-read : goal.braces-returns-in_ok-rest-in-Some-clause-read
braces-returns-in_ok-rest-in-Some-clause-read t c =
    step.braces-copied (expression_at c.args.levels) (tokens_of c.args.tokens.now) c.in_ok-first.first c.in_ok-count-in-Some.count.value (tokens_of c.in_ok-first.rest.now) (tokens_of c.in-Some.inside.now)
    c.in_ok-parts-in-Some.parts.items (tokens_of c.in_ok-parts-in-Some.rest.now) (tokens_of c.in_ok-rest-in-Some.rest.now) (tree_of c.replication.result)
    c.in_ok-first.ensures.read (sym c.in-Some.ensures) c.in_ok-parts-in-Some.ensures.read c.in_ok-rest-in-Some.ensures c.in_ok-count-in-Some.ensures.ok c.replication.ensures.made

pub braces-returns-in_ok-parts-in-None-clause-read : goal.braces-returns-in_ok-parts-in-None-clause-read
braces-returns-in_ok-parts-in-None-clause-read t c =
    step.braces-read (expression_at c.args.levels) (tokens_of c.args.tokens.now) c.in_ok-first.first c.in_ok-first-in-None.first.items (tokens_of c.in_ok-first.rest.now)
    c.in_ok-parts-in-None.parts.items (tokens_of c.in_ok-parts-in-None.rest.now) (tree_of c.concatenation.result)
    c.in_ok-first-in-None.ensures.made c.in_ok-first.ensures.read (sym c.in-None.ensures) c.in_ok-parts-in-None.ensures.read c.concatenation.ensures.made

pub closed-expression-read-requires : goal.closed-expression-read-requires
closed-expression-read-requires t c = (omega (arith, c.decreases), tt)

pub closed-returns-clause-read : goal.closed-returns-clause-read
unfolding closed_at
closed-returns-clause-read t c = c.behind_closing.ensures.read (expression_at c.args.levels (tokens_of c.args.tokens.now)) c.expression-read.ensures.read

pub copied-expression-requires : goal.copied-expression-requires
copied-expression-requires t c = (omega (arith, c.decreases), tt)

pub copied-returns-in_err-first-clause-read : goal.copied-returns-in_err-first-clause-read
copied-returns-in_err-first-clause-read t c =
    let p = err_from_is_err_and c.from_residual.result c.from_residual.ensures.1 in
    rw (p.1, p.2) (step.copied-fails c.in_err-first.field-0.0 (expression_at c.args.levels) (tokens_of c.args.tokens.now) c.in_err-first.ensures.read)

pub copied-parts-requires : goal.copied-parts-requires
copied-parts-requires t c = (omega (arith, c.decreases), tt)

pub copied-returns-in_err-parts-clause-read : goal.copied-returns-in_err-parts-clause-read
copied-returns-in_err-parts-clause-read t c =
    let p = err_from_is_err_and c.from_residual-in_err-parts.result c.from_residual-in_err-parts.ensures.1 in
    rw (p.1, p.2) (step.copied-lost c.in_err-parts.field-0.0 (expression_at c.args.levels) (tokens_of c.args.tokens.now) c.in_ok-first.first c.in_ok-first-2.first.items (tokens_of c.in_ok-first.rest.now)
    c.in_ok-first-2.ensures.made c.in_ok-first.ensures.read c.in_err-parts.ensures.read)

pub copied-returns-clause-read : goal.copied-returns-clause-read
copied-returns-clause-read t c =
    step.copied-read (expression_at c.args.levels) (tokens_of c.args.tokens.now) c.in_ok-first.first c.in_ok-first-2.first.items (tokens_of c.in_ok-first.rest.now)
    (map tree_of c.in_ok-parts.parts.items) (tokens_of c.in_ok-parts.rest.now) c.in_ok-first-2.ensures.made c.in_ok-first.ensures.read c.in_ok-parts.ensures.read

pub expression-returns-then-levels-eq0-clause-read : goal.expression-returns-then-levels-eq0-clause-read
expression-returns-then-levels-eq0-clause-read t c = step.no_level c.args.levels (tokens_of c.args.tokens.now) c.if-levels-eq0.true

pub expression-loop-choices-init : goal.expression-loop-choices-init
expression-loop-choices-init t c =
    let h : 0 < c.args.levels = omega arith in
    let start : tokens_of c.in_ok-rest.rest.now ≡ tokens_of c.args.tokens.now = ap tokens_of c.in_ok-rest.ensures.same in (
      (ap (λ cs. chosen_by cs (conditional_at (expression_at (c.args.levels - 1)) (tokens_of c.in_ok-rest.rest.now))) c.new-choices.ensures.items
          ∙ ap (λ ts. chosen_by [] (conditional_at (expression_at (c.args.levels - 1)) ts)) start
          ∙ step.one_level c.args.levels (tokens_of c.args.tokens.now) h),
      subst HasFlatChoices (sym c.new-choices.ensures.items) tt,
    )

pub expression-tier-requires : goal.expression-tier-requires
expression-tier-requires t c = (omega (arith, c.decreases), tt)

pub expression-returns-in_err-condition-clause-read : goal.expression-returns-in_err-condition-clause-read
expression-returns-in_err-condition-clause-read t c =
    let p = err_from_is_err_and c.from_residual-in_err-condition.result c.from_residual-in_err-condition.ensures.1 in
    rw (p.1, p.2) (step.choices-fail c.in_err-condition.field-0.0 (expression_at (c.args.levels - 1)) c.loop-choices.choices.items (tokens_of c.loop-choices.rest.now)
    (expression_at c.args.levels (tokens_of c.args.tokens.now)) c.loop-choices.invariant.0 c.in_err-condition.ensures.read)

pub expression-returns-in-None-clause-read : goal.expression-returns-in-None-clause-read
expression-returns-in-None-clause-read t c =
    step.choices-over (expression_at (c.args.levels - 1)) c.loop-choices.choices.items (tokens_of c.loop-choices.rest.now) (expression_at c.args.levels (tokens_of c.args.tokens.now))
    (tree_of c.in_ok-condition.condition) (tokens_of c.in_ok-condition.after.now) (tree_of c.in_ok-whole-in-None.whole)
    c.loop-choices.invariant.0 c.in_ok-condition.ensures.read (sym c.in-None.ensures) c.in_ok-whole-in-None.ensures.made

pub expression-closed-value-requires : goal.expression-closed-value-requires
expression-closed-value-requires t c = (omega (arith, c.decreases), tt)

pub expression-returns-in_err-choice-in-Some-clause-read : goal.expression-returns-in_err-choice-in-Some-clause-read
expression-returns-in_err-choice-in-Some-clause-read t c =
    let p = err_from_is_err_and c.from_residual-in_err-choice-in-Some.result c.from_residual-in_err-choice-in-Some.ensures.1 in
    rw (p.1, p.2) (step.choices-lost c.in_err-choice-in-Some.field-0.0 (expression_at (c.args.levels - 1)) c.loop-choices.choices.items (tokens_of c.loop-choices.rest.now)
    (expression_at c.args.levels (tokens_of c.args.tokens.now)) (tree_of c.in_ok-condition.condition) (tokens_of c.in_ok-condition.after.now) (tokens_of c.in-Some.inside.now)
    c.loop-choices.invariant.0 c.in_ok-condition.ensures.read (sym c.in-Some.ensures)
    (c.in_err-choice-in-Some.ensures.read (closed_at colon (expression_at (c.args.levels - 1)) (tokens_of c.in-Some.inside.now)) c.closed-value.ensures.read))

pub expression-loop-choices-smaller : goal.expression-loop-choices-smaller
expression-loop-choices-smaller t c =
    step.choices-smaller (c.args.levels - 1) (tokens_of c.loop-choices.rest.now) (tree_of c.in_ok-condition.condition) (tokens_of c.in_ok-condition.after.now) (tokens_of c.in-Some.inside.now)
    c.in_ok-choice-in-Some.choice (tokens_of c.in_ok-choice-in-Some.behind.now) c.in_ok-condition.ensures.read (sym c.in-Some.ensures)
    (c.in_ok-choice-in-Some.ensures.read (closed_at colon (expression_at (c.args.levels - 1)) (tokens_of c.in-Some.inside.now)) c.closed-value.ensures.read)

pub expression-loop-choices-preserved : goal.expression-loop-choices-preserved
expression-loop-choices-preserved t c = (
  (ap (λ cs. chosen_by cs (conditional_at (expression_at (c.args.levels - 1)) (tokens_of c.in_ok-choice-in-Some.behind.now))) c.in_ok-push-in-Some.ensures.items
      ∙ step.choices-on (c.args.levels - 1) c.loop-choices.choices.items (tokens_of c.loop-choices.rest.now) (expression_at c.args.levels (tokens_of c.args.tokens.now))
      (tree_of c.in_ok-condition.condition) (tokens_of c.in_ok-condition.after.now) (tokens_of c.in-Some.inside.now) c.in_ok-choice-in-Some.choice (tokens_of c.in_ok-choice-in-Some.behind.now)
      c.loop-choices.invariant.0 c.in_ok-condition.ensures.read (sym c.in-Some.ensures)
      (c.in_ok-choice-in-Some.ensures.read (closed_at colon (expression_at (c.args.levels - 1)) (tokens_of c.in-Some.inside.now)) c.closed-value.ensures.read)),
  subst HasFlatChoices (sym c.in_ok-push-in-Some.ensures.items) (choices-push c.loop-choices.choices.items c.in_ok-choice-in-Some.choice c.loop-choices.invariant.1 (c.in_ok-choice-in-Some.ensures.flat c.closed-value.ensures.flat c.in_ok-condition.ensures.flat)),
)

pub next-expression-requires : goal.next-expression-requires
next-expression-requires t c = (omega (arith, c.decreases), tt)

pub operand-alone-requires : goal.operand-alone-requires
operand-alone-requires t c = (omega (arith, c.decreases), tt)

pub parts-loop-after-init : goal.parts-loop-after-init
parts-loop-after-init t c = (
  (ap (λ ts. in_front (map tree_of c.args.first.items) (parts_at (expression_at c.args.levels) (tokens_of ts))) c.in_ok-rest.ensures.same),
  (λ h. h),
)

pub parts-returns-in-Some-clause-read : goal.parts-returns-in-Some-clause-read
parts-returns-in-Some-clause-read t c =
    step.parts-over c.args.levels (map tree_of c.loop-after.parts.items) (tokens_of c.loop-after.rest.now) (tokens_of c.in-Some.after.now)
    (in_front (map tree_of c.args.first.items) (parts_at (expression_at c.args.levels) (tokens_of c.args.tokens.now))) (sym c.in-Some.ensures) c.loop-after.invariant.0

pub parts-next-requires : goal.parts-next-requires
parts-next-requires t c = (omega (arith, c.decreases), tt)

pub parts-returns-in_err-part-in-None-clause-read : goal.parts-returns-in_err-part-in-None-clause-read
parts-returns-in_err-part-in-None-clause-read t c =
    let p = err_from_is_err_and c.from_residual-in_err-part-in-None.result c.from_residual-in_err-part-in-None.ensures.1 in
    rw (p.1, p.2) (step.parts-fail c.in_err-part-in-None.field-0.0 c.args.levels (map tree_of c.loop-after.parts.items) (tokens_of c.loop-after.rest.now)
    (in_front (map tree_of c.args.first.items) (parts_at (expression_at c.args.levels) (tokens_of c.args.tokens.now))) (sym c.in-None.ensures) c.loop-after.invariant.0 c.in_err-part-in-None.ensures.read)

pub parts-loop-after-smaller : goal.parts-loop-after-smaller
parts-loop-after-smaller t c =
    step.parts-smaller c.args.levels (tokens_of c.loop-after.rest.now) (tree_of c.in_ok-part-in-None.part) (tokens_of c.in_ok-part-in-None.after.now) c.in_ok-part-in-None.ensures.read

pub parts-loop-after-preserved : goal.parts-loop-after-preserved
parts-loop-after-preserved t c =
    let e : map tree_of c.push.new.self.items ≡ map tree_of c.loop-after.parts.items ++ tree_of c.in_ok-part-in-None.part ∷ [] = rw c.in_ok-push-in-None.ensures.items (map_push _ c.loop-after.parts.items c.in_ok-part-in-None.part) in (
      (ap (λ es. in_front es (parts_at (expression_at c.args.levels) (tokens_of c.in_ok-part-in-None.after.now))) e
          ∙ step.parts-on c.args.levels (map tree_of c.loop-after.parts.items) (tokens_of c.loop-after.rest.now) (tree_of c.in_ok-part-in-None.part) (tokens_of c.in_ok-part-in-None.after.now)
          (in_front (map tree_of c.args.first.items) (parts_at (expression_at c.args.levels) (tokens_of c.args.tokens.now))) (sym c.in-None.ensures) c.in_ok-part-in-None.ensures.read c.loop-after.invariant.0),
      (λ h. subst AreFlat (sym c.in_ok-push-in-None.ensures.items) (flat-push c.loop-after.parts.items c.in_ok-part-in-None.part (c.loop-after.invariant.1 h) c.in_ok-part-in-None.ensures.flat)),
    )

pub select-expression-requires : goal.select-expression-requires
select-expression-requires t c = (omega (arith, c.decreases), tt)

pub select-returns-in_err-first-clause-read : goal.select-returns-in_err-first-clause-read
select-returns-in_err-first-clause-read t c =
    let p = err_from_is_err_and c.from_residual.result c.from_residual.ensures.1 in
    rw (p.1, p.2) (step.select-fails c.in_err-first.field-0.0 (expression_at c.args.levels) (tokens_of c.args.tokens.now) c.in_err-first.ensures.read)

pub select-returns-in-Index-clause-read : goal.select-returns-in-Index-clause-read
select-returns-in-Index-clause-read t c =
    step.select-is (expression_at c.args.levels) (tokens_of c.args.tokens.now) (tree_of c.in_ok-first.first) (tokens_of c.in_ok-first.rest.now) c.in_ok-first.ensures.read
    ∙ c.in-Index.ensures (expression_at c.args.levels) (tree_of c.in_ok-first.first) ∙ ap (λ x. some (tree.index (tree_of x), tokens_of c.in-Index.rest.now)) (sym c.in_ok-first-2.ensures.ok)

pub select-closed-requires : goal.select-closed-requires
select-closed-requires t c = (omega (arith, c.decreases), tt)

pub select-returns-in_err-second-in-Range-clause-read : goal.select-returns-in_err-second-in-Range-clause-read
select-returns-in_err-second-in-Range-clause-read t c =
    let p = err_from_is_err_and c.from_residual-in_err-second-in-Range.result c.from_residual-in_err-second-in-Range.ensures.1 in
    rw (p.1, p.2) (step.range-fails c.in_err-second-in-Range.field-0.0 (expression_at c.args.levels) (tokens_of c.args.tokens.now) c.in-Range.kind (tree_of c.in_ok-first.first) (tokens_of c.in_ok-first.rest.now) (tokens_of c.in-Range.rest.now)
    c.in_ok-first.ensures.read (c.in-Range.ensures (expression_at c.args.levels) (tree_of c.in_ok-first.first)) c.in_err-second-in-Range.ensures.read)

pub select-returns-in-Range-clause-read : goal.select-returns-in-Range-clause-read
select-returns-in-Range-clause-read t c =
    step.range-read (expression_at c.args.levels) (tokens_of c.args.tokens.now) c.in-Range.kind c.in_ok-first.first c.in_ok-first-2.first.value (tokens_of c.in_ok-first.rest.now) (tokens_of c.in-Range.rest.now)
    (tree_of c.in_ok-second-in-Range.second) (tokens_of c.in_ok-second-in-Range.rest.now) (select_of c.in_ok-select-in-Range.select)
    c.in_ok-first.ensures.read (c.in-Range.ensures (expression_at c.args.levels) (tree_of c.in_ok-first.first)) c.in_ok-second-in-Range.ensures.read c.in_ok-first-2.ensures.ok c.in_ok-select-in-Range.ensures.made

pub select-returns-clause-read : goal.select-returns-clause-read
select-returns-clause-read t c =
    step.select-is (expression_at c.args.levels) (tokens_of c.args.tokens.now) (tree_of c.in_ok-first.first) (tokens_of c.in_ok-first.rest.now) c.in_ok-first.ensures.read
    ∙ c.in-Nothing.ensures (expression_at c.args.levels) (tree_of c.in_ok-first.first)

pub selects-select-requires : goal.selects-select-requires
selects-select-requires t c = (omega (arith, c.decreases), tt)

pub selects-select-second-requires : goal.selects-select-second-requires
selects-select-second-requires t c = (omega (arith, c.decreases), tt)

pub selects-returns-in-Some-behind_mark-clause-read : goal.selects-returns-in-Some-behind_mark-clause-read
selects-returns-in-Some-behind_mark-clause-read t c =
    subst (Gives (λ x. (selects_of x.0, tokens_of x.1.now)) c.two_selects.result)
    (sym (step.selects-two (expression_at c.args.levels) (tokens_of c.args.tokens.now) (tokens_of c.in-Some.inside.now) (select_of c.in_ok-first-in-Some.first) (tokens_of c.in_ok-first-in-Some.rest.now)
    (tokens_of c.in-Some-behind_mark.inside.now) (sym c.in-Some.ensures) c.in_ok-first-in-Some.ensures.read (sym c.in-Some-behind_mark.ensures)))
    (c.two_selects.ensures.read (select_at (expression_at c.args.levels) (tokens_of c.in-Some-behind_mark.inside.now)) c.select-second.ensures.read)

pub tier-operand-requires : goal.tier-operand-requires
tier-operand-requires t c = (omega (arith, c.decreases), tt)

pub tier-returns-in_err-first-clause-read : goal.tier-returns-in_err-first-clause-read
tier-returns-in_err-first-clause-read t c =
    let p = err_from_is_err_and c.from_residual.result c.from_residual.ensures.1 in
    rw (p.1, p.2) (step.tier-fails c.in_err-first.field-0.0 c.args.tiers (expression_at c.args.levels) (tokens_of c.args.tokens.now) c.in_err-first.ensures.read)

pub tier-loop-left-init : goal.tier-loop-left-init
tier-loop-left-init t c = (
  (step.tier-begins c.args.tiers (expression_at c.args.levels) (tokens_of c.args.tokens.now) (tree_of c.in_ok-first.first) (tokens_of c.in_ok-first.behind.now) c.in_ok-first.ensures.read),
  c.in_ok-first.ensures.flat,
)

pub tier-returns-in-None-clause-read : goal.tier-returns-in-None-clause-read
tier-returns-in-None-clause-read t c =
    step.tier-over c.args.tiers (expression_at c.args.levels) (tree_of c.loop-left.left) (tokens_of c.loop-left.rest.now)
    (tier_at c.args.tiers (expression_at c.args.levels) (tokens_of c.args.tokens.now)) c.in-None.ensures c.loop-left.invariant.0

pub tier-tier-right-requires : goal.tier-tier-right-requires
tier-tier-right-requires t c = (omega (arith, c.decreases, c.in-Some.ensures.0), tt)

pub tier-returns-in_err-whole-in-Some-clause-read : goal.tier-returns-in_err-whole-in-Some-clause-read
tier-returns-in_err-whole-in-Some-clause-read t c =
    let p = err_from_is_err_and c.from_residual-in_err-whole-in-Some.result c.from_residual-in_err-whole-in-Some.ensures.1 in
    rw (p.1, p.2) (step.tier-lost c.in_err-whole-in-Some.field-0.0 c.args.tiers c.args.levels (tree_of c.loop-left.left) (tokens_of c.loop-left.rest.now) (tokens_of c.in-Some.after.now) c.in-Some.joint
    (tier_at c.args.tiers (expression_at c.args.levels) (tokens_of c.args.tokens.now)) c.in-Some.ensures.0 c.in-Some.ensures.1 c.in-Some.ensures.2 c.loop-left.invariant.0
    (c.in_err-whole-in-Some.ensures.read (tier_at c.in-Some.joint.tier (expression_at c.args.levels) (tokens_of c.in-Some.after.now)) c.tier-right.ensures.read))

pub tier-loop-left-smaller : goal.tier-loop-left-smaller
tier-loop-left-smaller t c =
    step.tier-smaller c.args.levels (tree_of c.loop-left.left) (tokens_of c.loop-left.rest.now) (tokens_of c.in-Some.after.now) c.in-Some.joint (tree_of c.in_ok-whole-in-Some.whole)
    (tokens_of c.in_ok-whole-in-Some.behind.now) c.in-Some.ensures.1 c.in-Some.ensures.2 (c.in_ok-whole-in-Some.ensures.read (tier_at c.in-Some.joint.tier (expression_at c.args.levels) (tokens_of c.in-Some.after.now)) c.tier-right.ensures.read)

pub tier-loop-left-preserved : goal.tier-loop-left-preserved
tier-loop-left-preserved t c = (
  (step.tier-on c.args.tiers c.args.levels (tree_of c.loop-left.left) (tokens_of c.loop-left.rest.now) (tokens_of c.in-Some.after.now) c.in-Some.joint
      (tier_at c.args.tiers (expression_at c.args.levels) (tokens_of c.args.tokens.now)) (tree_of c.in_ok-whole-in-Some.whole) (tokens_of c.in_ok-whole-in-Some.behind.now)
      c.in-Some.ensures.0 c.in-Some.ensures.1 c.in-Some.ensures.2 c.loop-left.invariant.0 (c.in_ok-whole-in-Some.ensures.read (tier_at c.in-Some.joint.tier (expression_at c.args.levels) (tokens_of c.in-Some.after.now)) c.tier-right.ensures.read)),
  c.in_ok-whole-in-Some.ensures.flat c.tier-right.ensures.flat c.loop-left.invariant.1,
)

pub closed-returns-clause-flat : goal.closed-returns-clause-flat
closed-returns-clause-flat t c = c.behind_closing.ensures.flat c.expression-read.ensures.flat

pub copied-returns-clause-flat : goal.copied-returns-clause-flat
copied-returns-clause-flat t c = c.in_ok-parts.ensures.flat (c.in_ok-first-2.ensures.flat c.in_ok-first.ensures.flat)

pub braces-returns-in_ok-rest-in-Some-clause-flat : goal.braces-returns-in_ok-rest-in-Some-clause-flat
braces-returns-in_ok-rest-in-Some-clause-flat t c = c.replication.ensures.flat (subst IsFlat (sym c.in_ok-count-in-Some.ensures.ok) c.in_ok-first.ensures.flat) c.in_ok-parts-in-Some.ensures.flat

pub braces-returns-in_ok-parts-in-None-clause-flat : goal.braces-returns-in_ok-parts-in-None-clause-flat
braces-returns-in_ok-parts-in-None-clause-flat t c = c.concatenation.ensures.flat (c.in_ok-parts-in-None.ensures.flat (c.in_ok-first-in-None.ensures.flat c.in_ok-first.ensures.flat))

pub select-returns-in-Index-clause-flat : goal.select-returns-in-Index-clause-flat
select-returns-in-Index-clause-flat t c = subst IsFlat (sym c.in_ok-first-2.ensures.ok) c.in_ok-first.ensures.flat

pub select-returns-in-Range-clause-flat : goal.select-returns-in-Range-clause-flat
select-returns-in-Range-clause-flat t c = c.in_ok-select-in-Range.ensures.flat (subst IsFlat (sym c.in_ok-first-2.ensures.ok) c.in_ok-first.ensures.flat) c.in_ok-second-in-Range.ensures.flat

pub selects-returns-in-Some-behind_mark-clause-flat : goal.selects-returns-in-Some-behind_mark-clause-flat
selects-returns-in-Some-behind_mark-clause-flat t c = c.two_selects.ensures.flat c.select-second.ensures.flat c.in_ok-first-in-Some.ensures.flat

pub parts-returns-in-Some-clause-flat : goal.parts-returns-in-Some-clause-flat
parts-returns-in-Some-clause-flat t c = c.loop-after.invariant.1

pub tier-returns-in-None-clause-flat : goal.tier-returns-in-None-clause-flat
tier-returns-in-None-clause-flat t c = c.loop-left.invariant.1

pub expression-returns-in-None-clause-flat : goal.expression-returns-in-None-clause-flat
expression-returns-in-None-clause-flat t c = c.in_ok-whole-in-None.ensures.flat c.loop-choices.invariant.1 c.in_ok-condition.ensures.flat

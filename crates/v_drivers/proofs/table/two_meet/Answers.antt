use Rattle.std.proofs.Common.{◌∙◌, ◌+◌, ℕ, List, refl, ap, sym, subst, arith, drop}
use Rattle.std.specs.Prelude.{◌≡◌, ◌||◌}
use Rattle.std.specs.List.{list_any}
use Rattle.std.proofs.lemmas.Bool.{false≢true}
use Rattle.std.proofs.lemmas.List.{at_drop_all}
use Rattle.verilog_meaning.specs.Register.{is_set}
use Rattle.v_value.specs.Scope.{scope_at}
use Rattle.v_masks.specs.Masks.{mask_under}
use Rattle.v_drivers.specs.Lists.{sets_in}
use Rattle.v_drivers.specs.Tables.{span_meets, spans_mask}
use Rattle.v_drivers.proofs.Adding.{no-masks, drivers-at}
use Rattle.v_drivers.proofs.Walking.{IsWalked, walk-begun, walk-found, walk-onward, walk-ended}
use Rattle.v_drivers.proofs.table.two_meet.Goals as goal

pub loop-driver-init : goal.loop-driver-init
loop-driver-init c =
    walk-begun (scope_at c.args.scope.now) (mask_under c.new-table.result) (sets_in c.args.drivers.now) (no-masks c.new-table.result c.new-table.ensures.empty) c.requires.bits

pub returns-then-one_meets : goal.returns-then-one_meets
returns-then-one_meets c =
    let s = scope_at c.args.scope.now in
    let f = mask_under c.loop-driver.table in
    let all = sets_in c.args.drivers.now in
    let r = c.driver-item.result in
    let rest = sets_in (drop (c.loop-driver.driver-index + 1) c.args.drivers.now) in
    let w = subst (IsWalked s f all) (drivers-at c.args.drivers.now c.loop-driver.driver-index r (omega arith) c.driver-item.is) c.loop-driver.invariant in
    ((λ h. walk-found s f all r.items rest w (ap (list_any (span_meets s f)) (sym c.deref.ensures.value) ∙ sym c.one_meets.ensures ∙ c.if-one_meets.true)), (λ t. refl))

pub loop-driver-preserved : goal.loop-driver-preserved
loop-driver-preserved c =
    let s = scope_at c.args.scope.now in
    let f = mask_under c.loop-driver.table in
    let g = mask_under c.add_masks.new.table in
    let all = sets_in c.args.drivers.now in
    let r = c.driver-item.result in
    let rest = sets_in (drop (c.loop-driver.driver-index + 1) c.args.drivers.now) in
    let w = subst (IsWalked s f all) (drivers-at c.args.drivers.now c.loop-driver.driver-index r (omega arith) c.driver-item.is) c.loop-driver.invariant in
    walk-onward s f g all r.items rest w
    (ap (list_any (span_meets s f)) (sym c.deref.ensures.value) ∙ sym c.one_meets.ensures ∙ c.if-one_meets.false)
    (subst (λ ys. (n : List ℕ) (b : ℕ) → is_set (g n) b ≡ (is_set (f n) b || is_set (spans_mask s ys n) b)) c.deref-in-loop-driver.ensures.value c.in_ok-add_masks.ensures)

pub returns : goal.returns
returns c =
    let s = scope_at c.args.scope.now in (
      (λ h. absurd (false≢true h)),
      (λ t. absurd (walk-ended s (mask_under c.loop-driver.table) (sets_in c.args.drivers.now) (sets_in (drop c.loop-driver.driver-index c.args.drivers.now))
          (at_drop_all sets_in c.args.drivers.now c.loop-driver.driver-index c.loop-driver-test.false) c.loop-driver.invariant t)),
    )

use Rattle.std.proofs.Common.{drop}
use Rattle.std.proofs.lemmas.Bool.{false≢true}
use Rattle.std.proofs.lemmas.List.{at_drop_all}
use Rattle.v_value.specs.Scope.{scope_at}
use Rattle.v_masks.specs.Masks.{mask_under}
use Rattle.v_undriven.proofs.Looping.{begun, ended}
use Rattle.v_undriven.proofs.table.one_has_more.Goals as goal

pub loop-span-init : goal.loop-span-init
loop-span-init c = begun (scope_at c.args.scope.now) c.args.names.now c.args.clock.now (mask_under c.args.table.now) c.args.spans.now

pub returns : goal.returns
returns c = (
  (λ h. absurd (false≢true h)),
  (λ h. absurd (ended (scope_at c.args.scope.now) c.args.names.now c.args.clock.now (mask_under c.args.table.now) c.args.spans.now
      (drop c.loop-span.span-index c.args.spans.now) (at_drop_all (λ ys. ys) c.args.spans.now c.loop-span.span-index c.loop-span-test.false) c.loop-span.invariant h)),
)

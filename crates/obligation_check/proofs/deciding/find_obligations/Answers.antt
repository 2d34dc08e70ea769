-- One more is found.
use Rattle.std.proofs.Common.{◌≡◌, ◌∙◌, ◌+◌, length, Some, ap}
use Rattle.std.specs.Prelude.{slice_get}
use Rattle.std.proofs.lemmas.List.{length_push}
use Rattle.ila_model.specs.Model.{model_of}
use Rattle.mapped_designs.specs.View.{mapped_of}
use Rattle.obligation_check.proofs.Verdicts.{element_at, found_more}
use Rattle.obligation_check.proofs.deciding.find_obligations.Goals as goal

pub loop-obligation-preserved : goal.loop-obligation-preserved
loop-obligation-preserved c =
    let inv = c.loop-obligation.invariant in
    let x = c.in_ok-next.next in
    let o = c.obligation-item.result in
    let all = c.args.obligations.now in
    let k = c.loop-obligation.obligation-index in
    let same : length c.loop-obligation.found.items ≡ k = inv.1 in
    let place : slice_get all k ≡ Some o = element_at all k o c.loop-obligation-test.true c.obligation-item.is in (
      c.in_ok-next.ensures.ready,
      ap length c.in_ok-push.ensures.items ∙ (length_push c.loop-obligation.found.items x ∙ ap (λ n. n + 1) same),
      found_more (model_of c.args.model.now) (mapped_of c.args.mapped.now) c.args.budget all c.loop-obligation.found.items c.push.new.self.items o x
          c.in_ok-push.ensures.items (ap (slice_get all) same ∙ place) c.in_ok-next.ensures.found inv.2,
    )

-- One more is found.
use Rattle.std.proofs.Common.{◌≡◌, ◌∙◌, ◌+◌, length, ap, sym, subst}
use Rattle.std.proofs.lemmas.List.{length_push}
use Rattle.ila_model.specs.Model.{model_of}
use Rattle.mapped_designs.specs.View.{mapped_of}
use Rattle.obligation_check.specs.Decided.{IsCoveredBy}
use Rattle.obligation_check.proofs.Verdicts.{covered_more}
use Rattle.obligation_check.proofs.deciding.find_covers.Goals as goal

pub loop-instruction-preserved : goal.loop-instruction-preserved
loop-instruction-preserved c =
    let m = model_of c.args.model.now in
    let e = mapped_of c.args.mapped.now in
    let inv = c.loop-instruction.invariant in
    let x = c.in_ok-next.next in
    let same : length c.loop-instruction.found.items ≡ c.loop-instruction.instruction = inv.1 in (
      c.in_ok-next.ensures.ready,
      ap length c.in_ok-push.ensures.items ∙ (length_push c.loop-instruction.found.items x ∙ ap (λ n. n + 1) same),
      covered_more m e c.args.budget c.loop-instruction.found.items c.push.new.self.items x c.in_ok-push.ensures.items
          (subst (λ k. IsCoveredBy m e c.args.budget k x) (sym same) c.in_ok-next.ensures.cover) inv.2,
    )

use Rattle.std.proofs.Common.{◌≡◌, ◌∙◌, sym, ap, subst, length, arith}
use Rattle.ila_model.specs.Sorted.{IsChildBelow}
use Rattle.ila_model.proofs.Declarations.{IsChildBelow-link}
use Rattle.ila_model.proofs.sorted.are_instructions.Goals as goal

pub child_after-next-requires : goal.child_after-next-requires
child_after-next-requires c =
    let same : length c.deref.result.now ≡ c.len.result = omega (arith, ap length c.deref.ensures.value, c.len.ensures) in
    subst (λ n. IsChildBelow n c.instruction-item.result.child) same
    (IsChildBelow-link c.deref.result.now c.args.at c.loop-instruction.next c.instruction-item.result.child (sym c.is_link.ensures ∙ c.if-not-is_link.false))

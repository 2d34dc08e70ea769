use Rattle.std.proofs.Common.{◌≡◌, ◌∙◌, List, Option, Bool, Some, sym, subst}
use Rattle.gate_base.specs.Circuit.{size}
use Rattle.gate_base.specs.Assumed.{HasWorth, bit_at}
use Rattle.gate_base.specs.declared.bits.Bit.{Bit}
use Rattle.gate_base.proofs.Copying.{like_literal}
use Rattle.gate_base.proofs.assuming.copy_of.Goals as goal

pub returns : goal.returns
returns c circuit wanted h =
    let k = c.args.copier.now in
    let l = c.args.literal in
    let at : bit_at k.copies.items l.var ≡ Some c.in_ok-bit.bit =
    subst (λ (bs : List (Option Bit)). bit_at bs l.var ≡ Some c.in_ok-bit.bit) c.deref.ensures.value (sym c.kept_copy.ensures ∙ c.in_ok-bit.was) in
    let like = h.copies l.var c.in_ok-bit.bit at in
    like_literal circuit k.fresh k.all c.in_ok-bit.bit c.negated_if.result c.settled.result l like c.negated_if.ensures.value
    (c.settled.ensures k.fresh k.all (subst (λ (ts : List (Option Bool)). HasWorth k.fresh k.all ts) (sym c.deref-2.ensures.value) h.worth) (c.negated_if.ensures.known (size k.fresh) like.known))

use Rattle.std.proofs.Common.{◌-◌, length, arith, sym}
use Rattle.std.proofs.lemmas.Bool.{eqb-false}
use Rattle.gate_words.proofs.Signing.{flipped_some}
use Rattle.gate_words.proofs.signed.flipped.Goals as goal

pub returns : goal.returns
returns c =
    let some = eqb-false (length c.args.xs.now) 0 (sym c.if-is_empty.ensures) in
    flipped_some c.args.xs.now c.in_ok-bits.bits.items c.push.new.self.items (length c.args.xs.now - 1) c.negated.result _ (omega (arith, some))
    c.in_ok-bits.ensures c.in_ok-push.ensures.items c.negated.ensures.value c.negated.ensures.known

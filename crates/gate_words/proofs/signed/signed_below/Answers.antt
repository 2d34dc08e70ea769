use Rattle.std.proofs.Common.{◌∙◌, sym, subst}
use Rattle.gate_words.specs.Binary.{AreKnown}
use Rattle.gate_words.specs.Words.{IsFlipped}
use Rattle.gate_words.proofs.Signing.{signed_gives}
use Rattle.gate_words.proofs.signed.signed_below.Goals as goal

pub chained-requires-clause-xs : goal.chained-requires-clause-xs
chained-requires-clause-xs c = subst (AreKnown c.args.circuit.now) (sym c.as_slice.ensures.value) (c.in_ok-first.ensures.known c.args.circuit.now c.requires.xs)

pub chained-requires-clause-ys : goal.chained-requires-clause-ys
chained-requires-clause-ys c = subst (AreKnown c.args.circuit.now) (sym c.as_slice-2.ensures.value) (c.in_ok-second.ensures.known c.args.circuit.now c.requires.ys)

pub returns-clause-below : goal.returns-clause-below
returns-clause-below c =
    signed_gives c.chained.new.circuit c.args.xs.now c.args.ys.now c.as_slice.result.now c.as_slice-2.result.now c.in_ok-chain.chain.bits.items c.in_ok-chain.chain.carry c.requires.width
    (subst (IsFlipped c.args.xs.now) (sym c.as_slice.ensures.value) c.in_ok-first.ensures)
    (subst (IsFlipped c.args.ys.now) (sym c.as_slice-2.ensures.value) c.in_ok-second.ensures) c.in_ok-chain.ensures.chain

use Rattle.std.proofs.Common.{◌∙◌, subst, sym}
use Rattle.gate_words.specs.declared.chains.Cell.TheVariants.{Choose}
use Rattle.gate_words.specs.Cells.{IsChain}
use Rattle.gate_words.proofs.Multiplying.{row_end}
use Rattle.gate_words.proofs.products.with_row.Goals as goal

pub returns-clause-row : goal.returns-clause-row
returns-clause-row c =
    row_end c.chained.new.circuit c.chained-2.new.circuit c.args.sum.now c.args.xs.now c.as_slice.result.now c.as_slice-2.result.now c.as_slice-3.result.now
    c.in_ok-chain.chain.bits.items c.args.chosen c.in_ok-row.row.carry c.in_ok-chain.chain.carry c.args.place c.in_ok-chain.ensures.grows c.requires.width c.requires.place
    (c.as_slice.ensures.value ∙ c.in_ok-moved.ensures) (c.as_slice-2.ensures.value ∙ c.in_ok-nothing.ensures)
    (subst (λ rs. IsChain c.chained.new.circuit Choose c.args.chosen c.as_slice.result.now c.as_slice-2.result.now rs c.in_ok-row.row.carry) (sym c.as_slice-3.ensures.value) c.in_ok-row.ensures.chain) c.in_ok-chain.ensures.chain

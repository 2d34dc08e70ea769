use Rattle.std.proofs.Common.{◌+◌, sym, arith, ◌∙◌, add-one}
use Rattle.ila_sim.proofs.Words.{one_line, further_line, from_there}
use Rattle.ila_sim.proofs.cuts.next_line.Goals as goal

pub returns-then-end-text-clause-lines : goal.returns-then-end-text-clause-lines
returns-then-end-text-clause-lines c = one_line c.args.text.now (sym c.line_length-end.ensures.length ∙ c.if-end-text.true)

pub returns-clause-lines : goal.returns-clause-lines
returns-clause-lines c =
    rw (from_there c.args.text.now (c.line_length-end.result + 1), c.without_last_return.ensures, add-one)
    (further_line c.args.text.now c.line_length-end.result c.line_length-end.ensures.length (omega (arith, c.line_length-end.ensures.within, c.if-end-text.false)))

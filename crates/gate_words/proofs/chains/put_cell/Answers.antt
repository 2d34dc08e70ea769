use Rattle.std.proofs.Common.{refl, sym, subst}
use Rattle.gate_words.specs.Cells.{IsCell}
use Rattle.gate_words.proofs.chains.put_cell.Goals as goal

pub returns-in-Not-clause-cell : goal.returns-in-Not-clause-cell
returns-in-Not-clause-cell c =
    subst (λ k. IsCell c.args.circuit.now k c.args.x c.args.y c.args.carry c.negated.result c.args.carry) (sym c.in-Not.is) (record {
      known_output = c.negated.ensures.known _ c.requires.x;
      known_next = c.requires.carry;
      is_output = λ w f. c.negated.ensures.value w;
      is_next = λ w f. refl;
    })

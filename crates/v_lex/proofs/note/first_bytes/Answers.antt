use Rattle.std.proofs.Common.{arith, sym}
use Rattle.std.proofs.lemmas.List.{length-take-le, take_all}
use Rattle.v_lex.proofs.note.first_bytes.Goals as goal

pub slice_bounds-result-end : goal.slice_bounds-result-end
slice_bounds-result-end c = sym (length-take-le 80 c.args.text.now (omega (arith, c.if-text-le-MOST.false)))

pub returns-then-text-le-MOST : goal.returns-then-text-le-MOST
returns-then-text-le-MOST c = sym (take_all 80 c.args.text.now c.if-text-le-MOST.true)

use Rattle.std.proofs.Common.{◌≡◌, arith, ap, ◌∙◌}
use Rattle.verilog_text.specs.Spelling.{bits_of_base, filled_above}
use Rattle.v_expr.proofs.Digits.{wild_fits}
use Rattle.v_expr.proofs.number.wild.Goals as goal

pub overflow_add-result : goal.overflow_add-result
overflow_add-result c =
    let fits = wild_fits c.args.base c.args.width c.args.text.now c.requires.known c.requires.at_most_128 in
    let above : c.above.result ≡ filled_above (bits_of_base c.args.base) c.args.width c.args.text.now = c.above.ensures ∙ ap (λ bits. filled_above bits c.args.width c.args.text.now) c.bits_of_base.ensures.value in
    omega (arith, fits, above, c.wild_in.ensures)

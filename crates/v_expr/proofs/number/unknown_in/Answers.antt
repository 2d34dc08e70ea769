use Rattle.std.proofs.Common.{◌%◌, ◌^◌, ap, ◌∙◌}
use Rattle.wb_bits.proofs.Powers.{mod-mod_wider}
use Rattle.v_expr.specs.Digits.{standing}
use Rattle.v_expr.proofs.number.unknown_in.Goals as goal

pub returns : goal.returns
unfolding standing
returns c = c.cut.ensures ∙ ap (λ n. n % 2 ^ c.args.width) c.digits.ensures ∙ mod-mod_wider _ c.args.width 128 c.requires.at_most_128

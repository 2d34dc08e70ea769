use Rattle.std.proofs.Common.{◌∙◌, ap, not}
use Rattle.std.specs.Prelude.{◌&&◌}
use Rattle.verilog_meaning.specs.Register.{is_set}
use Rattle.v_masks.specs.Masks.{mask_under}
use Rattle.v_paths.proofs.Tables.{cut-span}
use Rattle.v_paths.proofs.mask.left.Goals as goal

pub returns : goal.returns
returns c =
    let x = c.args.span in
    cut-span x c.with_bits.result (λ q b. not (is_set (mask_under c.args.table.now q) b)) c.with_bits.ensures.name c.with_bits.ensures.from c.with_bits.ensures.to
    (λ b. ap (λ z. is_set z b) c.with_bits.ensures.bits ∙ c.without.ensures b ∙ ap (λ z. is_set x.bits b && not (is_set z b)) c.mask_under.ensures)

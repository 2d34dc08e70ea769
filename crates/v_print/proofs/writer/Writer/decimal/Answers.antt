use Rattle.std.proofs.Common.{◌∷◌, subst}
use Rattle.verilog_text.specs.Token.{decimal}
use Rattle.v_print.specs.Writes.{Writes}
use Rattle.v_print.proofs.Written.{then, decimal_written}
use Rattle.v_print.proofs.writer.Writer.decimal.Goals as goal

pub returns : goal.returns
returns c =
    let written = then c.in_ok-part_from.ensures.reads (decimal_written c.format-text.result.now c.part_from.new.self c.piece.new.self c.in_ok-part_from.ensures.parted c.in_ok-piece.ensures.text c.in_ok-piece.ensures.last) in
    subst (λ t. Writes c.args.self.now c.piece.new.self (λ r. decimal t ∷ r)) c.format-text.ensures.text written

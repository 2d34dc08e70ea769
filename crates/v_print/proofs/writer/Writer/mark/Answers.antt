use Rattle.v_print.proofs.Written.{then, mark_written}
use Rattle.v_token.specs.View.{mark_of}
use Rattle.std.proofs.Common.{◌∙◌}
use Rattle.v_print.proofs.writer.Writer.mark.Goals as goal

pub returns : goal.returns
returns c =
    then c.in_ok-part_from.ensures.reads
    (mark_written (mark_of c.args.mark) c.text_of-text.result.now c.part_from.new.self c.piece.new.self c.text_of-text.ensures c.in_ok-part_from.ensures.parted c.in_ok-piece.ensures.text (c.in_ok-piece.ensures.last ∙ c.class_of.ensures))

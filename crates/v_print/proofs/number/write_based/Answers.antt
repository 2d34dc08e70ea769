use Rattle.std.proofs.Common.{refl}
use Rattle.v_print.specs.Spelled.{based_text}
use Rattle.v_syntax.specs.Tree.{number_of}
use Rattle.v_print.specs.declared.writer.Writer.{Writer}
use Rattle.v_print.specs.declared.last.Last.TheVariants.{Run}
use Rattle.v_print.proofs.Written.{then, based_written}
use Rattle.v_print.proofs.number.write_based.Goals as goal

pub returns : goal.returns
returns c =
    let end : Writer = record c.append_based.new.out { last = Run } in
    then c.in_ok-part_from.ensures.reads
    (based_written (based_text (number_of c.args.number.now)) c.part_from.new.self end c.in_ok-part_from.ensures.parted c.in_ok-append_based.ensures refl)

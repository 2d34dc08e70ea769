use Rattle.std.proofs.Common.{ap, bit_or}
use Rattle.v_paths.proofs.Tables.{span-added}
use Rattle.v_paths.proofs.mask.add_span.Goals as goal

pub returns : goal.returns
returns c =
    span-added c.args.table.now c.insert.new.self c.args.span c.first_word-word.result (bit_or c.mask_under.result c.first_word-word.result)
    c.first_word-word.ensures (ap (λ m. bit_or m c.first_word-word.result) c.mask_under.ensures) c.in_ok-insert.ensures.updates

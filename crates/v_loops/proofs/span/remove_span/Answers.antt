use Rattle.std.proofs.Common.{◌∙◌, ap, not}
use Rattle.std.specs.Prelude.{◌&&◌}
use Rattle.verilog_meaning.specs.Register.{is_set}
use Rattle.v_loops.proofs.Removing.{span-removed}
use Rattle.v_loops.proofs.span.remove_span.Goals as goal

pub returns : goal.returns
returns c =
    span-removed c.args.table.now c.insert.new.self c.args.span c.first_word.result c.without-mask.result c.first_word.ensures
    (λ b. c.without-mask.ensures b ∙ ap (λ m. is_set m b && not (is_set c.first_word.result b)) c.mask_under.ensures) c.in_ok-insert.ensures.updates

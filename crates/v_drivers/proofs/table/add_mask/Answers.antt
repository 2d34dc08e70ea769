use Rattle.std.proofs.Common.{◌∙◌, ap, bit_or}
use Rattle.v_value.specs.Scope.{scope_at}
use Rattle.v_masks.specs.Masks.{mask_under}
use Rattle.v_drivers.proofs.Adding.{mask-added}
use Rattle.v_drivers.proofs.table.add_mask.Goals as goal

pub returns : goal.returns
returns c n b =
    mask-added (scope_at c.args.scope.now) c.args.table.now c.insert.new.self c.args.span (bit_or c.mask_under.result c.span_mask.result)
    (ap (λ m. bit_or m c.span_mask.result) c.mask_under.ensures ∙ ap (bit_or (mask_under c.args.table.now c.args.span.name.now)) c.span_mask.ensures)
    c.in_ok-insert.ensures.updates n b

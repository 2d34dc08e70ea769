use Rattle.std.proofs.Common.{◌≡◌, drop}
use Rattle.std.specs.List.{list_any}
use Rattle.v_masks.specs.Masks.{mask_under}
use Rattle.v_depend.specs.Tables.{span_meets}
use Rattle.v_depend.proofs.read.one_meets.Given as goal

abbrev pub invariant-loop-span : goal.invariant-loop-span
invariant-loop-span l = list_any (span_meets (mask_under l.table)) l.spans ≡ list_any (span_meets (mask_under l.table)) (drop l.span-index l.spans)

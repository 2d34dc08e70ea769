use Rattle.std.proofs.Common.{◌∙◌, ap, map, is_some}
use Rattle.std.specs.List.{list_any}
use Rattle.v_syntax.specs.Source.{item_of}
use Rattle.v_blocks.specs.Blocks.{is_nonblocking_in_combinational}
use Rattle.v_judged.proofs.Listed.{position_so}
use Rattle.v_judged.proofs.blocks.has_nonblocking_in_combinational.Goals as goal

pub returns : goal.returns
returns c =
    c.is_some.ensures ∙ (ap is_some c.first_nonblocking_in_combinational.ensures ∙ (position_so is_nonblocking_in_combinational item_of c.items_of.result.now
    ∙ ap (λ xs. list_any is_nonblocking_in_combinational (map item_of xs)) c.items_of.ensures))

use Rattle.std.proofs.Common.{map}
use Rattle.v_syntax.specs.Source.{source_of}
use Rattle.wb_top.proofs.rtl.of_tree.Goals as goal

pub simulated_rtl-requires : goal.simulated_rtl-requires
simulated_rtl-requires c =
    c.trees_are_of_texts.ensures (map (λ d. d.items) c.args.designs.now)
    (record { source = source_of c.args.tree; top = c.deref.result.now; clock = c.deref-2.result.now }) c.requires

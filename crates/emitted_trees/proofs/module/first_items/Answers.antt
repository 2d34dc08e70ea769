use Rattle.std.proofs.Common.{◌∙◌, ◌++◌, List, map}
use Rattle.verilog_trees.specs.Syntax.{Item}
use Rattle.wb_terms.specs.Graph.{Graph}
use Rattle.emitted_modules.specs.Rtl.{wire_item}
use Rattle.emitted_modules.specs.Nodes.{node_wires}
use Rattle.emitted_names.specs.Ids.{kept_by}
use Rattle.emitted_names.proofs.Turns.{ap2}
use Rattle.emitted_trees.proofs.module.first_items.Goals as goal

pub returns : goal.returns
returns c =
    c.in_ok-items-2.ensures
    ∙ ap2 (λ (xs : List Item) (g : Graph). xs ++ map wire_item (node_wires g (kept_by c.args.keep.now) 0 g.nodes)) c.in_ok-items.ensures c.requires.terms

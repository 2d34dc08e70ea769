use Rattle.std.proofs.Common.{◌∙◌, ◌++◌, ◌∷◌, [], ap, map}
use Rattle.wb_values.specs.Value.{truth}
use Rattle.verilog_trees.specs.Syntax.{conditional}
use Rattle.v_syntax.specs.Tree.{tree_of}
use Rattle.v_syntax.specs.Source.{item_of}
use Rattle.emitted_trees.specs.Items.{wire_named}
use Rattle.emitted_names.proofs.Turns.{ap2}
use Rattle.emitted_trees.proofs.decoding.with_one.Goals as goal

pub returns : goal.returns
returns c =
    c.in_ok-items.ensures
    ∙ ap (λ e. map item_of c.args.items.items ++ wire_named c.args.name.now truth e ∷ [])
    (c.in_ok-value.ensures ∙ ap2 (conditional (tree_of c.args.decode)) c.whole.ensures c.whole-2.ensures)

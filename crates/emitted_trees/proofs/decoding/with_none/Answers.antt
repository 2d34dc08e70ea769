use Rattle.std.proofs.Common.{◌∙◌, ◌++◌, ◌∷◌, [], ap, map}
use Rattle.wb_values.specs.Value.{truth}
use Rattle.verilog_trees.specs.Syntax.{binary, bitwise_and}
use Rattle.v_syntax.specs.Source.{item_of}
use Rattle.emitted_trees.specs.Items.{wire_named}
use Rattle.emitted_names.proofs.Turns.{ap2}
use Rattle.emitted_trees.proofs.decoding.with_none.Goals as goal

pub returns : goal.returns
returns c =
    c.in_ok-items.ensures
    ∙ ap (λ e. map item_of c.args.items.items ++ wire_named c.args.name.now truth e ∷ []) (c.in_ok-value.ensures ∙ ap2 (binary bitwise_and) c.in_ok-not.ensures c.whole.ensures)

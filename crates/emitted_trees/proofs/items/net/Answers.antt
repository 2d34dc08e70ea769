use Rattle.std.proofs.Common.{◌∙◌, ◌∷◌, [], false, ap, map, Option, Some}
use Rattle.verilog_trees.specs.Syntax.{Range, wires}
use Rattle.v_syntax.specs.Tree.{tree_of}
use Rattle.v_syntax.specs.Source.{optional_range_of, boxed_tree_of}
use Rattle.emitted_names.proofs.Turns.{ap2}
use Rattle.emitted_trees.proofs.items.net.Goals as goal

pub returns : goal.returns
returns c =
    ap (λ ws. wires false (optional_range_of c.in_ok-range.range) (map (λ w. (w.name.now, boxed_tree_of w.value)) ws))
    c.in_ok-wires.ensures
    ∙ ap2 (λ (r : Option Range) e. wires false r ((c.args.name.now, Some (tree_of e)) ∷ [])) c.in_ok-range.ensures c.in_ok-value.ensures.ok

use Rattle.std.proofs.Common.{◌∙◌, ◌++◌, ◌∷◌, [], ap}
use Rattle.verilog_trees.specs.Syntax.{concatenation}
use Rattle.v_syntax.specs.Tree.{expressions_of}
use Rattle.emitted_trees.proofs.expressions.pair.Goals as goal

pub returns : goal.returns
returns c =
    c.concatenation.ensures.made
    ∙ ap (λ es. concatenation (expressions_of es)) (c.in_ok-both.ensures ∙ ap (λ es. es ++ c.args.low ∷ []) c.in_ok-first.ensures)

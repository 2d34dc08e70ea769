use Rattle.std.proofs.Common.{[], ◌∷◌}
use Rattle.verilog_meaning.specs.Settled.{Design}
use Rattle.v_syntax.specs.Source.{source_of}
use Rattle.test_judged.proofs.answer_of_tree.Goals as goal

pub design_refusal-requires : goal.design_refusal-requires
design_refusal-requires c =
    let d : Design = record { source = source_of c.args.tree.now; top = 116 ∷ []; clock = 99 ∷ [] } in
    c.trees_are_of_texts.ensures c.requires.0 d c.requires.1

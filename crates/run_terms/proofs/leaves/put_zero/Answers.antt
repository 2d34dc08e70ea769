use Rattle.std.proofs.Common.{◌∙◌, ap}
use Rattle.wb_values.specs.Value.{Sort}
use Rattle.v_design.specs.Parts.{is_word}
use Rattle.run_terms.proofs.Copied.{no_word, input_is_word}
use Rattle.run_terms.proofs.leaves.put_zero.Goals as goal

pub unreachable-requires : goal.unreachable-requires
unreachable-requires c =
    no_word c.name_sort.result c.in_default.not-Word
    (ap (λ (s : Sort). is_word s) c.name_sort.ensures.sort
    ∙ input_is_word c.args.design.now.terms.names c.args.design.now.register_count c.args.name.0 c.args.design.now.words c.requires.from c.requires.below)

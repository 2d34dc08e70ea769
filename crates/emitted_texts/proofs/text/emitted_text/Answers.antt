use Rattle.std.proofs.Common.{◌∙◌, ◌∷◌, [], Bool, false, List, ap, sym, subst}
use Rattle.std.specs.Prelude.{slice_index_or}
use Rattle.std.specs.String.{string_bytes}
use Rattle.v_syntax.specs.Source.{source_of}
use Rattle.verilog_trees.specs.Syntax.{Module}
use Rattle.emitted_modules.specs.Kept.{IsKept}
use Rattle.emitted_texts.proofs.Whole.{text_is}
use Rattle.emitted_texts.proofs.text.emitted_text.Goals as goal

pub returns : goal.returns
returns c =
    text_is (string_bytes c.args.model.now.name) c.args.model.now.parts (λ k. slice_index_or c.as_slice-marks.result.now k false) (source_of c.in_ok-source.source) (string_bytes c.in_ok-text.text)
    c.check_plain.ensures
    (subst (λ (ks : List Bool). IsKept c.args.model.now.parts (λ k. slice_index_or ks k false)) (sym c.as_slice-marks.ensures.value) (c.in_ok-keep.ensures c.requires))
    (c.in_ok-source.ensures ∙ ap (λ (m : Module). m ∷ []) c.in_ok-module.ensures)
    c.in_ok-text.ensures c.flat_models_are_emitted.ensures c.a_source_that_is_read_is_printed_within.ensures

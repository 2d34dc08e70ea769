-- The text that is printed of a model's emitted module.
use Rattle.std.proofs.Common.{◌≡◌, ℕ, Bool, List, [], ◌∷◌, subst}
use Rattle.wb_values.specs.Value.{Name}
use Rattle.verilog_trees.specs.Syntax.{Source}
use Rattle.verilog_text.specs.Grammar.{IsTreeOf}
use Rattle.ila_model.specs.declared.parts.Parts.{Parts}
use Rattle.emitted_modules.specs.Kept.{IsKept}
use Rattle.emitted_modules.specs.Module.{rtl_of, emitted_module}
use Rattle.emitted_modules.specs.Laws.{FlatModelsAreEmitted}
use Rattle.v_print.specs.Printable.{IsPrintableSource}
use Rattle.v_print_source.specs.Shown.{printed_modules}
use Rattle.v_print_source.specs.Limits.{ArePrintedWithin}
use Rattle.emitted_texts.specs.Fitting.{IsPlainModel, EmittedModulesArePrintable, EmittedModulesAreShallow}
use Rattle.emitted_texts.specs.Texts.{IsEmittedText}
use Rattle.emitted_texts.proofs.Legal.{printed_model}
use Rattle.emitted_texts.proofs.Printed.{module_printed}
use Rattle.emitted_texts.proofs.Shallow.{module_shallow}
use Rattle.emitted_texts.proofs.Flat.{module_flat}
use Rattle.emitted_texts.proofs.Childless.{flat}

pub modules_are_printable : EmittedModulesArePrintable
modules_are_printable name p keep h = module_printed name p keep (printed_model name p h)

pub modules_are_shallow : EmittedModulesAreShallow
unfolding printed_modules
modules_are_shallow name p keep h c = module_shallow (rtl_of name p keep) (modules_are_printable name p keep h) (module_flat name p keep) c

pub text_is : (name : Name) (p : Parts) (keep : ℕ → Bool) (ms : Source) (text : List ℕ) → IsPlainModel name p → IsKept p keep → ms ≡ emitted_module name p keep ∷ []
    → (IsPrintableSource ms → ArePrintedWithin ms → IsTreeOf (text ∷ []) ms) → FlatModelsAreEmitted
    → ((files : List (List ℕ)) (ns : Source) → IsTreeOf files ns → ArePrintedWithin ns) → IsEmittedText name p text
text_is name p keep ms text h kept is printed emitted within =
    let printable : IsPrintableSource (emitted_module name p keep ∷ []) = (modules_are_printable name p keep h, tt) in
    record {
      keep = keep;
      is_kept = kept;
      is_emitted = emitted name p keep (flat name p h) kept;
      is_printable = printable;
      is_read = λ w.
          subst (λ (ns : Source). IsPrintableSource ns → ArePrintedWithin ns → IsTreeOf (text ∷ []) ns) is printed printable
          (record { are_few = w; are_shallow = modules_are_shallow name p keep h });
      is_within = λ r. (within (text ∷ []) (emitted_module name p keep ∷ []) r).are_few;
    }

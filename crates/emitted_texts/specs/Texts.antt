-- What it is that a text is that of a model's emitted module.
use Rattle.std.specs.Prelude.{ℕ, ◌≤◌, Bool, false, List, [], ◌∷◌, length}
use Rattle.wb_values.specs.Value.{Name}
use Rattle.verilog_text.specs.Text.{most_tokens}
use Rattle.verilog_text.specs.Grammar.{IsTreeOf}
use Rattle.verilog_trees.specs.Syntax.{Module}
use Rattle.ila_model.specs.declared.parts.Parts.{Parts}
use Rattle.ila_model.specs.Meaning.{model_from}
use Rattle.emitted_designs.specs.Emits.{IsEmittedModule}
use Rattle.emitted_modules.specs.Kept.{IsKept}
use Rattle.emitted_modules.specs.Module.{emitted_module}
use Rattle.v_print.specs.Printable.{IsPrintableSource}
use Rattle.v_print_source.specs.Shown.{printed_modules}

-- A source of the module alone has no more printed tokens than files may have.
abbrev pub HasFewTokens : Module → Type 0
HasFewTokens x = length (printed_modules false (x ∷ []) []) ≤ most_tokens

-- The text of the source that is the emitted module alone, with a wire for each term that is kept, and the module is an emitted design of the
-- model. It reads as that source exactly where the source has no more printed tokens than files may have.
pub record IsEmittedText (name : Name) (p : Parts) (text : List ℕ) : Type 0 where
  pub keep : ℕ → Bool
  pub is_kept : IsKept p keep
  pub is_emitted : IsEmittedModule (model_from name p) (emitted_module name p keep)
  pub is_printable : IsPrintableSource (emitted_module name p keep ∷ [])
  pub is_read : HasFewTokens (emitted_module name p keep) → IsTreeOf (text ∷ []) (emitted_module name p keep ∷ [])
  pub is_within : IsTreeOf (text ∷ []) (emitted_module name p keep ∷ []) → HasFewTokens (emitted_module name p keep)

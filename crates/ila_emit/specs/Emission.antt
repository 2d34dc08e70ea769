-- What is emitted for a model: the text of a design and that of its map.
use Rattle.std.specs.Prelude.{◌≡◌, ℕ, ◌<◌, ⊤, List, [], ◌∷◌, Result, Ok, Err}
use Rattle.std.specs.String.{string_bytes}
use Rattle.model_meaning.specs.Model.{Model}
use Rattle.verilog_trees.specs.Syntax.{Module}
use Rattle.verilog_text.specs.Grammar.{IsTreeOf}
use Rattle.emitted_designs.specs.Bounds.{nesting_of}
use Rattle.emitted_designs.specs.Map.{written_map, map_text}
use Rattle.emitted_designs.specs.Emits.{IsEmittedModule}
use Rattle.emitted_texts.specs.Texts.{HasFewTokens}
use Rattle.ila_emit.specs.declared.emission.Emitted.{Emitted}
use Rattle.ila_emit.specs.declared.stop.EmitStop.{EmitStop}
use Rattle.ila_emit.specs.declared.stop.EmitStop.TheVariants.{NotYet, NoMemory}

-- The text is that of a single module, which is an emitted design of the model. It reads as that module where the module has no more printed
-- tokens than files may have.
pub record IsEmittedText (m : Model) (text : List ℕ) : Type 0 where
  pub of_module : Module
  pub is_emitted : IsEmittedModule m of_module
  pub is_read : HasFewTokens of_module → IsTreeOf (text ∷ []) (of_module ∷ [])

-- What is answered for a model: the texts of a design and of its map, or that the model has child programs, which are not emitted yet. (That
-- memory ran out says nothing of the model.)
abbrev pub IsEmission : Model → Result Emitted EmitStop → Type 0
IsEmission m (Ok e) =
    (nesting_of m.top ≡ 0) × IsEmittedText m (string_bytes e.verilog) × (string_bytes e.map ≡ map_text (written_map m))
IsEmission m (Err NotYet) = 0 < nesting_of m.top
IsEmission m (Err NoMemory) = ⊤

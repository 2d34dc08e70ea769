-- A model and a design have one limit.
use Rattle.std.specs.Prelude.{◌≡◌, Option, IsTrue}
use Rattle.model_meaning.specs.Model.{Model}
use Rattle.verilog_meaning.specs.Settled.{Design}
use Rattle.verilog_designs.specs.Accepted.{IsAccepted}
use Rattle.verilog_exists.specs.Exists.{IsOfText}
use Rattle.v_design.specs.Parts.{Parts, registers_of, are_bits_for}
use Rattle.v_design.specs.Design.{IsDesignOf}
use Rattle.check_limits.specs.Limits.{Limit, IsLimit}

-- They are parts of a design, with the bits of each register.
pub record ArePartsOf (d : Design) (e : Parts) : Type 0 where
  pub is_design : IsDesignOf d e
  pub counting : IsTrue (are_bits_for (registers_of e) e.bits)

-- Whichever parts stand for an accepted design, whose tree is that of a text, a model has the same limit with them.
abbrev pub OneLimit : Type 0
OneLimit =
    (d : Design) (m : Model) (e f : Parts) (k l : Option Limit) → IsAccepted d → IsOfText d → ArePartsOf d e → ArePartsOf d f → IsLimit m e k → IsLimit m f l
    → k ≡ l

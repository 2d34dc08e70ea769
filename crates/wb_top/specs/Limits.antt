-- The limits of a check.
use Rattle.std.specs.Prelude.{Option, IsTrue}
use Rattle.refinement.specs.Map.{Setting, design_of}
use Rattle.v_design.specs.Parts.{Parts, registers_of, are_bits_for}
use Rattle.v_design.specs.Design.{IsDesignOf}
use Rattle.check_limits.specs.Limits.{Limit, IsLimit}

-- The limit that a setting is over, or None where it is over none: by its model and the parts of its design. Each register has the bits
-- that count of it, so each memory of the design is there with all of its words.
pub record IsLimitOf (s : Setting) (limit : Option Limit) : Type 0 where
  pub parts : Parts
  pub is_design : IsDesignOf (design_of s) parts
  pub counting : IsTrue (are_bits_for (registers_of parts) parts.bits)
  pub is_limit : IsLimit s.model parts limit

-- What holds between the parts of a target that are written from the right.
use Rattle.std.specs.Prelude.{◌≡◌, ℕ, ◌%◌, ◌^◌, Bool, cond, List, Option}
use Rattle.wb_values.specs.Value.{Valuation}
use Rattle.verilog_meaning.specs.Expression.{Scope}
use Rattle.verilog_meaning.specs.Statement.{written}
use Rattle.wb_terms.specs.Graph.{Graph}
use Rattle.wb_terms.specs.declared.nodes.TermId.{TermId}
use Rattle.v_operators.specs.Meaning.{Grows, HasNumber}
use Rattle.v_lower.specs.Lowered.{Images, HasImages, StandsFor}
use Rattle.v_write.specs.declared.part.Part.{Part}
use Rattle.v_write.specs.Parts.{places_meant, counts, HaveIndexes}
use Rattle.v_write.specs.Guard.{Guards}
use Rattle.v_write.specs.Written.{AreOfNames}

-- Of all parts those in the second list are written, with the lowest bits of the number.
pub record IsWriting (s : Scope) (a : Images) (g : Graph) (guard : Option TermId) (qs : List Part) (number w : ℕ) (rest : List Part) (low : ℕ) (b : Images) (h : Graph) : Type 0 where
  pub grows : Grows g h
  pub known : HasImages s b h
  pub names : AreOfNames a b
  pub lowest : low ≡ counts rest
  pub stands : (p v : Valuation) (x : ℕ) (c : Bool) → StandsFor s a g p v → HaveIndexes g p qs → HasNumber g number w p x → Guards g p guard c
      → StandsFor s b h p (cond c (written s v (places_meant s g p rest) (x % 2 ^ low)) v)

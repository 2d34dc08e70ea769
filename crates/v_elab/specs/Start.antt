-- The tables of terms with which evaluation begins: what is given to the names of a module, and what its registers hold before the edge.
use Rattle.std.specs.Prelude.{◌≡◌, ℕ, Bool, List, Some}
use Rattle.wb_values.specs.Value.{Name}
use Rattle.verilog_trees.specs.Syntax.{Statement}
use Rattle.verilog_meaning.specs.Expression.{Scope}
use Rattle.wb_terms.specs.Graph.{Graph}
use Rattle.v_lower.specs.Lowered.{Images, IsImage}
use Rattle.v_elab.specs.Kept.{IsKept, IsWorth}

-- Each term of the first table is worth what is given to its name, and each of the second what counts of its name, all else 0.
pub record IsStart (s : Scope) (clocked : List Statement) (is_given : Name → Bool) (g : Graph) (a n : Images) : Type 0 where
  pub image : (m : Name) (id : ℕ) → a m ≡ Some id → IsImage s g m id × IsWorth s clocked g (is_given m) m id
  pub next_image : (m : Name) (id : ℕ) → n m ≡ Some id → IsImage s g m id × IsKept s clocked g m id

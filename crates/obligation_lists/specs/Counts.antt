-- What the obligations of a model take from a map.
use Rattle.std.specs.Prelude.{◌≡◌, length, map}
use Rattle.model_meaning.specs.Model.{Model, instruction_name, instructions_in}
use Rattle.refinement.specs.Map.{Map}
use Rattle.refinement.specs.Obligation.{bound_named}
use Rattle.obligation_lists.specs.declared.claims.MapCounts.{MapCounts}

-- These are the map's numbers, and its bounds in the order of the model's instructions.
pub record AreCountsOf (m : Model) (p : Map) (counts : MapCounts) : Type 0 where
  pub reset_cycles : p.reset_cycles ≡ counts.reset_cycles
  pub assume : length p.assume ≡ counts.assume
  pub invariants : length p.invariants ≡ counts.invariants
  pub bounds : map (λ i. bound_named p (instruction_name i)) (instructions_in m.top) ≡ counts.bounds.now

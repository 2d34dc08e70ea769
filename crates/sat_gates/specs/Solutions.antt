-- What the solutions are of a formula that encodes a term.
use Rattle.std.specs.Prelude.{◌≡◌, ◌↔◌, Bool, false, List, length}
use Rattle.wb_values.specs.Value.{truth_value, Valuation}
use Rattle.model_meaning.specs.Term.{Term, val}
use Rattle.sat_base.specs.Formula.{Formula, Satisfies}
use Rattle.sat_gates.specs.Encodes.{Variables, GivesSorts, RestrictsTo}

-- the assignment gives each variable of the formula a value, satisfies it, and restricts to the valuation
pub record Falsifies (f : Formula) (m : Variables) (t : Term) (v : Valuation) (a : List Bool) : Type 0 where
  pub whole : length a ≡ f.vars
  pub satisfies : Satisfies a f
  pub restricts : RestrictsTo m a v t

-- The term is false under a valuation exactly where some satisfying assignment restricts to it, and then exactly one does.
pub record HasSolutions (f : Formula) (m : Variables) (t : Term) : Type 0 where
  pub some : (v : Valuation) → GivesSorts v t → (val t v ≡ truth_value false) ↔ ((a : List Bool) × Falsifies f m t v a)
  pub one : (v : Valuation) (a b : List Bool) → Falsifies f m t v a → Falsifies f m t v b → a ≡ b

-- Which premise fails at a cycle, by what the map's conditions are there.
use Rattle.std.specs.Prelude.{ℕ, suc, Bool, true, false, cond, ◌&&◌, nat_lt, List, [], ◌∷◌, Option, Some, None}
use Rattle.wb_values.specs.Value.{Value, as_truth}
use Rattle.v_design.specs.Parts.{Parts, value_in}
use Rattle.mapped_designs.specs.Mapped.{Mapped}
use Rattle.watched_runs.specs.Premises.{Premise, of_reset, of_assumption, of_flight}

-- whether a condition holds at these registers and inputs
abbrev pub holding : Parts → (rs is : List Value) → ℕ → Bool
holding d rs is id = as_truth (value_in d rs is id)

-- the first condition that does not hold, by its number, the first one's given
abbrev pub first_broken : (ℕ → Bool) → ℕ → List ℕ → Option ℕ
first_broken f k [] = None
first_broken f k (id ∷ ids) = cond (f id) (first_broken f (suc k) ids) (Some k)

-- after the reset: an assumption that does not hold, or else a start inside a command
abbrev pub after_reset : Option ℕ → (inside : Bool) → Option Premise
after_reset (Some k) inside = Some (of_assumption k)
after_reset None true = Some of_flight
after_reset None false = None

-- Whether reset is active, whether the cycle is one of the reset, the first assumption that does not hold, and whether there is a start
-- inside a command say which premise fails first.
abbrev pub failing : (active resetting : Bool) → Option ℕ → (inside : Bool) → Option Premise
failing true true broken inside = None
failing false true broken inside = Some of_reset
failing true false broken inside = Some of_reset
failing false false broken inside = after_reset broken inside

-- the premise that fails first at cycle t, where the conditions are these, inside a command or not
abbrev pub failing_at : Mapped → (ℕ → Bool) → (t : ℕ) → (running : Bool) → Option Premise
failing_at e f t running = failing (f e.reset) (nat_lt t e.reset_cycles) (first_broken f 0 e.assume) (running && f e.start)

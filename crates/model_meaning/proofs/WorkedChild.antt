-- The points that the multiplier's child goes through.
use Rattle.std.proofs.Common.{◌≡◌, ℕ, zero, suc, refl, inl, inr, lit≤, lit<}
use Rattle.std.specs.Prelude.{codes}
use Rattle.wb_values.specs.Value.{Valuation, number, Entries}
use Rattle.model_meaning.specs.Term.{Term}
use Rattle.model_meaning.specs.Model.{Machine, Instruction, instruction, Child, no_child, child, updated, entered, left_behind, states_of, point_of}
use Rattle.model_meaning.specs.Instruction.{Steps, own_states, HasTrouble, too_long, stuck}
use Rattle.model_meaning.specs.Worked.{multiplier, multiply, step_instruction, product, factors, always, low}

-- the updates of an instruction, and the states of its child
abbrev updates : Instruction → Entries Term
updates (instruction called decode update program) = update

abbrev program_of : Instruction → Child
program_of (instruction called decode update program) = program

abbrev inside : Child → Machine → Machine
inside no_child m = m
inside (child steps m) other = m

abbrev start : Term → ℕ → Valuation
start decode steps = point_of (multiplier decode steps) (product 0) (factors 3 5)

abbrev begun : Term → ℕ → Valuation
begun decode steps = updated (updates (multiply decode steps)) (start decode steps)

abbrev private_states : Term → ℕ → Machine
private_states decode steps = inside (program_of (multiply decode steps)) (multiplier decode steps).top

-- the point after so many steps of the child
abbrev at_step : Term → ℕ → ℕ → Valuation
at_step decode steps zero = entered (states_of (private_states decode steps)) (begun decode steps)
at_step decode steps (suc k) = updated (updates (step_instruction decode)) (at_step decode steps k)

abbrev after : Valuation
after = left_behind (states_of (private_states always 4)) (begun always 4) (at_step always 4 4)

pub product_of_three_and_five : (r : Valuation) × Steps (multiplier always 4) (product 0) (factors 3 5) r × (r (codes "p") ≡ number 15)
product_of_three_and_five = (
  own_states (multiplier always 4) after,
  (
    after,
    (
      refl,
      inl (
        refl,
        tt,
        (
          4,
          lit≤ tt,
          at_step always 4 4,
          (
            at_step always 4 1,
            (refl, inl (refl, tt, refl)),
            (
              at_step always 4 2,
              (refl, inl (refl, tt, refl)),
              (at_step always 4 3, (refl, inl (refl, tt, refl)), (at_step always 4 4, (refl, inl (refl, tt, refl)), refl)),
            ),
          ),
          refl,
          refl,
        ),
      ),
    ),
    refl,
  ),
  refl,
)

pub still_valid : HasTrouble (multiplier always 3) (multiply always 3) (product 0) (factors 3 5) (too_long 1)
still_valid = (
  3,
  at_step always 3 3,
  (
    at_step always 3 1,
    (refl, inl (refl, tt, refl)),
    (at_step always 3 2, (refl, inl (refl, tt, refl)), (at_step always 3 3, (refl, inl (refl, tt, refl)), refl)),
  ),
  refl,
  inl (refl, refl),
)

pub stuck_at_third : HasTrouble (multiplier low 4) (multiply low 4) (product 0) (factors 3 5) (stuck 1 2)
stuck_at_third = (
  2,
  at_step low 4 2,
  (at_step low 4 1, (refl, inl (refl, tt, refl)), (at_step low 4 2, (refl, inl (refl, tt, refl)), refl)),
  refl,
  inr (lit< tt, inr (inr (refl, refl))),
)

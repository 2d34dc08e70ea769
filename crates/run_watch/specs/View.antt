-- What the code's answers stand for, and the values of a script.
use Rattle.std.specs.Prelude.{ℕ, zero, suc, List, [], ◌∷◌}
use Rattle.wb_values.specs.Value.{Value}
use Rattle.watched_runs.specs.Premises.{Premise, of_reset, of_assumption, of_flight}
use Rattle.watched_runs.specs.Disagreements.{Disagreement, initial_value, no_step, past_bound, other_state}
use Rattle.watched_runs.specs.Watched.{Watched, agrees, outside, disagrees}
use Rattle.v_design.specs.declared.values.Registers.{Registers}
use Rattle.v_design.specs.declared.values.Inputs.{Inputs}
use Rattle.v_design.specs.Parts.{Parts}
use Rattle.v_design.specs.Seen.{register_values, input_values}
use Rattle.mapped_designs.specs.Runs.{Values, zero_inputs}
use Rattle.run_watch.specs.declared.answers.Premise as code_premise
use Rattle.run_watch.specs.declared.answers.Disagreement as code_disagreement
use Rattle.run_watch.specs.declared.answers.Watched as code_watched
use Rattle.run_watch.specs.declared.answers.Premise.TheVariants.{Reset, Assume, Flight}
use Rattle.run_watch.specs.declared.answers.Disagreement.TheVariants.{InitialValue, NoStep, PastBound, OtherState}
use Rattle.run_watch.specs.declared.answers.Watched.TheVariants.{Agrees, Outside, Disagrees}

abbrev pub premise_of : code_premise.Premise → Premise
premise_of Reset = of_reset
premise_of (Assume k) = of_assumption k
premise_of Flight = of_flight

abbrev pub disagreement_of : code_disagreement.Disagreement → Disagreement
disagreement_of (InitialValue k) = initial_value k
disagreement_of NoStep = no_step
disagreement_of (PastBound j) = past_bound j
disagreement_of (OtherState k) = other_state k

abbrev pub watched_of : code_watched.Watched → Watched
watched_of (Agrees n) = agrees n
watched_of (Outside t p) = outside t (premise_of p)
watched_of (Disagrees t d) = disagrees t (disagreement_of d)

-- the inputs of the cycle at a place of a script, and after the script's end inputs that are 0
abbrev pub inputs_among : Parts → List Inputs → ℕ → List Value
inputs_among d [] t = zero_inputs d
inputs_among d (i ∷ is) zero = input_values i
inputs_among d (i ∷ is) (suc t) = inputs_among d is t

-- The values of a script: its first registers, and the inputs of its cycles.
abbrev pub values_of_script : Parts → Registers → List Inputs → Values
values_of_script d r is = record { first = register_values r; inputs = inputs_among d is }

-- What settings make of values, and what the text of a run tells.
use Rattle.std.specs.Prelude.{ℕ, ◌≡◌, Vec, List, [], ◌∷◌, ◌++◌, map, slice_set, slice_index_or}
use Rattle.std.specs.Global.{Global}
use Rattle.wb_values.specs.Value.{Sort, Value, number, Entries, Valuation}
use Rattle.model_meaning.specs.Model.{StateDeclaration, InputDeclaration, Model}
use Rattle.scripts.specs.Script.{Settable, settable, settables_of, Script, zero_value, with_word, inputs_of}
use Rattle.model_meaning.specs.Outcome.{Outcome}
use Rattle.scripts.specs.Simulation.{AreOutcomes, IsSimulation, state_text, simulation_text}
use Rattle.ila_child.specs.declared.stepping.Stepped.{Stepped}
use Rattle.ila_child.specs.declared.stepping.Stepped.TheVariants.{Next}
use Rattle.ila_sim.specs.declared.set.Set.{Set}
use Rattle.ila_sim.specs.Lines.{sets_view}

-- The values, one word of one of them set.
abbrev pub with_set : List Value → Set → List Value
with_set xs s = slice_set xs s.place (with_word (slice_index_or xs s.place (number 0)) s.word s.value)

abbrev pub with_all : List Value → List Set → List Value
with_all xs [] = xs
with_all xs (s ∷ ss) = with_all (with_set xs s) ss

-- names of these sorts as a script sets them
abbrev pub settables_by : Entries Sort → List Settable
settables_by = map (λ e. settable e.0 e.1)

abbrev pub zero_values : List InputDeclaration → List Value
zero_values = map (λ i. zero_value i.sort)

-- the values of the states behind a step
abbrev pub values_after : List Value → Stepped → List Value
values_after q (Next j r) = r
values_after q _ = q

-- The text tells a run of the model from the state under these inputs.
abbrev pub IsToldFrom : Model → Valuation → List Valuation → List ℕ → Type 0
IsToldFrom m q ws text = (os : List Outcome) × AreOutcomes m q ws os × (text ≡ simulation_text m os)

-- The text tells what the model does under the script.
abbrev pub IsTold : Model → Script → List ℕ → Type 0
IsTold m script text = (os : List Outcome) × IsSimulation m script os × (text ≡ simulation_text m os)

-- the inputs that lines give, one after the other
abbrev pub inputs_from : Model → List (Vec Set Global) → List Valuation
inputs_from m lines = map (inputs_of m) (map (λ ss. sets_view (settables_of m).inputs ss.items) lines)

-- the text of states with these values; a state without one is shown as 0
abbrev pub values_text : List StateDeclaration → List Value → List ℕ
values_text [] xs = []
values_text (s ∷ ss) [] = state_text s.state_name (number 0) ++ values_text ss []
values_text (s ∷ ss) (x ∷ xs) = state_text s.state_name x ++ values_text ss xs

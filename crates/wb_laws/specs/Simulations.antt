-- What a model does at a state under inputs is one thing, and a simulation is a run of the model.
use Rattle.std.specs.Prelude.{◌≡◌, List, [], ◌∷◌}
use Rattle.wb_values.specs.Value.{Valuation}
use Rattle.model_meaning.specs.Model.{Model}
use Rattle.model_meaning.specs.Instruction.{IsModelRun}
use Rattle.scripts.specs.Script.{Script}
use Rattle.model_meaning.specs.Outcome.{Outcome, IsOutcome, state_after}
use Rattle.scripts.specs.Simulation.{AreOutcomes, IsSimulation}

-- The causes of the outcomes exclude each other: at a state under inputs one outcome has its cause, with one instruction, one next
-- state and one trouble.
abbrev pub OutcomeIsUnique : Type 0
OutcomeIsUnique = (m : Model) (q w : Valuation) (a b : Outcome) → IsOutcome m q w a → IsOutcome m q w b → a ≡ b

-- There is such an outcome at each state under inputs, whatever the model is. So what a step answers is a function of the state and
-- the inputs.
abbrev pub OutcomeExists : Type 0
OutcomeExists = (m : Model) (q w : Valuation) → (o : Outcome) × IsOutcome m q w o

-- So a script has one simulation.
abbrev pub SimulationIsUnique : Type 0
SimulationIsUnique = (m : Model) (script : Script) (os ps : List Outcome) → IsSimulation m script os → IsSimulation m script ps → os ≡ ps

abbrev pub SimulationExists : Type 0
SimulationExists = (m : Model) (script : Script) → (os : List Outcome) × IsSimulation m script os

-- the states behind the outcomes
abbrev pub states_behind : Valuation → List Outcome → List Valuation
states_behind q [] = []
states_behind q (o ∷ os) = state_after q o ∷ states_behind (state_after q o) os

-- The states behind outcomes are those of a run of the model: where there is an outcome other than a next state, the model has no
-- next state, and the state stays.
abbrev pub SimulationIsARun : Type 0
SimulationIsARun = (m : Model) (q : Valuation) (ws : List Valuation) (os : List Outcome) → AreOutcomes m q ws os → IsModelRun m q ws (states_behind q os)

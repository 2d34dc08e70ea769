-- What a watch finds at a cycle, for each setting and run that it is of.
use Rattle.std.specs.Prelude.{◌≡◌, ◌≢◌, ℕ, suc, ◌<◌, ◌≤◌, Bool, true, false, List, slice_get, length, Option, Some, None, ⊤}
use Rattle.wb_values.specs.Value.{Value, Valuation}
use Rattle.model_meaning.specs.Model.{Model, Instruction, StateDeclaration, states_of}
use Rattle.model_meaning.specs.Instruction.{IsInstruction, DecodesAt, IsStarted, NoneDecodesAt, Steps}
use Rattle.refinement.specs.Map.{Setting}
use Rattle.refinement.specs.Run.{Run}
use Rattle.refinement.specs.Refinement.{state_at}
use Rattle.ila_child.specs.State.{IsStateOf, state_valuation}
use Rattle.watched_runs.specs.Premises.{Premise, PremiseFails, IsFirstFailing}
use Rattle.watched_runs.specs.Disagreements.{Disagreement, DisagreesAt, StandsBefore}
use Rattle.watch_laws.specs.Positions.{WatchPosition, in_reset, idle, running, IsWatchedTo}
use Rattle.mapped_designs.specs.Mapped.{Mapped}
use Rattle.run_watch.specs.declared.answers.Premise as code_premise
use Rattle.run_watch.specs.declared.answers.Disagreement as code_disagreement
use Rattle.run_watch.specs.declared.answers.Watched as code_watched
use Rattle.run_watch.specs.declared.answers.Watched.TheVariants.{Disagrees}
use Rattle.run_watch.specs.declared.standing.WatchPosition as code_position
use Rattle.run_watch.specs.declared.standing.WatchPosition.TheVariants.{Reset, Idle, Running}
use Rattle.run_watch.specs.declared.standing.Turn.{Turn}
use Rattle.run_watch.specs.declared.standing.Turn.TheVariants.{Differs, Goes}
use Rattle.run_watch.specs.declared.standing.Begun.{Begun}
use Rattle.run_watch.specs.declared.standing.Other.{Other}
use Rattle.run_watch.specs.Comparing.{IsFirstDifference}
use Rattle.run_watch.specs.View.{premise_of, disagreement_of}

-- ---- a step of the model

-- the first instruction that decodes, if one does
abbrev pub IsFirstDecoding : Model → (q w : Valuation) → Option ℕ → Type 0
IsFirstDecoding m q w (Some j) = (i : Instruction) × IsInstruction m j i × DecodesAt m q w i
IsFirstDecoding m q w None = NoneDecodesAt m q w

-- the instruction that starts, if one does
abbrev pub IsStart : Model → (q w : Valuation) → Option ℕ → Type 0
IsStart m q w (Some j) = IsStarted m q w j
IsStart m q w None = ¬ ((j : ℕ) × IsStarted m q w j)

-- The instruction that starts at the mapped state a, and the state to which the model goes from its own state q, if there are both.
abbrev pub IsBegun : Model → (a q w : Valuation) → Option Begun → Type 0
IsBegun m a q w (Some b) = IsStarted m a w b.instruction × Steps m q w (state_valuation m b.next) × IsStateOf m b.next
IsBegun m a q w None = ¬ (((j : ℕ) × IsStarted m a w j) × ((r : Valuation) × Steps m q w r))

-- ---- the mapped state and the model's

-- the mapped state, which is the model's or another one
abbrev pub mapped_or : List Value → Option Other → List Value
mapped_or q None = q
mapped_or q (Some o) = o.mapped

-- another state is of the model, and differs from its state first at the place that it notes
abbrev pub DiffersFirst : Model → List Value → Option Other → Type 0
DiffersFirst m q None = ⊤
DiffersFirst m q (Some o) = IsStateOf m o.mapped × IsFirstDifference o.mapped q (Some o.place)

-- ---- where the watch stands

abbrev pub position_of : Model → code_position.WatchPosition → WatchPosition
position_of m Reset = in_reset
position_of m (Idle n q) = idle n (state_valuation m q)
position_of m (Running n b j r) = running n b j (state_valuation m r)

-- Before cycle t no more than t commands have ended, the state is one of the model, and there is such an instruction.
abbrev pub IsPosition : Model → Mapped → ℕ → code_position.WatchPosition → Type 0
IsPosition m e t Reset = ⊤
IsPosition m e t (Idle n q) = (n ≤ t) × IsStateOf m q
IsPosition m e t (Running n b j r) = (n ≤ t) × (j < length e.instructions) × IsStateOf m r

abbrev pub NoneFails : Setting → Run → ℕ → Type 0
NoneFails s run t = (which : Premise) → ¬ PremiseFails s run t which

-- the premise that fails first at cycle t, if one does
abbrev pub IsFailure : Setting → Run → ℕ → Option code_premise.Premise → Type 0
IsFailure s run t None = NoneFails s run t
IsFailure s run t (Some p) = IsFirstFailing s run t (premise_of p)

-- ---- what is found at a cycle

-- Each cut of the run that goes on past cycle t disagrees there so, and so first.
pub record IsFirstInside (s : Setting) (run : Run) (t : ℕ) (which : Disagreement) : Type 0 where
  pub now : (cycles : ℕ) → t < cycles → DisagreesAt s run cycles t which
  pub first : (cycles : ℕ) (other : Disagreement) → StandsBefore other which → ¬ DisagreesAt s run cycles t other

-- The run that is cut to t cycles disagrees at cycle t so, and so first.
pub record IsFirstAtEnd (s : Setting) (run : Run) (t : ℕ) (which : Disagreement) : Type 0 where
  pub now : DisagreesAt s run t t which
  pub first : (other : Disagreement) → StandsBefore other which → ¬ DisagreesAt s run t t other

-- what the run that is cut to t cycles disagrees in at cycle t, if it does
abbrev pub IsLast : Setting → Run → ℕ → Option code_disagreement.Disagreement → Type 0
IsLast s run t None = (which : Disagreement) → ¬ DisagreesAt s run t t which
IsLast s run t (Some d) = IsFirstAtEnd s run t (disagreement_of d)

-- At a cycle at which no premise fails the run disagrees, or the watch goes on.
abbrev pub IsTurnOf : Model → Setting → Run → ℕ → Turn → Type 0
IsTurnOf m s run t (Differs d) = IsFirstInside s run t (disagreement_of d)
IsTurnOf m s run t (Goes p) = IsWatchedTo s run (suc t) (position_of m p)

-- the position to which it goes is sound
abbrev pub IsSoundTurn : Model → Mapped → ℕ → Turn → Type 0
IsSoundTurn m e t (Differs d) = ⊤
IsSoundTurn m e t (Goes p) = IsPosition m e (suc t) p

-- ---- which state differs

-- a state at a place of the model's order has at cycle t another value than in q; or the same
pub record IsOtherAt (s : Setting) (run : Run) (t : ℕ) (q : Valuation) (k : ℕ) : Type 0 where
  pub state : StateDeclaration
  pub is_state : slice_get (states_of s.model.top) k ≡ Some state
  pub differs : state_at s run t state.state_name ≢ q state.state_name

abbrev pub IsSameAt : Setting → Run → ℕ → Valuation → ℕ → Type 0
IsSameAt s run t q k = (d : StateDeclaration) → slice_get (states_of s.model.top) k ≡ Some d → state_at s run t d.state_name ≡ q d.state_name

-- the first state that differs at cycle t from q, if one does
abbrev pub IsFirstOther : Setting → Run → ℕ → Valuation → Option ℕ → Type 0
IsFirstOther s run t q None = (k : ℕ) → IsSameAt s run t q k
IsFirstOther s run t q (Some k) = IsOtherAt s run t q k × ((l : ℕ) → l < k → IsSameAt s run t q l)

abbrev pub place_in : Option Other → Option ℕ
place_in None = None
place_in (Some o) = Some o.place

-- a mapped state, noted where it is another one than q
abbrev pub IsOtherOf : (q mapped : List Value) → Option Other → Type 0
IsOtherOf q a None = a ≡ q
IsOtherOf q a (Some o) = (o.mapped ≡ a) × IsFirstDifference a q (Some o.place)

-- ---- answers

abbrev pub is_running_in : code_position.WatchPosition → Bool
is_running_in Reset = false
is_running_in (Idle n q) = false
is_running_in (Running n b j r) = true

abbrev pub ended_by : code_position.WatchPosition → ℕ
ended_by Reset = 0
ended_by (Idle n q) = n
ended_by (Running n b j r) = n

-- what the run that ends at cycle t disagrees in there, if it does, else another answer
abbrev pub answer_at : ℕ → Option code_disagreement.Disagreement → code_watched.Watched → code_watched.Watched
answer_at t (Some d) other = Disagrees t d
answer_at t None other = other

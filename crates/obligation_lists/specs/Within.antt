-- What facts and hypotheses speak of is there: places of the model and the map, and no cycle after the last.
use Rattle.std.specs.Prelude.{◌≡◌, ℕ, ◌<◌, ◌≤◌, List, [], ◌∷◌, Some, option_map, slice_get, length, ⊤}
use Rattle.model_meaning.specs.Model.{Model, states_of, instructions_in}
use Rattle.obligation_lists.specs.declared.claims.StateAt.{StateAt}
use Rattle.obligation_lists.specs.declared.claims.Fact.{Fact}
use Rattle.obligation_lists.specs.declared.claims.Fact.TheVariants.{ResetActive, ResetInactive, Assumed, Invariant, Start, NoStart, Decoded, Commit, NoCommit, Initial, Same, OneDecodes, Ends, ResultOf, Never}
use Rattle.obligation_lists.specs.declared.claims.Hypotheses.{Hypotheses}
use Rattle.obligation_lists.specs.declared.claims.Hypotheses.TheVariants.{Reset, Idle, Started, StartedBy, NotEnded, EndedAt}
use Rattle.obligation_lists.specs.declared.claims.Obligation.{Obligation}
use Rattle.obligation_lists.specs.declared.claims.MapCounts.{MapCounts}

-- Each element of a list is such.
abbrev pub Each : {A : Type 0} → (A → Type 0) → List A → Type 0
Each P [] = ⊤
Each P (x ∷ xs) = P x × Each P xs

-- The model's state at the place has the name.
abbrev pub IsStateIn : Model → StateAt → Type 0
IsStateIn m s = option_map (λ d. d.state_name) (slice_get (states_of m.top) s.place) ≡ Some s.name.now

abbrev pub IsInstructionPlace : Model → ℕ → Type 0
IsInstructionPlace m j = j < length (instructions_in m.top)

-- A fact about cycles up to the last one speaks of states, instructions, assumptions and invariants that are there.
abbrev pub IsFactOf : Model → MapCounts → (last : ℕ) → Fact → Type 0
IsFactOf m counts last (ResetActive t) = t ≤ last
IsFactOf m counts last (ResetInactive t) = t ≤ last
IsFactOf m counts last (Assumed k t) = (k < counts.assume) × (t ≤ last)
IsFactOf m counts last (Invariant k t) = (k < counts.invariants) × (t ≤ last)
IsFactOf m counts last (Start t) = t ≤ last
IsFactOf m counts last (NoStart t) = t ≤ last
IsFactOf m counts last (Decoded j) = IsInstructionPlace m j
IsFactOf m counts last (Commit j t) = IsInstructionPlace m j × (t ≤ last)
IsFactOf m counts last (NoCommit j t) = IsInstructionPlace m j × (t ≤ last)
IsFactOf m counts last (Initial s t) = IsStateIn m s × (t ≤ last)
IsFactOf m counts last (Same s) = IsStateIn m s × (1 ≤ last)
IsFactOf m counts last OneDecodes = ⊤
IsFactOf m counts last (Ends j) = IsInstructionPlace m j
IsFactOf m counts last (ResultOf j s t) = IsInstructionPlace m j × IsStateIn m s × (t ≤ last)
IsFactOf m counts last Never = ⊤

-- the same of hypotheses
abbrev pub AreHypothesesOf : Model → MapCounts → (last : ℕ) → Hypotheses → Type 0
AreHypothesesOf m counts last Reset = counts.reset_cycles ≤ last
AreHypothesesOf m counts last Idle = ⊤
AreHypothesesOf m counts last Started = ⊤
AreHypothesesOf m counts last (StartedBy j) = IsInstructionPlace m j
AreHypothesesOf m counts last (NotEnded j n) = IsInstructionPlace m j × (n ≤ last)
AreHypothesesOf m counts last (EndedAt j c) = IsInstructionPlace m j × (c < last)

-- An obligation speaks of no cycle after its last.
abbrev pub IsObligationOf : Model → MapCounts → Obligation → Type 0
IsObligationOf m counts o = AreHypothesesOf m counts o.cycles o.hypotheses × IsFactOf m counts o.cycles o.claim

-- What the values of a run show of hypotheses: all of them, or which is the first that they do not show.
use Rattle.std.specs.Prelude.{◌≡◌, ℕ, List, [], ◌∷◌, take, slice_get, Option, Some, None, ⊤}
use Rattle.model_meaning.specs.Model.{Model}
use Rattle.obligation_lists.specs.declared.claims.Fact.{Fact as CodeFact}
use Rattle.obligation_lists.specs.declared.claims.Fact.TheVariants.{ResetActive, ResetInactive, Assumed, Invariant, Start, NoStart, Decoded, Commit, NoCommit, Initial, Same, OneDecodes, Ends, ResultOf, Never}
use Rattle.refinement.specs.Obligation.{Fact}
use Rattle.mapped_designs.specs.Mapped.{Mapped}
use Rattle.mapped_designs.specs.Runs.{Values, Shows, ShowsAll}
use Rattle.shown_facts.specs.Noted.{IsReadAt}

-- the cycle besides cycle 0 of whose states and invariants a claim speaks
abbrev pub later_of : CodeFact → ℕ
later_of (ResetActive t) = 0
later_of (ResetInactive t) = 0
later_of (Assumed k t) = 0
later_of (Invariant k t) = t
later_of (Start t) = 0
later_of (NoStart t) = 0
later_of (Decoded j) = 0
later_of (Commit j t) = 0
later_of (NoCommit j t) = 0
later_of (Initial s t) = t
later_of (Same s) = 1
later_of OneDecodes = 0
later_of (Ends j) = 0
later_of (ResultOf j s t) = t
later_of Never = 0

-- what facts say of states and invariants, they say of cycles that are noted
abbrev pub AreReadAt : (later : ℕ) → List Fact → Type 0
AreReadAt later [] = ⊤
AreReadAt later (fact ∷ facts) = IsReadAt later fact × AreReadAt later facts

-- All are shown; or the one at a place, counted from 0, is the first that is not.
abbrev pub IsFirstFailing : Model → Mapped → Values → List Fact → Option ℕ → Type 0
IsFirstFailing m e x facts None = ShowsAll m e x facts
IsFirstFailing m e x facts (Some k) = ShowsAll m e x (take k facts) × (fact : Fact) × (slice_get facts k ≡ Some fact) × ¬ Shows m e x fact

-- The decisions of a trail, by their places, counted from the newest entry, which is 0.
use Rattle.std.specs.Prelude.{◌≡◌, ℕ, ◌+◌, ◌<◌, ◌≤◌, List, Some, None, IsSome, slice_get}
use Rattle.sat_solve.specs.declared.trail.Entry.{Entry}

-- the entry of this place has been decided
abbrev pub IsDecisionAt : List Entry → ℕ → Type 0
IsDecisionAt trail k = (e : Entry) × (slice_get trail k ≡ Some e) × (e.reason ≡ None)

-- from one place on, up to another that is not meant, each entry has a reason
abbrev pub IsUndecided : List Entry → (from to : ℕ) → Type 0
IsUndecided trail from to = (k : ℕ) (e : Entry) → from ≤ k → k < to → slice_get trail k ≡ Some e → IsSome e.reason

-- the place is the one right below the last decision: what stands from there on is of lower levels
pub record IsBelowLevel (trail : List Entry) (start : ℕ) : Type 0 where
  pub place : ℕ
  pub is : start ≡ place + 1
  pub decided : IsDecisionAt trail place
  pub newer : IsUndecided trail 0 place

-- some entry has the clause of this number as its reason
abbrev pub IsReasonIn : List Entry → ℕ → Type 0
IsReasonIn trail r = (k : ℕ) × (e : Entry) × (slice_get trail k ≡ Some e) × (e.reason ≡ Some r)

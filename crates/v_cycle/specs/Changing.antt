-- Numbers stored in values, one after the other.
use Rattle.std.specs.Prelude.{◌≡◌, ◌==◌, ℕ, zero, suc, true, List, [], ◌∷◌, slice_set}
use Rattle.wb_values.specs.Value.{Value, truth_value, number, words}
use Rattle.v_cycle.specs.declared.changes.Stored.{Stored}
use Rattle.v_cycle.specs.declared.changes.Change.{Change}
use Rattle.v_cycle.specs.declared.changes.Changes.{Changes}

-- a value with a number stored: at an address of a memory, else as all of it
abbrev pub stored_in : Value → Stored → Value
stored_in (truth_value b) s = truth_value (s.number == 1)
stored_in (number n) s = number s.number
stored_in (words ws) s = words (slice_set ws s.address s.number)

-- a value with numbers stored, the last one first
abbrev pub stored_by : Value → List Stored → Value
stored_by x [] = x
stored_by x (s ∷ ss) = stored_in (stored_by x ss) s

-- values with a number stored in the one at a place
abbrev pub changed : List Value → ℕ → Stored → List Value
changed [] k s = []
changed (x ∷ xs) zero s = stored_in x s ∷ xs
changed (x ∷ xs) (suc k) s = x ∷ changed xs k s

-- the same for numbers, the last one first
abbrev pub changed_at : List Value → ℕ → List Stored → List Value
changed_at xs k [] = xs
changed_at xs k (s ∷ ss) = changed (changed_at xs k ss) k s

-- values after changes, the first one first
abbrev pub changed_by : List Value → List Change → List Value
changed_by xs [] = xs
changed_by xs (c ∷ cs) = changed_by (changed xs c.register c.stored) cs

-- Where all changes are listed, they make these values of those.
abbrev pub IsListed : Changes → (before after : List Value) → Type 0
IsListed c xs ys = c.is_complete ≡ true → ys ≡ changed_by xs c.list.items

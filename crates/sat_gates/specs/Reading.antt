-- Values that are read from an assignment.
use Rattle.std.specs.Prelude.{◌≡◌, ℕ, ◌+◌, ◌<◌, ◌^◌, Bool, false, List, length, map, replicate, ⊤, Option, Some, None, Contains}
use Rattle.wb_values.specs.Value.{Sort, truth, word, memory, Value, truth_value, number, words, Entries, Valuation}
use Rattle.sat_base.specs.Formula.{variable_value}
use Rattle.sat_gates.specs.Encodes.{Writes}
use Rattle.sat_gates.specs.Layout.{bit_count, variables_from}
use Rattle.sat_gates.specs.Used.{entry_at}

-- the variables of a value of the sort, from the first one on, are below a bound
abbrev pub FitsBelow : ℕ → Option ℕ → Sort → Type 0
FitsBelow n (Some first) s = first + bit_count s < n
FitsBelow n None s = ⊤

-- the zero of a sort: false, 0, or a memory of zeros
abbrev pub zero_of : Sort → Value
zero_of truth = truth_value false
zero_of (word w) = number 0
zero_of (memory a d) = words (replicate (2 ^ a) 0)

-- Where there are variables, they write the value, and else it is the zero of its sort. A memory has no variables.
abbrev pub IsRead : List Bool → Option ℕ → Sort → Value → Type 0
IsRead a (Some first) (memory d e) x = ⊤
IsRead a (Some first) s x = Writes s x (map (variable_value a) (variables_from first (bit_count s)))
IsRead a None s x = x ≡ zero_of s

-- The valuation has the zero of its sort for each of the declared names that does not stand among others.
abbrev pub IsZeroElsewhere : Entries Sort → Entries Sort → Valuation → Type 0
IsZeroElsewhere names stand v = (j : ℕ) → j < length names → ¬ Contains stand (entry_at names j) → v (entry_at names j).0 ≡ zero_of (entry_at names j).1

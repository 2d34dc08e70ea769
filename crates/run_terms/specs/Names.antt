-- The names of a store of a run, and the values of the run that a valuation of them gives.
use Rattle.std.specs.Prelude.{ℕ, zero, suc, ◌+◌, ◌*◌, ◌<◌, cond, nat_lt, List, [], ◌∷◌, ◌++◌, length, decimal}
use Rattle.wb_values.specs.Value.{Sort, Value, Entries, Valuation, HasSort}
use Rattle.term_copies.specs.Copies.{declared_at}
use Rattle.v_design.specs.Parts.{Parts, registers_of, inputs_of}
use Rattle.mapped_designs.specs.Runs.{Values, zero_inputs}

-- names that are numbers, from k on, with the sorts of these entries
abbrev pub numbered : ℕ → Entries Sort → Entries Sort
numbered k [] = []
numbered k (n ∷ ns) = (decimal k, n.1) ∷ numbered (suc k) ns

-- entries so many times, one time after another
abbrev pub repeated : ℕ → Entries Sort → Entries Sort
repeated zero es = []
repeated (suc n) es = es ++ repeated n es

-- The names of a run of so many cycles: a number for each register, and then for each input at each cycle.
abbrev pub names_of_run : Parts → (cycles : ℕ) → Entries Sort
names_of_run d cycles = numbered 0 (registers_of d ++ repeated cycles (inputs_of d))

-- the values of the names that are numbers from k on
abbrev pub values_from : ℕ → Entries Sort → Valuation → List Value
values_from k [] v = []
values_from k (n ∷ ns) v = v (decimal k) ∷ values_from (suc k) ns v

-- the number of the first input of cycle t
abbrev pub first_input : Parts → ℕ → ℕ
first_input d t = length (registers_of d) + t * length (inputs_of d)

-- The values of a run of so many cycles. Inputs after the last cycle are 0.
abbrev pub values_of_run : Parts → (cycles : ℕ) → Valuation → Values
values_of_run d cycles v = record {
  first = values_from 0 (registers_of d) v;
  inputs = λ t. cond (nat_lt t cycles) (values_from (first_input d t) (inputs_of d) v) (zero_inputs d);
}

-- The valuation gives each name a value of its sort.
abbrev pub FitsNames : Entries Sort → Valuation → Type 0
FitsNames ns v = (k : ℕ) → k < length ns → HasSort (v (declared_at ns k).0) (declared_at ns k).1

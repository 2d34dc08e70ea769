-- Which variables of a formula are the bits of which registers and inputs.
use Rattle.std.specs.Prelude.{ℕ, zero, suc, ◌+◌, ◌^◌, nat_lt, cond, List, [], ◌∷◌, length, Option, Some, None, option_map, slice_index_or}
use Rattle.wb_values.specs.Value.{Name, same_name, Sort, word, memory, Entries}
use Rattle.reports.specs.Encoding.{BitMap}
use Rattle.sat_gates.specs.Layout.{variables_of_sort}
use Rattle.ob_mem.specs.Words.{entry_at, starts_of}
use Rattle.v_design.specs.Parts.{Parts, registers_of, inputs_of}
use Rattle.run_terms.specs.Names.{names_of_run, first_input}

-- the first place of a name
abbrev pub place_of : Entries Sort → Name → Option ℕ
place_of [] n = None
place_of (e ∷ es) n = cond (same_name e.0 n) (Some 0) (option_map suc (place_of es n))

-- The variables of word k of a value of the sort, whose own name stands at a place. The words of a memory have names from a start on.
abbrev pub variables_of_word : List (Option ℕ) → Sort → (place start k : ℕ) → List ℕ
variables_of_word firsts (memory a d) place start k = cond (nat_lt k (2 ^ a)) (variables_of_sort (word d) (slice_index_or firsts (start + k) None)) []
variables_of_word firsts s place start zero = variables_of_sort s (slice_index_or firsts place None)
variables_of_word firsts s place start (suc k) = []

-- of the name at a place of a table, after which stand names for the words of its memories
abbrev pub variables_at : List (Option ℕ) → Entries Sort → (place k : ℕ) → List ℕ
variables_at firsts es place k = variables_of_word firsts (entry_at es place).1 place (slice_index_or (starts_of (length es) es) place 0) k

abbrev pub variables_where : List (Option ℕ) → Entries Sort → Option ℕ → (k : ℕ) → List ℕ
variables_where firsts es None k = []
variables_where firsts es (Some place) k = variables_at firsts es place k

-- The bits of the names of a run of so many cycles, and of the words of its memories, by the first variables of the names.
abbrev pub bits_of : Parts → (cycles : ℕ) → List (Option ℕ) → BitMap
bits_of d cycles firsts = record {
  registers = λ n k. variables_where firsts (names_of_run d cycles) (place_of (registers_of d) n) k;
  inputs = λ t n k.
      cond (nat_lt t cycles) (variables_where firsts (names_of_run d cycles) (option_map (λ i. first_input d t + i) (place_of (inputs_of d) n)) k) [];
}

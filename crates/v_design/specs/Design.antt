-- When terms are those of a design: they are worth what its settled valuations have, and what the clock's edge makes of its registers.
use Rattle.std.specs.Prelude.{◌≡◌, ◌≢◌, ℕ, false, not, List, [], map, Contains, Some, IsTrue}
use Rattle.wb_values.specs.Value.{Name, Sort, truth, word, memory, Value, Entries, Valuation, valuation_of}
use Rattle.model_meaning.specs.Term.{sort_of}
use Rattle.wb_terms.specs.Graph.{HasDistinctNames, tree}
use Rattle.wb_terms.specs.Environment.{AreOfSorts, values_by_name}
use Rattle.verilog_trees.specs.Syntax.{input}
use Rattle.verilog_meaning.specs.Expression.{Object, object_width, is_memory}
use Rattle.verilog_meaning.specs.Register.{word_count, value_bit}
use Rattle.verilog_meaning.specs.Hierarchy.{Placed, placed_scope, dotted}
use Rattle.verilog_meaning.specs.Settled.{Design, at_path, IsPlacedIn, IsDeclared, IsAddressWidth, HasPort, names_of, is_counted, inside, IsSettled}
use Rattle.verilog_meaning.specs.Next.{AreRegisters, AreInputs, IsNext}
use Rattle.verilog_registers.specs.Registers.{IsRegister}
use Rattle.verilog_registers.specs.Order.{AreRegisterNames}
pub use Rattle.verilog_registers.specs.Outputs.{is_output, outputs_among, outputs_of}
use Rattle.v_design.specs.Registers.{CountedBits, AreBitsOf}
use Rattle.v_design.specs.Parts.{Parts, registers_of, inputs_of, bits_by_name, value_in, registers_after}

-- The sort of the values of a net, variable or memory: a word of its bits, or a memory of its words by ascending address.
abbrev pub IsSortOf : Object → Sort → Type 0
IsSortOf o truth = ⊥
IsSortOf o (word w) = IsTrue (not (is_memory o)) × (w ≡ object_width o)
IsSortOf o (memory a w) = IsTrue (is_memory o) × IsAddressWidth (word_count o) a × (w ≡ object_width o)

-- An input of the top, but for the clock, and the sort of its values.
pub record IsDataInput (d : Design) (n : Name) (s : Sort) : Type 0 where
  pub top : Placed
  pub is_top : at_path d [] ≡ Some top
  pub is_input : HasPort top.of_module n input
  pub no_clock : n ≢ d.clock
  pub of_sort : IsSortOf (placed_scope top n) s

-- the values that a valuation gives to entries, in their order
abbrev pub values_under : Entries Sort → Valuation → List Value
values_under ns v = map (λ n. v n.0) ns

-- Registers give each register of the parts a value of its sort. (Bits and words that do not count may be any.)
abbrev pub FitRegisters : Parts → Valuation → Type 0
FitRegisters e registers = AreOfSorts (registers_of e) (values_under (registers_of e) registers)

-- what a term is worth where registers and inputs are those of two valuations
abbrev pub worth : Parts → (registers inputs : Valuation) → ℕ → Value
worth e registers inputs id = value_in e (values_under (registers_of e) registers) (values_under (inputs_of e) inputs) id

-- the registers after the edge, by their names
abbrev pub after_cycle : Parts → (registers inputs : Valuation) → Valuation
after_cycle e registers inputs =
    valuation_of (values_by_name (registers_of e) (registers_after e (values_under (registers_of e) registers) (values_under (inputs_of e) inputs)))

-- The term is of the sort of a net's or variable's values.
pub record IsTermOfObject (e : Parts) (o : Object) (id : ℕ) : Type 0 where
  pub sort : Sort
  pub of_object : IsSortOf o sort
  pub of_sort : sort_of (tree e.graph id) ≡ Some sort

-- a net or variable that is no memory
pub record IsNet (d : Design) (p : Placed) (n : Name) : Type 0 where
  pub is_placed : IsPlacedIn d p
  pub is_declared : IsDeclared p n
  pub no_memory : is_memory (placed_scope p n) ≡ false

-- The name of a net or variable has a term, which is worth what the valuation gives it.
pub record IsSettledBy (e : Parts) (registers inputs v : Valuation) (p : Placed) (n : Name) : Type 0 where
  pub id : ℕ
  pub is_term : e.settled (dotted p.path n) ≡ Some id
  pub is_worth : worth e registers inputs id ≡ inside v p n

-- The parts are those of the design.
-- The names of the store, each once, are its registers, in their order and with the bits that count, and the inputs of its top but for
-- the clock, each with its sort; the outputs are those of its top; and nets and variables have terms of their sorts, and nothing else
-- has.
-- For all registers and inputs that have a settled valuation, the term of each net and variable is worth its value there; and what
-- counts of each register after the clock's edge is what its term is worth. What does not count stays 0. So bits and words that do not
-- count have no part in what counts: no settled valuation has them. (What a memory holds in a settled valuation is what counts of the
-- register.)
pub record IsDesignOf (d : Design) (e : Parts) : Type 0 where
  pub distinct : HasDistinctNames e.graph.names
  pub registers_are : (n : Name) (s : Sort) → Contains (registers_of e) (n, s)
      → (p : Placed) × (m : Name) × (n ≡ dotted p.path m) × IsRegister d p m × IsSortOf (placed_scope p m) s
  pub all_registers : (p : Placed) (m : Name) → IsRegister d p m → (s : Sort) × Contains (registers_of e) (dotted p.path m, s)
  pub in_order : AreRegisterNames d (names_of (registers_of e))
  pub bits_are : (p : Placed) (m : Name) (c : CountedBits) → IsRegister d p m → Contains (bits_by_name e) (dotted p.path m, c) → AreBitsOf p m c
  pub inputs_are : (n : Name) (s : Sort) → Contains (inputs_of e) (n, s) → IsDataInput d n s
  pub all_inputs : (n : Name) (s : Sort) → IsDataInput d n s → Contains (inputs_of e) (n, s)
  pub outputs_are : (top : Placed) → at_path d [] ≡ Some top → e.outputs ≡ outputs_of top.of_module
  pub terms_are : (n : Name) (id : ℕ) → e.settled n ≡ Some id
      → (p : Placed) × (m : Name) × (n ≡ dotted p.path m) × IsNet d p m × IsTermOfObject e (placed_scope p m) id
  pub settles : (registers inputs v : Valuation) (p : Placed) (n : Name) → FitRegisters e registers → AreInputs d inputs
      → IsSettled d registers inputs v → IsNet d p n → IsSettledBy e registers inputs v p n
  pub steps : (registers inputs v next : Valuation) (p : Placed) (n : Name) (k b : ℕ) → FitRegisters e registers → AreInputs d inputs
      → IsSettled d registers inputs v → IsNext d v next → IsPlacedIn d p → IsDeclared p n → IsTrue (is_counted p n k b)
      → value_bit (inside (after_cycle e registers inputs) p n) k b ≡ value_bit (inside next p n) k b
  pub rests : (registers inputs v : Valuation) (p : Placed) (n : Name) (k b : ℕ) → AreRegisters d registers → AreInputs d inputs
      → IsSettled d registers inputs v → IsRegister d p n → is_counted p n k b ≡ false
      → value_bit (inside (after_cycle e registers inputs) p n) k b ≡ false

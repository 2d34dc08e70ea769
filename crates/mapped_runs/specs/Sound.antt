-- What holds of the parts of every design that is kept as terms, whatever the design is.
use Rattle.std.specs.Prelude.{List, length, All, IsTrue}
use Rattle.wb_values.specs.Value.{Value}
use Rattle.wb_terms.specs.Graph.{AllBelow, names_of, HasDistinctNames}
use Rattle.wb_terms.specs.Environment.{AreOfSorts}
use Rattle.v_design.specs.Parts.{Parts, registers_of, inputs_of, registers_after, are_terms_of, are_bits_for, are_words}

-- The clock's edge keeps sorts: from values of their sorts, under inputs of theirs, the registers go on to values of their sorts.
abbrev pub KeepsSorts : Parts → Type 0
KeepsSorts e = (rs is : List Value) → AreOfSorts (registers_of e) rs → AreOfSorts (inputs_of e) is → AreOfSorts (registers_of e) (registers_after e rs is)

-- It keeps sorts, there are bits that count for each register, and inputs are words.
pub record IsSoundDesign (e : Parts) : Type 0 where
  pub keeps : KeepsSorts e
  pub counting : IsTrue (are_bits_for (registers_of e) e.bits)
  pub words : IsTrue (are_words (inputs_of e))

-- The store's nodes name no name that is not in its table.
abbrev pub NamesAreDeclared : Parts → Type 0
NamesAreDeclared e = All (λ n. AllBelow (length e.graph.names) (names_of n)) e.graph.nodes

-- Where the registers' terms are of their sorts, the edge keeps sorts.
abbrev pub SortedTermsKeepSorts : Type 0
SortedTermsKeepSorts = (e : Parts) → HasDistinctNames e.graph.names → NamesAreDeclared e → IsTrue (are_terms_of e.graph (registers_of e) e.next) → KeepsSorts e

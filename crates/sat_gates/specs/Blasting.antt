-- What holds of the bits of a term while others are still to come.
use Rattle.std.specs.Prelude.{◌≡◌, ℕ, ◌+◌, ◌<◌, ◌≤◌, Bool, List, [], ◌∷◌, length, ⊤, Option, Some, None, slice_index_or, Contains, IsSome, Vec}
use Rattle.std.specs.Global.{Global}
use Rattle.wb_values.specs.Value.{Sort, Value, Valuation}
use Rattle.model_meaning.specs.Term.{Term, sort_of, val}
use Rattle.gate_base.specs.declared.bits.Bit.{Bit}
use Rattle.gate_base.specs.Circuit.{Circuit, FollowsCircuit}
use Rattle.gate_words.specs.Binary.{values, number_under, AreKnown}
use Rattle.wb_values.specs.Number.{word_neg}
use Rattle.sat_gates.specs.Encodes.{Writes, Variables, RestrictsTo}
use Rattle.wb_terms.specs.Graph.{Graph, tree}
use Rattle.sat_gates.specs.Names.{names_in}
use Rattle.sat_gates.specs.Layout.{bit_count, bit_count_of, variables_from, variables_of}
use Rattle.sat_gates.specs.Used.{entry_at}

abbrev pub WritesOf : Option Sort → Value → List Bool → Type 0
WritesOf (Some s) x bits = Writes s x bits
WritesOf None x bits = ⊥

-- The bits are those of a term u: under each assignment that follows the circuit and restricts to a valuation of the names of t
-- they write the value of u.
pub record AreBitsOf (t : Term) (m : Variables) (c : Circuit) (u : Term) (bits : List Bit) : Type 0 where
  pub known : AreKnown c bits
  pub width : length bits ≡ bit_count_of (sort_of u)
  pub value : (a : List Bool) (v : Valuation) → FollowsCircuit a c → RestrictsTo m a v t → WritesOf (sort_of u) (val u v) (values a bits)

-- the bits that are there, if any are
abbrev pub bits_at : Option (Vec Bit Global) → List Bit
bits_at (Some word) = word.items
bits_at None = []

-- The bits of the term of the store are there.
abbrev pub HasBits : Graph → ℕ → Variables → Circuit → (ℕ → Option (Vec Bit Global)) → ℕ → Type 0
HasBits g root m c bits k = IsSome (bits k) × AreBitsOf (tree g root) m c (tree g k) (bits_at (bits k))

-- The same of each of some terms.
abbrev pub HaveBits : Graph → ℕ → Variables → Circuit → (ℕ → Option (Vec Bit Global)) → List ℕ → Type 0
HaveBits g root m c bits [] = ⊤
HaveBits g root m c bits (k ∷ ks) = HasBits g root m c bits k × HaveBits g root m c bits ks

-- The declared name at the place, if there is one, stands in the term, and its bits have variables from a first one on.
abbrev pub HasVariables : Graph → ℕ → List (Option ℕ) → (inputs : ℕ) → List ℕ → Type 0
HasVariables g root firsts inputs [] = ⊤
HasVariables g root firsts inputs (j ∷ js) =
    (first : ℕ) × (j < length firsts) × (slice_index_or firsts j None ≡ Some first) × (first + bit_count (entry_at g.names j).1 ≤ inputs)
    × (variables_of g.names firsts (entry_at g.names j).0 ≡ variables_from first (bit_count (entry_at g.names j).1))
    × Contains (names_in (tree g root)) (entry_at g.names j)

-- Each declared name that stands in the term has variables.
abbrev pub AllHaveVariables : Graph → ℕ → List (Option ℕ) → (inputs : ℕ) → Type 0
AllHaveVariables g root firsts inputs = (j : ℕ) → j < length g.names → Contains (names_in (tree g root)) (entry_at g.names j) → HasVariables g root firsts inputs (j ∷ [])

-- The bits write the word xs negated.
pub record IsNegative (c : Circuit) (xs bits : List Bit) : Type 0 where
  pub known : AreKnown c bits
  pub width : length bits ≡ length xs
  pub value : (a : List Bool) → FollowsCircuit a c → number_under a bits ≡ word_neg (length xs) (number_under a xs)

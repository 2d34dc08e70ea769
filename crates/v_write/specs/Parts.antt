-- The places that the parts of a target mean under an environment, where their indexes have terms.
use Rattle.std.specs.Prelude.{◌≡◌, ℕ, ◌≤◌, ◌+◌, true, List, [], ◌∷◌, Option, Some, None, is_some, pos, ◌-ℤ◌, ℤ}
use Rattle.wb_values.specs.Value.{word, as_number, Valuation}
use Rattle.model_meaning.specs.Term.{val}
use Rattle.verilog_meaning.specs.Expression.{Object, Scope, Bits, object_width, is_memory, integer_from, place_of_bit}
use Rattle.verilog_meaning.specs.Statement.{Cell, variable_cell, indexed_cell, Place, all_bits}
use Rattle.wb_terms.specs.Graph.{Graph, tree}
use Rattle.v_value.specs.Index.{span_of}
use Rattle.v_value.specs.Scope.{object_of}
use Rattle.v_value.specs.Narrow.{IsWidth}
use Rattle.v_bits.specs.declared.operand.Operand.{Operand}
use Rattle.v_operators.specs.Meaning.{IsOfSort, HasNumber}
use Rattle.v_lower.specs.Lowered.{has_sort}
use Rattle.v_write.specs.declared.part.Part.{Part}
use Rattle.v_write.specs.declared.part.PartBits.{PartBits}
use Rattle.v_write.specs.declared.part.PartBits.TheVariants.{All, Known, Moving}

-- the number that a term is worth
abbrev pub worth : Graph → Valuation → ℕ → ℕ
worth g p id = as_number (val (tree g id) p)

-- the integer that an index is worth, by its sign
abbrev pub index_meant : Graph → Valuation → Operand → ℤ
index_meant g p i = integer_from i.signed i.width (worth g p i.id.0)

abbrev pub cell_meant : Object → Graph → Valuation → Option Operand → Cell
cell_meant o g p None = variable_cell
cell_meant o g p (Some a) = indexed_cell o (index_meant g p a)

abbrev pub bits_meant : Object → Graph → Valuation → PartBits → Bits
bits_meant o g p All = all_bits o
bits_meant o g p (Known b) = span_of b
bits_meant o g p (Moving w i) = record { low = place_of_bit o (index_meant g p i) -ℤ pos w.back; count = w.count }

abbrev pub place_meant : Scope → Graph → Valuation → Part → Place
place_meant s g p q =
    record { of_name = q.name.now; cell = cell_meant (s q.name.now) g p q.address; bits = bits_meant (s q.name.now) g p q.bits }

abbrev pub places_meant : Scope → Graph → Valuation → List Part → List Place
places_meant s g p [] = []
places_meant s g p (q ∷ qs) = place_meant s g p q ∷ places_meant s g p qs

-- how many bits the parts have together
abbrev pub counts : List Part → ℕ
counts [] = 0
counts (q ∷ qs) = q.count + counts qs

-- The term of the index of a memory's word is a word.
abbrev pub IsAddress : Graph → Option Operand → Type 0
IsAddress g None = Unit {0}
IsAddress g (Some a) = IsOfSort g a.id.0 (word a.width)

-- The bits are so many of the object's, and the term of their index is a word.
abbrev pub AreBits : Object → Graph → ℕ → PartBits → Type 0
AreBits o g n All = n ≡ object_width o
AreBits o g n (Known b) = n ≡ b.count
AreBits o g n (Moving w i) = (n ≡ w.count) × (object_of w.object ≡ o) × (w.back ≤ 128) × IsOfSort g i.id.0 (word i.width)

-- A part of an object that has a sort and is no parameter; it has an index of a word where the object is a memory.
pub record IsPartOf (o : Object) (g : Graph) (q : Part) : Type 0 where
  pub sort : has_sort o ≡ true
  pub variable : o.constant ≡ None
  pub memory : is_memory o ≡ is_some q.address
  pub address : IsAddress g q.address
  pub bits : AreBits o g q.count q.bits
  pub width : IsWidth q.count

abbrev pub IsPart : Scope → Graph → Part → Type 0
IsPart s g q = IsPartOf (s q.name.now) g q

abbrev pub AreParts : Scope → Graph → List Part → Type 0
AreParts s g [] = Unit {0}
AreParts s g (q ∷ qs) = IsPart s g q × AreParts s g qs

-- Under the environment an index is worth a number that fits its width.
abbrev pub IsNumber : Graph → Valuation → Operand → Type 0
IsNumber g p i = HasNumber g i.id.0 i.width p (worth g p i.id.0)

abbrev pub HasAddress : Graph → Valuation → Option Operand → Type 0
HasAddress g p None = Unit {0}
HasAddress g p (Some a) = IsNumber g p a

abbrev pub HaveIndex : Graph → Valuation → PartBits → Type 0
HaveIndex g p All = Unit {0}
HaveIndex g p (Known b) = Unit {0}
HaveIndex g p (Moving w i) = IsNumber g p i

abbrev pub HasIndexes : Graph → Valuation → Part → Type 0
HasIndexes g p q = HasAddress g p q.address × HaveIndex g p q.bits

abbrev pub HaveIndexes : Graph → Valuation → List Part → Type 0
HaveIndexes g p [] = Unit {0}
HaveIndexes g p (q ∷ qs) = HasIndexes g p q × HaveIndexes g p qs

-- Bits of registers that do not count.
use Rattle.std.specs.Prelude.{◌≡◌, ℕ, ◌<◌, false, List, length, slice_index}
use Rattle.wb_values.specs.Value.{Sort, Value, Entries}
use Rattle.verilog_meaning.specs.Register.{is_set, value_bit}
use Rattle.wb_terms.specs.declared.nodes.TermId.{TermId}
use Rattle.wb_terms.specs.Graph.{Graph}
use Rattle.term_copies.specs.Copies.{id_at, declared_at}
use Rattle.condition_terms.specs.Told.{IsTermOf}

-- The number has no bits but those of the mask.
abbrev pub IsWithin : (mask number : ℕ) → Type 0
IsWithin mask number = (b : ℕ) → is_set mask b ≡ false → is_set number b ≡ false

-- The value has no bits but those of the masks of its words.
abbrev pub IsWithinMasks : (masks : List ℕ) → Value → Type 0
IsWithinMasks masks y = (w b : ℕ) → is_set (slice_index masks w) b ≡ false → value_bit y w b ≡ false

-- There is a term for each entry, whose values are of its sort.
pub record AreTermsFor (g : Graph) (entries : Entries Sort) (ids : List TermId) : Type 0 where
  pub count : length ids ≡ length entries
  pub each : (k : ℕ) → k < length entries → IsTermOf g (id_at ids k) (declared_at entries k).1

-- The trace that a file's data has the shape of: each key of a trace is there and no other, and each value is a number as a text, or a list
-- of such numbers. What the names are, and whether values fit, is not looked at.
use Rattle.std.specs.Prelude.{◌≡◌, ℕ, ◌<◌, ◌^◌, false, List, [], ◌∷◌, Some, codes}
use Rattle.wb_values.specs.Value.{Name, Value, number, words, Entries}
use Rattle.serde_json.specs.Data.{Data, Items, no_items, item, Members, no_members, member}
use Rattle.serde_json.specs.Find.{get, as_str, as_array, as_object}
use Rattle.map_files.specs.Keys.{has_key_besides}
use Rattle.reports.specs.Report.{Trace, hexadecimal}

-- a number of at most 128 bits: a text that is `0x` and its lower-case hexadecimal digits without leading zeros
abbrev pub IsNumeral : Data → ℕ → Type 0
IsNumeral d x = (x < 2 ^ 128) × (as_str d ≡ Some (hexadecimal x))

abbrev pub AreNumerals : Items → List ℕ → Type 0
AreNumerals no_items xs = xs ≡ []
AreNumerals (item d ds) [] = ⊥
AreNumerals (item d ds) (x ∷ xs) = IsNumeral d x × AreNumerals ds xs

-- a value: a number, or a list of them, the words of a memory by ascending address
pub data IsValueIn (d : Data) : Value → Type 0 where
  of_number : (x : ℕ) → IsNumeral d x → IsValueIn d (number x)
  of_words : (ds : Items) (xs : List ℕ) → as_array d ≡ Some ds → AreNumerals ds xs → IsValueIn d (words xs)

-- Each member of an object is an entry, in their order.
abbrev pub AreEntriesIn : Members → Entries Value → Type 0
AreEntriesIn no_members es = es ≡ []
AreEntriesIn (member n d ms) [] = ⊥
AreEntriesIn (member n d ms) (e ∷ es) = (e.0 ≡ n) × IsValueIn d e.1 × AreEntriesIn ms es

-- an object from names to values
abbrev pub IsObjectOf : Data → Entries Value → Type 0
IsObjectOf d es = (ms : Members) × (as_object d ≡ Some ms) × AreEntriesIn ms es

abbrev pub AreObjectsOf : Items → List (Entries Value) → Type 0
AreObjectsOf no_items cycles = cycles ≡ []
AreObjectsOf (item d ds) [] = ⊥
AreObjectsOf (item d ds) (es ∷ cycles) = IsObjectOf d es × AreObjectsOf ds cycles

abbrev pub trace_keys : List Name
trace_keys = codes "inputs" ∷ codes "obligation" ∷ codes "registers" ∷ []

-- The data is an object with the three keys of a trace: the name of an obligation, the values of registers, and an object of inputs for
-- each cycle.
pub record IsShapeOf (d : Data) (t : Trace) : Type 0 where
  pub no_other : has_key_besides trace_keys d ≡ false
  pub name : Data
  pub registers : Data
  pub inputs : Data
  pub cycles : Items
  pub has_name : get (codes "obligation") d ≡ Some name
  pub has_registers : get (codes "registers") d ≡ Some registers
  pub has_inputs : get (codes "inputs") d ≡ Some inputs
  pub is_name : as_str name ≡ Some t.obligation
  pub are_registers : IsObjectOf registers t.registers
  pub are_cycles : as_array inputs ≡ Some cycles
  pub are_inputs : AreObjectsOf cycles t.inputs

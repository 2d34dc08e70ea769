-- The data that a trace is written as.
use Rattle.std.specs.Prelude.{ℕ, List, [], ◌∷◌, codes}
use Rattle.wb_values.specs.Value.{Value, truth_value, number, words, numeral_of, Entries}
use Rattle.serde_json.specs.Data.{Data, string, array, object, Items, no_items, item, Members, no_members, member}
use Rattle.reports.specs.Report.{Trace, hexadecimal}

abbrev pub number_items : List ℕ → Items
number_items [] = no_items
number_items (x ∷ xs) = item (string (hexadecimal x)) (number_items xs)

abbrev pub value_data : Value → Data
value_data (truth_value b) = string (hexadecimal (numeral_of (truth_value b)))
value_data (number x) = string (hexadecimal x)
value_data (words xs) = array (number_items xs)

abbrev pub entry_members : Entries Value → Members
entry_members [] = no_members
entry_members (e ∷ es) = member e.0 (value_data e.1) (entry_members es)

abbrev pub cycle_items : List (Entries Value) → Items
cycle_items [] = no_items
cycle_items (es ∷ rest) = item (object (entry_members es)) (cycle_items rest)

abbrev pub trace_members : Trace → Members
trace_members t =
    member (codes "inputs") (array (cycle_items t.inputs))
    (member (codes "obligation") (string t.obligation) (member (codes "registers") (object (entry_members t.registers)) no_members))

abbrev pub data_of : Trace → Data
data_of t = object (trace_members t)

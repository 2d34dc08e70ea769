-- Which data is a trace of a design, by the design's parts: each key of a trace is there and no other, each name is that of a register or
-- an input, and each value fits it.
use Rattle.std.specs.Prelude.{ℕ, zero, suc, ◌^◌, Bool, true, false, cond, not, ◌==◌, ◌&&◌, ◌||◌, nat_lt, List, [], ◌∷◌, length, slice_index, slice_index_or, bit_and, Option, Some, None, is_some, option_and_then, codes}
use Rattle.wb_values.specs.Value.{Name, same_name, Sort, truth, word, memory, Entries}
use Rattle.serde_json.specs.Data.{Data, Items, no_items, item, Members, no_members, member}
use Rattle.serde_json.specs.Find.{get, as_str, as_array, as_object}
use Rattle.serde_json.specs.Events.{items_len}
use Rattle.map_files.specs.Keys.{has_key_besides}
use Rattle.map_files.specs.Shape.{read_under}
use Rattle.trace_files.specs.Shape.{trace_keys}
use Rattle.v_design.specs.Registers.{CountedBits}
use Rattle.v_design.specs.Parts.{Parts, registers_of, inputs_of}
use Rattle.trace_texts.specs.Order.{register_name, input_name, register_bits, is_traced}
use Rattle.trace_reading.specs.Numbers.{numeral_in}

-- ---- values

-- a number all of whose bits are among those of the mask
abbrev pub keeps_to : (mask : ℕ) → Option ℕ → Bool
keeps_to m None = false
keeps_to m (Some x) = bit_and x m == x

-- as many numbers as there are masks, each of which keeps to its mask
abbrev pub all_keep_to : (masks : List ℕ) → Items → Bool
all_keep_to [] no_items = true
all_keep_to [] (item d ds) = false
all_keep_to (m ∷ ms) no_items = false
all_keep_to (m ∷ ms) (item d ds) = keeps_to m (numeral_in d) && all_keep_to ms ds

abbrev pub words_keep_to : (masks : List ℕ) → Option Items → Bool
words_keep_to ms None = false
words_keep_to ms (Some ds) = all_keep_to ms ds

-- The data is a value of a register of which these bits count, and what does not count of it is 0: a list for a memory, else a number.
abbrev pub is_register_value : CountedBits → Data → Bool
is_register_value c d = cond (is_some c.least) (words_keep_to c.masks (as_array d)) (keeps_to (slice_index c.masks 0) (numeral_in d))

-- the bits of an input, which is a word
abbrev pub bits_of_input : Sort → ℕ
bits_of_input (word w) = w
bits_of_input _ = 0

-- a number of so many bits
abbrev pub has_width : (width : ℕ) → Option ℕ → Bool
has_width w None = false
has_width w (Some x) = nat_lt x (2 ^ w)

abbrev pub is_input_value : Sort → Data → Bool
is_input_value s d = has_width (bits_of_input s) (numeral_in d)

-- ---- names

-- the last place of a name among the first k entries
abbrev pub place_before : Entries Sort → ℕ → Name → Option ℕ
place_before ns zero n = None
place_before ns (suc k) n = cond (same_name (slice_index_or ns k ([], truth)).0 n) (Some k) (place_before ns k n)

abbrev pub place_in : Entries Sort → Name → Option ℕ
place_in ns n = place_before ns (length ns) n

-- the sort of an input, by its place
abbrev pub input_sort : Parts → ℕ → Sort
input_sort e k = (slice_index_or (inputs_of e) k ([], truth)).1

-- The data is a value of the register at the place, of which some bit counts.
abbrev pub register_fits : Parts → Option ℕ → Data → Bool
register_fits e None d = false
register_fits e (Some k) d = is_traced e k && is_register_value (register_bits e k) d

abbrev pub input_fits : Parts → Option ℕ → Data → Bool
input_fits e None d = false
input_fits e (Some k) d = is_input_value (input_sort e k) d

-- ---- the file

-- each member is so, with its name
abbrev pub all_members : (Name → Data → Bool) → Members → Bool
all_members p no_members = true
all_members p (member n d ms) = p n d && all_members p ms

-- the value of a register, or of an input, by its name
abbrev pub register_named_fits : Parts → Name → Data → Bool
register_named_fits e n d = register_fits e (place_in (registers_of e) n) d

abbrev pub input_named_fits : Parts → Name → Data → Bool
input_named_fits e n d = input_fits e (place_in (inputs_of e) n) d

abbrev pub registers_fit : Parts → Members → Bool
registers_fit e ms = all_members (register_named_fits e) ms

abbrev pub inputs_fit : Parts → Members → Bool
inputs_fit e ms = all_members (input_named_fits e) ms

abbrev pub cycle_fits : Parts → Option Members → Bool
cycle_fits e None = false
cycle_fits e (Some ms) = inputs_fit e ms

-- each item is an object of values of inputs
abbrev pub cycles_fit : Parts → Items → Bool
cycles_fit e no_items = true
cycles_fit e (item d ds) = cycle_fits e (as_object d) && cycles_fit e ds

abbrev pub are_registers : Parts → Option Members → Bool
are_registers e None = false
are_registers e (Some ms) = registers_fit e ms

abbrev pub are_cycles : Parts → Option Items → Bool
are_cycles e None = false
are_cycles e (Some ds) = cycles_fit e ds

-- no key besides those of a trace, and the name of an obligation
abbrev pub has_trace_keys : Data → Bool
has_trace_keys d = not (has_key_besides trace_keys d) && is_some (read_under as_str (codes "obligation") d)

abbrev pub is_fitting : Parts → Data → Bool
is_fitting e d =
    has_trace_keys d
    && (are_registers e (read_under as_object (codes "registers") d) && are_cycles e (read_under as_array (codes "inputs") d))

-- ---- what is left out

-- the same of each number below k
abbrev pub each_below : (ℕ → Bool) → ℕ → Bool
each_below p zero = true
each_below p (suc k) = each_below p k && p k

-- what the file has for a register's name
abbrev pub register_in : Data → Name → Option Data
register_in d n = option_and_then (get n) (get (codes "registers") d)

-- There is a value for the register at the place, unless no bit of it counts.
abbrev pub is_register_given : Parts → Data → ℕ → Bool
is_register_given e d k = not (is_traced e k) || is_some (register_in d (register_name e k))

abbrev pub are_registers_given : Parts → Data → Bool
are_registers_given e d = each_below (is_register_given e d) (length (registers_of e))

abbrev pub is_input_given : Parts → Data → ℕ → Bool
is_input_given e d k = is_some (get (input_name e k) d)

abbrev pub are_inputs_given : Parts → Data → Bool
are_inputs_given e d = each_below (is_input_given e d) (length (inputs_of e))

-- each input in each cycle
abbrev pub are_cycles_given : Parts → Items → Bool
are_cycles_given e no_items = true
are_cycles_given e (item d ds) = are_inputs_given e d && are_cycles_given e ds

abbrev pub are_all_cycles : Parts → (cycles : ℕ) → Option Items → Bool
are_all_cycles e n None = false
are_all_cycles e n (Some ds) = (items_len ds == n) && are_cycles_given e ds

-- Each register has a value, there are so many cycles, and each input has a value in each of them.
abbrev pub is_full : Parts → (cycles : ℕ) → Data → Bool
is_full e n d = are_registers_given e d && are_all_cycles e n (read_under as_array (codes "inputs") d)

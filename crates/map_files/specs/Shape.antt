-- The written map that a file's data has the shape of: each key is there, and each value is of the kind that its place wants. Data
-- of another shape is no written map.
use Rattle.std.specs.Prelude.{ℕ, ◌==◌, nat_le, List, [], Option, Some, None, option_and_then, codes}
use Rattle.wb_values.specs.Value.{Name, Entries}
use Rattle.wb_values.specs.Choice.{some_if}
use Rattle.serde_json.specs.Data.{Data, Members, no_members, member}
use Rattle.serde_json.specs.Find.{get, as_str, as_object}
use Rattle.model_files.specs.Shape.{with_first, list_in, unsigned_in}
use Rattle.map_files.specs.Written.{Text, WrittenReset, InstructionEntry, WrittenMap}

-- What stands under a key, by its reading. Of a key that is given twice the last entry counts. Data that is no object has no keys.
abbrev pub read_under : {A : Type 0} → (Data → Option A) → Name → Data → Option A
read_under f k d = option_and_then f (get k d)

-- the version of these maps, the number 1
abbrev pub version_in : Data → Option ℕ
version_in d = option_and_then (λ v. some_if (v == 1) v) (unsigned_in d)

-- 0 or 1
abbrev pub active_in : Data → Option ℕ
active_in d = option_and_then (λ a. some_if (nat_le a 1) a) (unsigned_in d)

abbrev pub reset_from : Option Name → Option ℕ → Option ℕ → Option WrittenReset
reset_from (Some s) (Some a) (Some c) = Some (record { signal = s; active = a; cycles = c })
reset_from _ _ _ = None

abbrev pub reset_in : Data → Option WrittenReset
reset_in d = reset_from (read_under as_str (codes "signal") d) (read_under active_in (codes "active") d) (read_under unsigned_in (codes "cycles") d)

abbrev pub named : Name → Option Text → Option (Name × Text)
named n (Some e) = Some (n, e)
named n None = None

-- each member of an object with its name; a member is a text
abbrev pub members_mapped_in : Members → Option (Entries Text)
members_mapped_in no_members = Some []
members_mapped_in (member n d ms) = with_first (named n (as_str d)) (members_mapped_in ms)

-- an object from names of the model to expressions
abbrev pub mapped_in : Data → Option (Entries Text)
mapped_in d = option_and_then members_mapped_in (as_object d)

abbrev pub entry_from : Option Name → Option Text → Option ℕ → Option InstructionEntry
entry_from (Some n) (Some e) (Some b) = Some (record { called = n; commit = e; bound = b })
entry_from _ _ _ = None

abbrev pub entry_in : Data → Option InstructionEntry
entry_in d = entry_from (read_under as_str (codes "name") d) (read_under as_str (codes "commit") d) (read_under unsigned_in (codes "bound") d)

abbrev pub map_from : (version : Option ℕ) → (top clock : Option Name) → Option WrittenReset → (assume invariants : Option (List Text)) → (start : Option Text)
    → (states inputs : Option (Entries Text)) → Option (List InstructionEntry) → Option WrittenMap
map_from (Some v) (Some t) (Some c) (Some r) (Some assumed) (Some kept) (Some s) (Some ss) (Some ws) (Some is) =
    Some (record { top = t; clock = c; reset = r; assume = assumed; invariants = kept; start = s; states = ss; inputs = ws; instructions = is })
map_from _ _ _ _ _ _ _ _ _ _ = None

-- The written map that data has the shape of.
abbrev pub map_in : Data → Option WrittenMap
map_in d =
    map_from (read_under version_in (codes "version") d) (read_under as_str (codes "top") d) (read_under as_str (codes "clock") d) (read_under reset_in (codes "reset") d)
    (read_under (list_in as_str) (codes "assume") d) (read_under (list_in as_str) (codes "invariants") d) (read_under as_str (codes "start") d)
    (read_under mapped_in (codes "states") d) (read_under mapped_in (codes "inputs") d) (read_under (list_in entry_in) (codes "instructions") d)

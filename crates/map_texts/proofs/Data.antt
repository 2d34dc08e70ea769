-- The data that a written map is written as.
use Rattle.std.specs.Prelude.{List, [], ◌∷◌, codes}
use Rattle.serde_json.specs.Data.{unsigned, Data, number, string, array, object, Items, no_items, item, Members, no_members, member}
use Rattle.wb_values.specs.Value.{Entries}
use Rattle.map_files.specs.Written.{Text, WrittenReset, InstructionEntry, WrittenMap}

abbrev pub text_items : List Text → Items
text_items [] = no_items
text_items (t ∷ ts) = item (string t) (text_items ts)

abbrev pub mapped_members : Entries Text → Members
mapped_members [] = no_members
mapped_members (e ∷ es) = member e.0 (string e.1) (mapped_members es)

abbrev pub entry_data : InstructionEntry → Data
entry_data i =
    object
    (member (codes "bound") (number (unsigned i.bound)) (member (codes "commit") (string i.commit) (member (codes "name") (string i.called) no_members)))

abbrev pub entry_items : List InstructionEntry → Items
entry_items [] = no_items
entry_items (i ∷ is) = item (entry_data i) (entry_items is)

abbrev pub reset_data : WrittenReset → Data
reset_data r =
    object
    (member (codes "active") (number (unsigned r.active))
    (member (codes "cycles") (number (unsigned r.cycles)) (member (codes "signal") (string r.signal) no_members)))

abbrev pub data_of : WrittenMap → Data
data_of w =
    object
    (member (codes "assume") (array (text_items w.assume))
    (member (codes "clock") (string w.clock)
    (member (codes "inputs") (object (mapped_members w.inputs))
    (member (codes "instructions") (array (entry_items w.instructions))
    (member (codes "invariants") (array (text_items w.invariants))
    (member (codes "reset") (reset_data w.reset)
    (member (codes "start") (string w.start)
    (member (codes "states") (object (mapped_members w.states))
    (member (codes "top") (string w.top) (member (codes "version") (number (unsigned 1)) no_members))))))))))

-- The written map that the code's stands for.
use Rattle.std.specs.Prelude.{ℕ, Bool, cond, List, map, Vec, String}
use Rattle.std.specs.Global.{Global}
use Rattle.std.specs.String.{string_bytes}
use Rattle.wb_values.specs.Value.{Name, Entries}
use Rattle.map_files.specs.Written as pure
use Rattle.map_files.specs.Written.{Text}
use Rattle.map_file.specs.declared.written.WrittenReset.{WrittenReset}
use Rattle.map_file.specs.declared.written.Mapped.{Mapped}
use Rattle.map_file.specs.declared.written.InstructionEntry.{InstructionEntry}
use Rattle.map_file.specs.declared.written.WrittenMap.{WrittenMap}
use Rattle.map_file.specs.declared.heads.Heads.{Heads}

abbrev pub texts_view : Vec (String Global) Global → List Text
texts_view v = map string_bytes v.items

-- the value at which a reset is active
abbrev pub level : Bool → ℕ
level is_active_high = cond is_active_high 1 0

abbrev pub reset_view : WrittenReset → pure.WrittenReset
reset_view r = record { signal = string_bytes r.signal; active = level r.is_active_high; cycles = r.cycles }

abbrev pub mapped_view : Mapped → Name × Text
mapped_view m = (string_bytes m.name, string_bytes m.expression)

abbrev pub entries_view : Vec Mapped Global → Entries Text
entries_view v = map mapped_view v.items

abbrev pub entry_view : InstructionEntry → pure.InstructionEntry
entry_view i = record { called = string_bytes i.name; commit = string_bytes i.commit; bound = i.bound }

abbrev pub instructions_view : Vec InstructionEntry Global → List pure.InstructionEntry
instructions_view v = map entry_view v.items

abbrev pub map_view : WrittenMap → pure.WrittenMap
map_view m = record {
  top = string_bytes m.top;
  clock = string_bytes m.clock;
  reset = reset_view m.reset;
  assume = texts_view m.assume;
  invariants = texts_view m.invariants;
  start = string_bytes m.start;
  states = entries_view m.states;
  inputs = entries_view m.inputs;
  instructions = instructions_view m.instructions;
}

abbrev pub heads_view : Heads → pure.WrittenMap
heads_view h = map_view h.map

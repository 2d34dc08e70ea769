-- The data that a trace is written as has the shape of the trace, is read back from its text, and data has the shape of one trace.
use Rattle.std.proofs.Common.{◌≡◌, ℕ, ◌^◌, ◌<◌, ◌≤◌, true, List, [], ◌∷◌, refl, arith}
use Rattle.std.proofs.lemmas.Bool.{and_parts}
use Rattle.serde_json.specs.Data.{string, array, object, Members, no_members, depth, items_depth, members_depth}
use Rattle.serde_json.specs.Read.{max_depth}
use Rattle.wb_values.specs.Value.{Name, Value, truth_value, number, words, Entries}
use Rattle.verilog_meaning.specs.Settled.{names_of}
use Rattle.reports.specs.Report.{Trace, is_before, is_in_order}
use Rattle.trace_files.specs.Shape.{AreNumerals, IsValueIn, of_number, of_words, AreEntriesIn, AreObjectsOf, IsShapeOf}
use Rattle.printed_traces.proofs.Order.{before_less}
use Rattle.printed_traces.proofs.Data.{number_items, value_data, entry_members, cycle_items, data_of}
use Rattle.printed_traces.proofs.Written.{AllBefore, with_last, before_last, Follows, IsWritten, AreWritten, AreMembersWritten}

-- ---- values of at most 128 bits

abbrev pub AllSmall : List ℕ → Type 0
AllSmall [] = Unit {0}
AllSmall (x ∷ xs) = (x < 2 ^ 128) × AllSmall xs

abbrev pub IsSmall : Value → Type 0
IsSmall (truth_value b) = ⊥
IsSmall (number x) = x < 2 ^ 128
IsSmall (words xs) = AllSmall xs

abbrev pub AreSmall : Entries Value → Type 0
AreSmall [] = Unit {0}
AreSmall (e ∷ es) = IsSmall e.1 × AreSmall es

abbrev pub CyclesAreSmall : List (Entries Value) → Type 0
CyclesAreSmall [] = Unit {0}
CyclesAreSmall (es ∷ cycles) = AreSmall es × CyclesAreSmall cycles

-- ---- the shape

numerals_there : (xs : List ℕ) → AllSmall xs → AreNumerals (number_items xs) xs
numerals_there [] h = refl
numerals_there (x ∷ xs) h = ((h.0, refl), numerals_there xs h.1)

value_there : (x : Value) → IsSmall x → IsValueIn (value_data x) x
value_there (truth_value b) h = absurd h
value_there (number x) h = of_number x (h, refl)
value_there (words xs) h = of_words (number_items xs) xs refl (numerals_there xs h)

entries_there : (es : Entries Value) → AreSmall es → AreEntriesIn (entry_members es) es
entries_there [] h = refl
entries_there (e ∷ es) h = (refl, value_there e.1 h.0, entries_there es h.1)

objects_there : (cycles : List (Entries Value)) → CyclesAreSmall cycles → AreObjectsOf (cycle_items cycles) cycles
objects_there [] h = refl
objects_there (es ∷ cycles) h = ((entry_members es, refl, entries_there es h.0), objects_there cycles h.1)

pub shape_there : (t : Trace) → AreSmall t.registers → CyclesAreSmall t.inputs → IsShapeOf (data_of t) t
shape_there t registers inputs =
    record {
      no_other = refl;
      name = string t.obligation;
      registers = object (entry_members t.registers);
      inputs = array (cycle_items t.inputs);
      cycles = cycle_items t.inputs;
      has_name = refl;
      has_registers = refl;
      has_inputs = refl;
      is_name = refl;
      are_registers = (entry_members t.registers, refl, entries_there t.registers registers);
      are_cycles = refl;
      are_inputs = objects_there t.inputs inputs;
    }

-- ---- it is read back

numbers_written : (xs : List ℕ) → AreWritten (number_items xs)
numbers_written [] = tt
numbers_written (x ∷ xs) = (tt, numbers_written xs)

value_written : (x : Value) → IsWritten (value_data x)
value_written (truth_value b) = tt
value_written (number x) = tt
value_written (words xs) = numbers_written xs

members_written : (es : Entries Value) → AreMembersWritten (entry_members es)
members_written [] = tt
members_written (e ∷ es) = (value_written e.1, members_written es)

follow : (e : Name × Value) (es : Entries Value) (found : Members) → AllBefore e.0 found → is_in_order (names_of (e ∷ es)) ≡ true
    → Follows found (entry_members (e ∷ es))
follow e [] found h o = (h, tt)
follow e (f ∷ es) found h o =
    let p = and_parts (is_before e.0 f.0) (is_in_order (names_of (f ∷ es))) o in
    (h, follow f es (with_last e.0 (value_data e.1) found) (before_last e.0 f.0 (value_data e.1) found h (before_less e.0 f.0 p.0)) p.1)

object_written : (es : Entries Value) → is_in_order (names_of es) ≡ true → IsWritten (object (entry_members es))
object_written [] o = (tt, tt)
object_written (e ∷ es) o = (follow e es no_members tt o, members_written (e ∷ es))

abbrev pub CyclesInOrder : List (Entries Value) → Type 0
CyclesInOrder [] = Unit {0}
CyclesInOrder (es ∷ cycles) = (is_in_order (names_of es) ≡ true) × CyclesInOrder cycles

cycles_written : (cycles : List (Entries Value)) → CyclesInOrder cycles → AreWritten (cycle_items cycles)
cycles_written [] h = tt
cycles_written (es ∷ cycles) h = (object_written es h.0, cycles_written cycles h.1)

pub trace_written : (t : Trace) → is_in_order (names_of t.registers) ≡ true → CyclesInOrder t.inputs → IsWritten (data_of t)
trace_written t registers inputs =
    ((tt, ((refl, tt), ((refl, (refl, tt)), tt))), (cycles_written t.inputs inputs, (tt, (object_written t.registers registers, tt))))

numbers_flat : (xs : List ℕ) → items_depth (number_items xs) ≤ 0
numbers_flat [] = omega arith
numbers_flat (x ∷ xs) = omega (arith, numbers_flat xs)

value_shallow : (x : Value) → depth (value_data x) ≤ 1
value_shallow (truth_value b) = omega arith
value_shallow (number x) = omega arith
value_shallow (words xs) = omega (arith, numbers_flat xs)

members_shallow : (es : Entries Value) → members_depth (entry_members es) ≤ 1
members_shallow [] = omega arith
members_shallow (e ∷ es) = omega (arith, value_shallow e.1, members_shallow es)

cycles_shallow : (cycles : List (Entries Value)) → items_depth (cycle_items cycles) ≤ 2
cycles_shallow [] = omega arith
cycles_shallow (es ∷ cycles) = omega (arith, members_shallow es, cycles_shallow cycles)

pub trace_shallow : (t : Trace) → depth (data_of t) ≤ max_depth
trace_shallow t = omega (arith, cycles_shallow t.inputs, members_shallow t.registers)

-- The data of a written map has the shape of the map, and no key besides.
use Rattle.std.proofs.Common.{◌≡◌, ◌≤◌, Bool, false, List, [], ◌∷◌, Option, Some, refl, ap, le-leb}
use Rattle.serde_json.specs.Find.{as_str}
use Rattle.wb_values.specs.Value.{Entries}
use Rattle.wb_values.specs.Choice.{some_if}
use Rattle.model_files.specs.Shape.{with_first, all_in}
use Rattle.model_files.specs.Keys.{some_item}
use Rattle.map_files.specs.Written.{Text, WrittenReset, InstructionEntry, WrittenMap}
use Rattle.map_files.specs.Shape.{members_mapped_in, entry_in, reset_from, reset_in, map_in, map_from}
use Rattle.map_files.specs.Keys.{has_key_besides, entry_keys, map_has_unknown_key}
use Rattle.map_texts.specs.Readable.{IsReadable}
use Rattle.map_texts.proofs.Data.{text_items, mapped_members, entry_items, reset_data, data_of}

texts_there : (ts : List Text) → all_in as_str (text_items ts) ≡ Some ts
texts_there [] = refl
texts_there (t ∷ ts) = ap (with_first (Some t)) (texts_there ts)

members_there : (es : Entries Text) → members_mapped_in (mapped_members es) ≡ Some es
members_there [] = refl
members_there (e ∷ es) = ap (with_first (Some e)) (members_there es)

entries_there : (is : List InstructionEntry) → all_in entry_in (entry_items is) ≡ Some is
entries_there [] = refl
entries_there (i ∷ is) = ap (with_first (Some i)) (entries_there is)

reset_there : (r : WrittenReset) → r.active ≤ 1 → reset_in (reset_data r) ≡ Some r
reset_there r h = ap (λ b. read b) (le-leb r.active 1 h)
  where
    read : Bool → Option WrittenReset
    read b = reset_from (Some r.signal) (some_if b r.active) (Some r.cycles)

pub map_there : (w : WrittenMap) → IsReadable w → map_in (data_of w) ≡ Some w
map_there w h =
    let a = texts_there w.assume in
    let v = texts_there w.invariants in
    let s = members_there w.states in
    let i = members_there w.inputs in
    let n = entries_there w.instructions in
    let r = reset_there w.reset h.active in
    λ k. map_from (Some 1) (Some w.top) (Some w.clock) (r k) (a k) (v k) (Some w.start) (s k) (i k) (n k)

no_other : (is : List InstructionEntry) → some_item (has_key_besides entry_keys) (entry_items is) ≡ false
no_other [] = refl
no_other (i ∷ is) = no_other is

pub no_unknown_key : (w : WrittenMap) → map_has_unknown_key (data_of w) ≡ false
no_unknown_key w = no_other w.instructions

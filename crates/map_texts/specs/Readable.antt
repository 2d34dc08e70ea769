-- Written maps whose text says them: plain texts, keys in the order of their bytes, and small numbers.
use Rattle.std.specs.Prelude.{◌≡◌, ℕ, ◌<◌, ◌≤◌, ◌^◌, ⊤, Bool, true, not, ◌&&◌, ◌==◌, nat_le, List, [], ◌∷◌, map, ◌++◌}
use Rattle.std.specs.List.{list_all}
use Rattle.wb_values.specs.Value.{Entries}
use Rattle.model_meaning.specs.Model.{Model}
use Rattle.model_meaning.specs.Invariant.{IsModel}
use Rattle.map_files.specs.Written.{Text, InstructionEntry, WrittenMap}
use Rattle.map_files.specs.Meaning.{SaysMap}
use Rattle.reports.specs.Report.{is_in_order}
use Rattle.emitted_designs.specs.Bounds.{greatest_bound, most_cycles}
use Rattle.emitted_designs.specs.Map.{written_map, map_text}

-- a printable byte that JSON writes as itself: neither the quotation mark nor the backslash
abbrev pub is_bare_byte : ℕ → Bool
is_bare_byte b = (nat_le 32 b && nat_le b 126) && (not (b == 34) && not (b == 92))

abbrev pub is_bare : List ℕ → Bool
is_bare text = list_all is_bare_byte text

abbrev pub AreBare : List Text → Type 0
AreBare [] = ⊤
AreBare (t ∷ ts) = (is_bare t ≡ true) × AreBare ts

abbrev pub HasBareEntries : Entries Text → Type 0
HasBareEntries [] = ⊤
HasBareEntries (e ∷ es) = (is_bare e.0 ≡ true) × (is_bare e.1 ≡ true) × HasBareEntries es

abbrev pub HasBareInstructions : List InstructionEntry → Type 0
HasBareInstructions [] = ⊤
HasBareInstructions (i ∷ is) = (is_bare i.called ≡ true) × (is_bare i.commit ≡ true) × (i.bound < 2 ^ 64) × HasBareInstructions is

pub record IsReadable (w : WrittenMap) : Type 0 where
  pub top : is_bare w.top ≡ true
  pub clock : is_bare w.clock ≡ true
  pub signal : is_bare w.reset.signal ≡ true
  pub active : w.reset.active ≤ 1
  pub cycles : w.reset.cycles < 2 ^ 64
  pub assume : AreBare w.assume
  pub invariants : AreBare w.invariants
  pub start : is_bare w.start ≡ true
  pub states : HasBareEntries w.states
  pub states_in_order : is_in_order (map (λ e. e.0) w.states) ≡ true
  pub inputs : HasBareEntries w.inputs
  pub inputs_in_order : is_in_order (map (λ e. e.0) w.inputs) ≡ true
  pub instructions : HasBareInstructions w.instructions

-- The text of such a map, with a line feed after it, says the map.
abbrev pub MapTextsAreRead : Type 0
MapTextsAreRead = (w : WrittenMap) → IsReadable w → SaysMap (map_text w ++ 10 ∷ []) w

-- So does the text of the map of an emitted design, where a map may state the bounds.
abbrev pub EmittedMapsAreRead : Type 0
EmittedMapsAreRead = (m : Model) → IsModel m → greatest_bound m ≤ most_cycles → SaysMap (map_text (written_map m) ++ 10 ∷ []) (written_map m)

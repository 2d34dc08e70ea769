-- Values whose memories are links into a pool of nodes.
use Rattle.std.specs.Prelude.{ℕ, ◌≤◌, ◌≡◌, ◌^◌, false, nat_lt, List, [], ◌∷◌, map, replicate, ⊤, slice_set}
use Rattle.sparse_memories.specs.Nodes.{Content, set_words_from}
use Rattle.sparse_memories.specs.Memories.{IsMemory, words_of}
use Rattle.wb_values.specs.Value as meaning
use Rattle.wb_values.specs.Value.{truth, word, memory, truth_value, number, words}
use Rattle.term_evaluation.specs.declared.slots.Slot.{Slot}
use Rattle.term_evaluation.specs.declared.slots.Slot.TheVariants.{Truth, Number, Memory}
use Rattle.term_evaluation.specs.declared.slots.Shown.{Shown}
use Rattle.term_evaluation.specs.declared.slots.Shown.TheVariants.{Truth as TruthShown, Number as NumberShown, Words as WordsShown}

-- what a slot stands for in a pool
abbrev pub value_in : Content → Slot → meaning.Value
value_in p (Truth b) = truth_value b
value_in p (Number n) = number n
value_in p (Memory d m) = words (words_of p d m)

abbrev pub values_in : Content → List Slot → List meaning.Value
values_in p xs = map (value_in p) xs

-- A slot of the pool: its memory, if it is one, is there.
abbrev pub IsSlotOf : Content → Slot → Type 0
IsSlotOf p (Truth b) = ⊤
IsSlotOf p (Number n) = ⊤
IsSlotOf p (Memory d m) = (d ≤ 16) × IsMemory p d m

abbrev pub AreSlotsOf : Content → List Slot → Type 0
AreSlotsOf p [] = ⊤
AreSlotsOf p (x ∷ xs) = IsSlotOf p x × AreSlotsOf p xs

-- false, 0, or a memory whose words are 0
abbrev pub zero_of : meaning.Sort → meaning.Value
zero_of truth = truth_value false
zero_of (word w) = number 0
zero_of (memory a d) = words (replicate (2 ^ a) 0)

-- a value with one word set; of a truth value any number but 0 is true
abbrev pub with_number : meaning.Value → (address number : ℕ) → meaning.Value
with_number (truth_value b) k x = truth_value (nat_lt 0 x)
with_number (number n) k x = number x
with_number (words ws) k x = words (slice_set ws k x)

-- What is shown of a value: of a memory its words other than 0, with their addresses.
abbrev pub IsShownAs : meaning.Value → Shown → Type 0
IsShownAs (truth_value b) (TruthShown c) = c ≡ b
IsShownAs (number n) (NumberShown x) = x ≡ n
IsShownAs (words ws) (WordsShown found) = found.items ≡ set_words_from 0 ws
IsShownAs _ _ = ⊥

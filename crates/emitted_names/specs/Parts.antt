-- The nodes that memories are made of, with the names of the wires for them.
use Rattle.std.specs.Prelude.{◌≡◌, ℕ, zero, suc, ◌<◌, ⊤, Bool, true, false, not, ◌&&◌, cond, List, [], ◌∷◌, ◌++◌, map, length, IsTrue, codes, decimal, slice_get, slice_index_or, Some, Vec}
use Rattle.std.specs.Global.{Global}
use Rattle.std.specs.String.{string_bytes}
use Rattle.wb_values.specs.Value.{Name}
use Rattle.wb_terms.specs.declared.nodes.Node.{Node}
use Rattle.wb_terms.specs.declared.nodes.Node.TheVariants.{Name as Named, Load}
use Rattle.wb_terms.specs.Graph.{Graph}
use Rattle.wanted_terms.specs.Wanted.{mark_at}
use Rattle.ila_model.specs.declared.parts.Instruction.{Instruction}
use Rattle.emitted_modules.specs.Nodes.{node_at, operand, called_at, is_part, word_name}
use Rattle.emitted_modules.specs.Stores.{MemoryUpdate, via_name}
use Rattle.emitted_modules.specs.Module.{memories_for}
use Rattle.emitted_names.specs.declared.words.PartName.{PartName}
use Rattle.emitted_names.specs.declared.ways.Way.{Way}

-- ---- parts

-- The mark at the node is the only one.
abbrev pub IsOwnMark : (m : ℕ) → List Bool → Type 0
IsOwnMark m ms = (mark_at ms m ≡ true) × ((k : ℕ) → mark_at ms k ≡ true → k ≡ m)

-- The marks are at all that memory m is made of.
abbrev pub ArePartMarks : Graph → (m : ℕ) → List Bool → Type 0
ArePartMarks g m ms = (k : ℕ) → mark_at ms k ≡ is_part g (suc m) m k

abbrev pub is_name : Node → Bool
is_name (Named n) = true
is_name n = false

-- Memory m is made of node k, which is no name.
abbrev pub is_other_part : Graph → (m k : ℕ) → Bool
is_other_part g m k = not (is_name (node_at g k)) && is_part g (suc m) m k

-- those of the first n nodes, from the lowest on
abbrev pub parts_of : Graph → (m n : ℕ) → List ℕ
parts_of g m zero = []
parts_of g m (suc k) = parts_of g m k ++ cond (is_other_part g m k) (k ∷ []) []

-- nodes with names
abbrev pub named_by : (ℕ → Name) → List ℕ → List (ℕ × Name)
named_by name ks = map (λ k. (k, name k)) ks

abbrev pub parts_named : List PartName → List (ℕ × Name)
parts_named ps = map (λ p. (p.id.0, string_bytes p.name)) ps

pub record IsAmongParts (k : ℕ) (ps : List PartName) : Type 0 where
  pub at : ℕ
  pub within : at < length ps
  pub is : (d : PartName) → (slice_index_or ps at d).id.0 ≡ k

-- ---- words

-- the nodes that the memory of load l is made of
abbrev pub words_at : Graph → (l : ℕ) → Node → List ℕ
words_at g l (Load m i) = parts_of g m.0 l
words_at g l n = []

-- with the names of the wires for their words
abbrev pub AreWordNames : Graph → (l : ℕ) → List PartName → Type 0
AreWordNames g l ps = parts_named ps ≡ named_by (word_name l) (words_at g l (node_at g l))

-- for each of the first n nodes that is kept
pub record AreWords (g : Graph) (keep : ℕ → Bool) (n : ℕ) (rows : List (Vec PartName Global)) : Type 0 where
  pub many : length rows ≡ n
  pub each : (l : ℕ) (d : Vec PartName Global) → l < n → IsTrue (keep l) → AreWordNames g l (slice_index_or rows l d).items

-- ---- ways

abbrev pub via_called : (j : ℕ) → (memory : Name) → (k : ℕ) → Name
via_called j m k = codes "wb_via_" ++ decimal j ++ 95 ∷ (decimal k ++ 95 ∷ m)

abbrev pub update_of : Graph → Way → MemoryUpdate
update_of g w = record { instruction = w.instruction; decode = operand g w.decode.0; memory_name = called_at g.names w.memory.0; term = w.term.0 }

-- An update of a memory, with the names of the wires for the nodes that the memory is made of.
pub record IsWay (g : Graph) (w : Way) : Type 0 where
  pub decode_there : w.decode.0 < length g.nodes
  pub memory_there : w.memory.0 < length g.names
  pub term_there : w.term.0 < length g.nodes
  pub named : parts_named w.parts.items ≡ named_by (via_name (update_of g w)) (parts_of g w.term.0 (suc w.term.0))

abbrev pub AreAllWays : Graph → List Way → Type 0
AreAllWays g [] = ⊤
AreAllWays g (w ∷ ws) = IsWay g w × AreAllWays g ws

-- the updates of memories of instruction j
pub record AreWaysFor (g : Graph) (j : ℕ) (i : Instruction) (ws : List Way) : Type 0 where
  pub updates : map (update_of g) ws ≡ memories_for g j i
  pub all_ways : AreAllWays g ws

-- of the first n instructions
pub record AreWaysTo (g : Graph) (is : List Instruction) (n : ℕ) (rows : List (Vec Way Global)) : Type 0 where
  pub many : length rows ≡ n
  pub each : (j : ℕ) (i : Instruction) (d : Vec Way Global) → j < n → slice_get is j ≡ Some i → AreWaysFor g j i (slice_index_or rows j d).items

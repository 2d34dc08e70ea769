-- Which nodes of a model's graph of terms an emitted module has wires for, and what the parts of a model are to keep.
use Rattle.std.specs.Prelude.{ℕ, ◌<◌, ◌^◌, ⊤, Bool, List, [], ◌∷◌, map, length, IsTrue}
use Rattle.model_meaning.specs.Term.{is_sort}
use Rattle.wb_terms.specs.Graph.{Graph, AllBelow, operands_of, names_of}
use Rattle.ila_model.specs.declared.parts.Update.{Update}
use Rattle.ila_model.specs.declared.parts.Instruction.{Instruction}
use Rattle.ila_model.specs.declared.parts.Parts.{Parts}
use Rattle.ila_model.specs.Scope.{tops}
use Rattle.ila_model.specs.Sorted.{sort_at}
use Rattle.emitted_modules.specs.Nodes.{node_at}

-- the operands of each node stand before it
abbrev pub IsOrdered : Graph → Type 0
IsOrdered g = (k : ℕ) → k < length g.nodes → AllBelow k (operands_of (node_at g k))

-- What every store of terms keeps, and a memory of 64 bits: operands stand before their nodes, sorts of names are in range, and there are
-- fewer than 2^64 nodes.
pub record IsStored (g : Graph) : Type 0 where
  pub ordered : IsOrdered g
  pub in_range : (k : ℕ) → k < length g.names → IsTrue (is_sort (sort_at g.names k))
  pub few : length g.nodes < 2 ^ 64

abbrev pub AreKept : (ℕ → Bool) → List ℕ → Type 0
AreKept keep [] = ⊤
AreKept keep (k ∷ ks) = IsTrue (keep k) × AreKept keep ks

abbrev pub updated_terms : List Update → List ℕ
updated_terms us = map (λ u. u.term.0) us

-- the decode conditions of these instructions, and the terms of their updates
abbrev pub AreRead : (ℕ → Bool) → List Instruction → Type 0
AreRead keep [] = ⊤
AreRead keep (i ∷ is) = IsTrue (keep i.decode.0) × AreKept keep (updated_terms i.updates.items) × AreRead keep is

-- The nodes that are kept: those of the conditions and updates, and the operands of each of them. They read states and inputs alone.
pub record IsKept (p : Parts) (keep : ℕ → Bool) : Type 0 where
  pub valid : IsTrue (keep p.valid.0)
  pub instructions : AreRead keep p.instructions.items
  pub operands : (k : ℕ) → k < length p.terms.nodes → IsTrue (keep k) → AreKept keep (operands_of (node_at p.terms k))
  pub names : (k : ℕ) → k < length p.terms.nodes → IsTrue (keep k) → AllBelow (tops p) (names_of (node_at p.terms k))

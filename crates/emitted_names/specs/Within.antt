-- Instructions whose terms stand in the store, and whose states in its table.
use Rattle.std.specs.Prelude.{◌<◌, List, [], ◌∷◌, ⊤, length}
use Rattle.wb_terms.specs.Graph.{Graph}
use Rattle.ila_model.specs.declared.parts.Update.{Update}
use Rattle.ila_model.specs.declared.parts.Instruction.{Instruction}
use Rattle.ila_model.specs.declared.parts.Parts.{Parts}

abbrev pub AreUpdatesWithin : Graph → List Update → Type 0
AreUpdatesWithin g [] = ⊤
AreUpdatesWithin g (u ∷ us) = (u.state.0 < length g.names) × (u.term.0 < length g.nodes) × AreUpdatesWithin g us

pub record IsWithin (g : Graph) (i : Instruction) : Type 0 where
  pub condition : i.decode.0 < length g.nodes
  pub updated : AreUpdatesWithin g i.updates.items

abbrev pub AreWithin : Graph → List Instruction → Type 0
AreWithin g [] = ⊤
AreWithin g (i ∷ is) = IsWithin g i × AreWithin g is

-- The parts' conditions and updates stand in their store.
pub record HasBounds (p : Parts) : Type 0 where
  pub condition : p.valid.0 < length p.terms.nodes
  pub instructed : AreWithin p.terms p.instructions.items

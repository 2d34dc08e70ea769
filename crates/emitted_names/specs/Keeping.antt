-- The terms from which an emitted design is made, and marks at the terms of a list.
use Rattle.std.specs.Prelude.{◌≡◌, ℕ, Bool, true, List, [], ◌∷◌, ◌++◌, map}
use Rattle.wb_terms.specs.declared.nodes.TermId.{TermId}
use Rattle.ila_model.specs.declared.parts.Update.{Update}
use Rattle.ila_model.specs.declared.parts.Instruction.{Instruction}
use Rattle.ila_model.specs.declared.parts.Parts.{Parts}
use Rattle.wanted_terms.specs.Wanted.{IsListed, mark_at}

-- the terms of updates
abbrev pub updated_by : List Update → List TermId
updated_by us = map (λ u. u.term) us

-- the decode conditions of instructions, each with the terms of the instruction's updates
abbrev pub roots_among : List Instruction → List TermId
roots_among [] = []
roots_among (i ∷ is) = i.decode ∷ (updated_by i.updates.items ++ roots_among is)

abbrev pub roots_of : Parts → List TermId
roots_of p = p.valid ∷ roots_among p.instructions.items

-- The marks stand at the first so many terms of the list, and nowhere else.
pub record AreMarks (ids : List TermId) (count : ℕ) (marks : List Bool) : Type 0 where
  pub marked : (k : ℕ) → IsListed ids count k → mark_at marks k ≡ true
  pub listed : (k : ℕ) → mark_at marks k ≡ true → IsListed ids count k

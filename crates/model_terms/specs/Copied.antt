-- What of a machine is copied, and its points after updates.
use Rattle.std.specs.Prelude.{⊤, List, [], ◌∷◌, ◌++◌, map, slice_set}
use Rattle.wb_terms.specs.declared.nodes.TermId.{TermId}
use Rattle.wb_terms.specs.Graph.{Graph}
use Rattle.term_copies.specs.Copies.{copy_of, IsCopy, id_at}
use Rattle.ila_model.specs.declared.parts.Update.{Update}
use Rattle.ila_model.specs.declared.parts.Instruction.{Instruction}

-- the terms of an instruction, and of instructions
abbrev pub terms_of_instruction : Instruction → List TermId
terms_of_instruction i = i.decode ∷ map (λ (u : Update). u.term) i.updates.items

abbrev pub terms_of_instructions : List Instruction → List TermId
terms_of_instructions [] = []
terms_of_instructions (i ∷ is) = terms_of_instruction i ++ terms_of_instructions is

-- These terms have their copies in the store, over the terms of a point.
abbrev pub HasCopies : Graph → Graph → (point copies : List TermId) → List TermId → Type 0
HasCopies g source point copies [] = ⊤
HasCopies g source point copies (t ∷ ts) = IsCopy g source point (id_at copies t.0) t.0 × HasCopies g source point copies ts

-- each updated name has the copy of its term
abbrev pub with_copies : List TermId → List Update → List TermId → List TermId
with_copies copies [] ids = ids
with_copies copies (u ∷ us) ids = with_copies copies us (slice_set ids u.state.0 (copy_of copies u.term))

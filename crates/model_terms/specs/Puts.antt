-- What the terms of single instructions of a model's top say at a point that is terms, and how many of them decode.
use Rattle.std.specs.Prelude.{◌≡◌, ℕ, ⊤, Bool, true, false, cond, List, [], ◌∷◌, length, take, None}
use Rattle.wb_values.specs.Value.{Valuation}
use Rattle.model_meaning.specs.Model.{holds}
use Rattle.model_results.specs.Results.{result_of}
use Rattle.wb_terms.specs.declared.nodes.TermId.{TermId}
use Rattle.wb_terms.specs.Graph.{Graph, tree}
use Rattle.ila_model.specs.declared.parts.Instruction.{Instruction}
use Rattle.ila_model.specs.declared.parts.Parts.{Parts}
use Rattle.ila_child.specs.Start.{started}
use Rattle.model_terms.specs.declared.putting.InstructionTerms.{InstructionTerms}
use Rattle.model_terms.specs.Symbolic.{sees, is_true, IsTest, IsReached}

-- The terms of an instruction say whether it decodes at the point, and where it leads: the results are the first terms of the point reached.
pub record IsPut (g h : Graph) (p : Parts) (point : List TermId) (i : Instruction) (t : InstructionTerms) : Type 0 where
  pub decode_test : IsTest h t.decode.0
  pub decode_value : (v : Valuation) → is_true h t.decode.0 v ≡ holds (tree p.terms i.decode.0) (sees g p None point v)
  pub ids : List TermId
  pub first : t.results.items ≡ take (length p.initial_values.items) ids
  pub reached : IsReached h p None t.ends.0 ids (λ v. result_of (started p i) (sees g p None point v))

-- the same of instructions in order
abbrev pub ArePut : (g h : Graph) → Parts → List TermId → List Instruction → List InstructionTerms → Type 0
ArePut g h p point [] [] = ⊤
ArePut g h p point (i ∷ is) (t ∷ ts) = IsPut g h p point i t × ArePut g h p point is ts
ArePut g h p point _ _ = ⊥

-- the terms that say whether instructions decode are tests
abbrev pub AreDecodes : Graph → List InstructionTerms → Type 0
AreDecodes g [] = ⊤
AreDecodes g (t ∷ ts) = IsTest g t.decode.0 × AreDecodes g ts

abbrev pub none_of : List Bool → Bool
none_of [] = true
none_of (b ∷ bs) = cond b false (none_of bs)

abbrev pub exactly_one : List Bool → Bool
exactly_one [] = false
exactly_one (b ∷ bs) = cond b (none_of bs) (exactly_one bs)

-- Results of the programs of a model in terms, by the places of its parts, and what single turns of them add.
use Rattle.std.specs.Prelude.{◌≡◌, ℕ, Bool, true, false, cond, ◌&&◌, List, Option}
use Rattle.wb_values.specs.Value.{Sort, Entries, Valuation}
use Rattle.model_meaning.specs.Model as pure
use Rattle.model_results.specs.Results.{none_decodes, one_result}
use Rattle.wb_terms.specs.declared.nodes.TermId.{TermId}
use Rattle.wb_terms.specs.Graph.{Graph}
use Rattle.ila_model.specs.declared.parts.Instruction.{Instruction}
use Rattle.ila_model.specs.declared.parts.Parts.{Parts}
use Rattle.ila_model.specs.Meaning.{instructions_of}
use Rattle.ila_child.specs.Running.{program_in}
use Rattle.term_copies.specs.Copies.{IsExtended, AreLeaves, IsCopy}
use Rattle.model_terms.specs.Symbolic.{worths, is_true, IsTest, IsReached}

-- the instructions of a machine that has so many children around it, itself included
abbrev pub pure_instructions : Parts → (depth : ℕ) → List Instruction → pure.Instructions
pure_instructions p d is = instructions_of p.terms (program_in p d) is

-- The terms say at points x whether none of the instructions decodes, and where the one leads that alone decodes.
pub record IsTaken (g : Graph) (p : Parts) (at : Option ℕ) (depth : ℕ) (is : List Instruction) (none ended : ℕ) (point : List TermId) (x : Valuation → Valuation) : Type 0 where
  pub none_test : IsTest g none
  pub is_none : (v : Valuation) → is_true g none v ≡ none_decodes (pure_instructions p depth is) (x v)
  pub reached : IsReached g p at ended point (λ v. one_result (pure_instructions p depth is) (x v))

-- where some steps lead, as three values
pub record Led : Type 0 where
  pub none : ℕ
  pub ended : ℕ
  pub point : List TermId

-- An instruction added before others: it decodes, and then it is taken if none of them does, or they are.
pub record IsAdded (g h : Graph) (names : Entries Sort) (decode : ℕ) (one rest both : Led) : Type 0 where
  pub none_test : IsTest h both.none
  pub ended_test : IsTest h both.ended
  pub leaves : AreLeaves h names both.point
  pub none_value : (v : Valuation) → is_true h both.none v ≡ cond (is_true g decode v) false (is_true g rest.none v)
  pub ended_value : (v : Valuation) → is_true h both.ended v ≡ cond (is_true g decode v) (is_true g rest.none v && is_true g one.ended v) (is_true g rest.ended v)
  pub point_value : (v : Valuation) → worths h both.point v ≡ cond (is_true g decode v) (worths g one.point v) (worths g rest.point v)

-- A turn added after others: where the valid condition holds, what was taken, and else nothing.
pub record IsTurned (g h : Graph) (names : Entries Sort) (valid : ℕ) (taken before after : Led) : Type 0 where
  pub ended_test : IsTest h after.ended
  pub leaves : AreLeaves h names after.point
  pub ended_value : (v : Valuation) → is_true h after.ended v ≡ (is_true g before.ended v && cond (is_true g valid v) (is_true g taken.ended v) true)
  pub point_value : (v : Valuation) → worths h after.point v ≡ cond (is_true g valid v) (worths g taken.point v) (worths g before.point v)

-- The end of a run: the valid condition is copied over its last point, and it ended if that fails.
pub record IsEnding (g h source : Graph) (valid : ℕ) (ended : ℕ) (point : List TermId) (after : ℕ) (ids : List TermId) : Type 0 where
  pub middle : Graph
  pub copy : ℕ
  pub first : IsExtended g middle
  pub second : IsExtended middle h
  pub copied : IsCopy middle source point copy valid
  pub same : ids ≡ point
  pub test : IsTest h after
  pub value : (v : Valuation) → is_true h after v ≡ cond (is_true middle copy v) false (is_true middle ended v)

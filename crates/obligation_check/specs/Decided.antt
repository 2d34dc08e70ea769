-- What is found of obligations and covers, for each setting that a model, and a design with a map, are of.
use Rattle.std.specs.Prelude.{◌≡◌, ℕ, List, slice_get, Some}
use Rattle.model_meaning.specs.Model.{Model, Instruction}
use Rattle.model_meaning.specs.Instruction.{IsInstruction}
use Rattle.verilog_designs.specs.Accepted.{IsAccepted}
use Rattle.verilog_exists.specs.Exists.{IsOfText}
use Rattle.refinement.specs.Map.{Setting, design_of}
use Rattle.refinement.specs.Soundness.{IsComplete}
use Rattle.reports.specs.Report.{IsCover}
use Rattle.mapped_designs.specs.Mapped.{Mapped}
use Rattle.mapped_designs.specs.Broken.{HasCountsOf}
use Rattle.mapped_designs.specs.Meaning.{IsMappedBy}
use Rattle.mapped_runs.specs.Sound.{IsSoundDesign}
use Rattle.mapped_runs.specs.Breaking.{IsWithinCycles}
use Rattle.obligation_lists.specs.Claims.{obligation_of}
use Rattle.obligation_lists.specs.declared.claims.Obligation.{Obligation}
use Rattle.obligation_terms.specs.Asked.{IsStated}
use Rattle.obligation_check.specs.Found.{IsFoundOf, cover_by}
use Rattle.obligation_check.specs.declared.findings.Finding.{Finding}

-- The setting is that of a model and of a design with a map: its design is accepted and of a text, the terms are those of its map, and the
-- map has an entry for each instruction.
pub record IsSettingBy (m : Model) (e : Mapped) (s : Setting) : Type 0 where
  pub model : s.model ≡ m
  pub accepted : IsAccepted (design_of s)
  pub of_text : IsOfText (design_of s)
  pub mapped : IsMappedBy s e
  pub sound : IsSoundDesign e.parts
  pub counts : HasCountsOf s.map e
  pub complete : IsComplete s

-- each obligation of a list speaks of what is there
abbrev pub AreStated : Model → Mapped → List Obligation → Type 0
AreStated m e os = (k : ℕ) (o : Obligation) → slice_get os k ≡ Some o → IsStated m e o

-- what is found of an obligation
abbrev pub IsFoundBy : Model → Mapped → (budget : ℕ) → Obligation → Finding → Type 0
IsFoundBy m e budget o x =
    (s : Setting) → IsSettingBy m e s → IsWithinCycles (obligation_of s.map o) → IsFoundOf s e.parts budget (obligation_of s.map o) x

-- and of the first ones of a list
abbrev pub AreFoundBy : Model → Mapped → (budget : ℕ) → List Obligation → List Finding → Type 0
AreFoundBy m e budget os xs = (k : ℕ) (o : Obligation) (x : Finding) → slice_get os k ≡ Some o → slice_get xs k ≡ Some x → IsFoundBy m e budget o x

-- what is found of the cover of instruction number j
abbrev pub IsCoveredBy : Model → Mapped → (budget j : ℕ) → Finding → Type 0
IsCoveredBy m e budget j x =
    (s : Setting) → IsSettingBy m e s → (i : Instruction) → IsInstruction s.model j i
    → IsCover s budget j i (cover_by e.parts x)

-- and of the first covers
abbrev pub AreCoveredBy : Model → Mapped → (budget : ℕ) → List Finding → Type 0
AreCoveredBy m e budget xs = (j : ℕ) (x : Finding) → slice_get xs j ≡ Some x → IsCoveredBy m e budget j x

-- What is told of the files of a check: the setting that they stand for, as a model and a design with its map; or the first kind that
-- refuses them.
use Rattle.std.specs.Prelude.{◌≡◌, ℕ, List, Some}
use Rattle.verilog_designs.specs.Accepted.{IsAccepted}
use Rattle.verilog_exists.specs.Exists.{IsOfText}
use Rattle.refinement.specs.Map.{Setting, design_of}
use Rattle.refinement.specs.Soundness.{IsComplete}
use Rattle.ila_model.specs.declared.model.IlaModel.{IlaModel}
use Rattle.ila_model.specs.Model.{model_of}
use Rattle.ila_rules.specs.Rule as model_rules
use Rattle.map_file.specs.Rule as map_rules
use Rattle.v_lex.specs.Reading.{refusal_of}
use Rattle.v_judged.specs.Refusal.{kind_of}
use Rattle.mapped_designs.specs.declared.design.MappedDesign.{MappedDesign}
use Rattle.mapped_designs.specs.Mapped.{IsSortedFor}
use Rattle.mapped_designs.specs.Broken.{HasCountsOf}
use Rattle.mapped_designs.specs.Meaning.{IsMappedBy}
use Rattle.mapped_designs.specs.View.{mapped_of}
use Rattle.mapped_runs.specs.Sound.{IsSoundDesign}
use Rattle.check_cases.specs.Kinds.{text_kind, tree_kind, kind_name}
use Rattle.check_cases.specs.Files.{IsSettingOf, IsKindOfFiles}
use Rattle.read_cases.specs.declared.case.FilesCase.{FilesCase}
use Rattle.read_cases.specs.declared.case.FilesCase.TheVariants as cases

-- A case is that of the setting that the files stand for: its model, and its design with its map as terms. The design is accepted and of a
-- text; the terms are those of the map and of the model's sorts; the edge of the clock keeps sorts; and the map has an entry for each
-- instruction.
pub record IsCaseOf (m p : List ℕ) (ds : List (List ℕ)) (read : IlaModel) (design : MappedDesign) : Type 0 where
  pub setting : Setting
  pub is_setting : IsSettingOf m p ds setting
  pub model : setting.model ≡ model_of read
  pub accepted : IsAccepted (design_of setting)
  pub of_text : IsOfText (design_of setting)
  pub mapped : IsMappedBy setting (mapped_of design)
  pub sound : IsSoundDesign (mapped_of design).parts
  pub counts : HasCountsOf setting.map (mapped_of design)
  pub complete : IsComplete setting
  pub sorted : IsSortedFor (model_of read) (mapped_of design)

-- The case of the files, or a refusal by the first kind that refuses them.
abbrev pub IsTold : List ℕ → List ℕ → List (List ℕ) → FilesCase → Type 0
IsTold m p ds (cases.Case model mapped) = IsCaseOf m p ds model mapped
IsTold m p ds (cases.Model r) = IsKindOfFiles m p ds (Some (model_rules.rule_name (model_rules.rule_view r.rule)))
IsTold m p ds (cases.MapFile r) = IsKindOfFiles m p ds (Some (map_rules.rule_name (map_rules.rule_view r.rule)))
IsTold m p ds (cases.Text r) = IsKindOfFiles m p ds (Some (text_kind (refusal_of r.kind)))
IsTold m p ds (cases.Tokens note) = IsKindOfFiles m p ds (Some tree_kind)
IsTold m p ds (cases.Design kind) = IsKindOfFiles m p ds (Some (kind_name (kind_of kind)))

-- What the files of a check stand for, and the first kind that refuses them.
use Rattle.std.specs.Prelude.{◌≡◌, ℕ, List, Option, Some, None, Ok, Err}
use Rattle.model_meaning.specs.Model.{Model}
use Rattle.model_files.specs.Meaning as models
use Rattle.model_files.specs.Meaning.{ModelRule, model_reading, stands_for}
use Rattle.ila_rules.specs.Rule as model_rules
use Rattle.map_files.specs.Written.{WrittenMap}
use Rattle.map_files.specs.Meaning as maps
use Rattle.map_files.specs.Meaning.{MapRule, map_reading, SaysMap}
use Rattle.map_file.specs.Rule as map_rules
use Rattle.map_rules.specs.Case.{case_design}
use Rattle.map_rules.specs.Accepted.{IsMapRefusedBy, case_of, MapOf}
use Rattle.verilog_text.specs.Token.{Token}
use Rattle.verilog_text.specs.Text.{Refusal, tokens_in}
use Rattle.verilog_text.specs.Grammar.{IsSource, IsTreeOf}
use Rattle.verilog_trees.specs.Syntax.{Source}
use Rattle.verilog_designs.specs.Accepted.{DesignKind, IsAccepted, IsRefusedBy}
use Rattle.refinement.specs.Map.{Setting, design_of}
use Rattle.check_cases.specs.Kinds.{text_kind, tree_kind, kind_name}

-- The bytes of a model file, of a map file and of Verilog files stand for a model, a source and a map: the model file for the model, the
-- Verilog files together for the source; the design that the map names in it is accepted; and the map file is accepted for both, and
-- stands for the map.
pub record IsSettingOf (model_bytes map_bytes : List ℕ) (designs : List (List ℕ)) (s : Setting) : Type 0 where
  pub is_model : model_reading model_bytes ≡ stands_for s.model
  pub is_tree : IsTreeOf designs s.source
  pub is_accepted : IsAccepted (design_of s)
  pub is_map : MapOf map_bytes s.model s.source s.map

-- ---- the first kind that refuses them

-- The model file stands for this model, and no rule on the map file alone refuses it: it says this.
pub record SayModelAndMap (model_bytes map_bytes : List ℕ) (m : Model) (w : WrittenMap) : Type 0 where
  pub is_model : model_reading model_bytes ≡ stands_for m
  pub says : SaysMap map_bytes w

-- Besides, the Verilog files have this tree.
pub record HaveTree (model_bytes map_bytes : List ℕ) (designs : List (List ℕ)) (m : Model) (w : WrittenMap) (ms : Source) : Type 0 where
  pub are_said : SayModelAndMap model_bytes map_bytes m w
  pub is_tree : IsTreeOf designs ms

-- The name of the first kind that refuses the files of a check, or None where no kind does. In their order: a rule on the model file; a
-- rule on the map file alone; that the Verilog files have no tokens; that their tokens have no tree; a rule on the design that the map
-- names; a rule on the map, for the model and the design.
pub data IsKindOfFiles (m p : List ℕ) (ds : List (List ℕ)) : Option (List ℕ) → Type 0 where
  of_model : (rule : ModelRule) → model_reading m ≡ models.refused_by rule → IsKindOfFiles m p ds (Some (model_rules.rule_name rule))
  of_map_file : (q : Model) (rule : MapRule) → model_reading m ≡ stands_for q → map_reading p ≡ maps.refused_by rule
      → IsKindOfFiles m p ds (Some (map_rules.rule_name rule))
  of_text : (q : Model) (w : WrittenMap) (r : Refusal) → SayModelAndMap m p q w → tokens_in ds ≡ Err r → IsKindOfFiles m p ds (Some (text_kind r))
  of_tokens : (q : Model) (w : WrittenMap) (text : List Token) → SayModelAndMap m p q w → tokens_in ds ≡ Ok text → ((ms : Source) → ¬ IsSource ms text)
      → IsKindOfFiles m p ds (Some tree_kind)
  of_design : (q : Model) (w : WrittenMap) (ms : Source) (k : DesignKind) → HaveTree m p ds q w ms → IsRefusedBy (case_design (case_of w q ms)) k
      → IsKindOfFiles m p ds (Some (kind_name k))
  of_map : (q : Model) (w : WrittenMap) (ms : Source) (rule : MapRule) → HaveTree m p ds q w ms → IsAccepted (case_design (case_of w q ms))
      → IsMapRefusedBy (case_of w q ms) rule → IsKindOfFiles m p ds (Some (map_rules.rule_name rule))
  of_none : (s : Setting) → IsSettingOf m p ds s → IsKindOfFiles m p ds None

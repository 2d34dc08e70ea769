use Rattle.std.proofs.Common.{ℕ, List, map}
use Rattle.ila_model.specs.Model.{model_of}
use Rattle.map_rules.specs.Case.{case_design}
use Rattle.map_rules.specs.Accepted.{case_of}
use Rattle.map_file.specs.View.{map_view}
use Rattle.v_token.specs.View.{tokens_of}
use Rattle.v_syntax.specs.Source.{source_of}
use Rattle.check_cases.specs.Files.{IsKindOfFiles, SayModelAndMap, HaveTree}
use Rattle.read_cases.specs.Told.{IsTold}
use Rattle.read_cases.proofs.Staged.{told_as}
use Rattle.read_cases.proofs.case.of_tokens.Goals as goal

pub of_tree-requires : goal.of_tree-requires
of_tree-requires c =
    c.trees_are_of_texts.ensures (map (λ d. d.items) c.args.designs.now)
    (case_design (case_of (map_view c.args.written.now) (model_of c.args.model) (source_of c.in-Ok.tree)))
    (record { tokens = tokens_of c.args.tokens.now; are_tokens = c.requires; is_source = c.in-Ok.ensures.spelled })

pub returns-in-Ok : goal.returns-in-Ok
returns-in-Ok c =
    told_as
    {P = λ t. (m p : List ℕ) (ds : List (List ℕ)) → HaveTree m p ds (model_of c.args.model) (map_view c.args.written.now) (source_of c.in-Ok.tree) → IsTold m p ds t}
    {Q = λ t. (m p : List ℕ) → SayModelAndMap m p (model_of c.args.model) (map_view c.args.written.now) → IsTold m p (map (λ d. d.items) c.args.designs.now) t}
    _
    (λ t h m p said. h m p (map (λ d. d.items) c.args.designs.now)
    (record { are_said = said; is_tree = record { tokens = tokens_of c.args.tokens.now; are_tokens = c.requires; is_source = c.in-Ok.ensures.spelled } }))
    c.of_tree.ensures

pub returns-in-Some : goal.returns-in-Some
returns-in-Some c =
    λ m p said. IsKindOfFiles.of_tokens (model_of c.args.model) (map_view c.args.written.now) (tokens_of c.args.tokens.now) said c.requires
    (rw c.in-Err-Refused.field-0-is at c.in-Err-Refused.ensures.spelled)

use Rattle.std.proofs.Common.{◌≡◌, ℕ, List, map, subst, sym}
use Rattle.model_files.specs.Meaning.{model_reading, stands_for}
use Rattle.ila_model.specs.Model.{model_of}
use Rattle.map_file.specs.Rule.{rule_view}
use Rattle.map_file.specs.View.{map_view}
use Rattle.check_cases.specs.Files.{IsKindOfFiles, SayModelAndMap}
use Rattle.read_cases.specs.Told.{IsTold}
use Rattle.read_cases.proofs.Staged.{told_as}
use Rattle.read_cases.proofs.case.of_map_file.Goals as goal

pub returns-in-Ok : goal.returns-in-Ok
returns-in-Ok c =
    told_as
    {P = λ t. (m p : List ℕ) → SayModelAndMap m p (model_of c.args.model) (map_view c.map.result.now) → IsTold m p (map (λ d. d.items) c.args.designs.now) t}
    {Q = λ t. (m : List ℕ) → model_reading m ≡ stands_for (model_of c.args.model) → IsTold m c.args.map_file.now (map (λ d. d.items) c.args.designs.now) t}
    _
    (λ t h m is. h m c.args.map_file.now (subst (SayModelAndMap m c.args.map_file.now (model_of c.args.model)) (sym c.map.ensures) (record { is_model = is; says = c.in-Ok.ensures.reading })))
    c.of_text.ensures

pub returns-in-Err-Refused : goal.returns-in-Err-Refused
returns-in-Err-Refused c =
    let said = rw c.in-Err-Refused.field-0-is at c.in-Err-Refused.ensures.reading in
    rw c.in-Err-Refused.field-0-is (λ m is. IsKindOfFiles.of_map_file (model_of c.args.model) (rule_view c.in-Err-Refused.refusal.rule) is said)

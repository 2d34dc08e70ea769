use Rattle.std.proofs.Common.{◌≡◌, ℕ, List, map}
use Rattle.model_files.specs.Meaning.{model_reading, stands_for}
use Rattle.ila_model.specs.Model.{model_of}
use Rattle.ila_rules.specs.Rule.{rule_view}
use Rattle.check_cases.specs.Files.{IsKindOfFiles}
use Rattle.read_cases.specs.Told.{IsTold}
use Rattle.read_cases.proofs.Staged.{told_as}
use Rattle.read_cases.proofs.case.case_of_files.Goals as goal

pub returns-in-Ok : goal.returns-in-Ok
returns-in-Ok c =
    told_as
    {P = λ t. (m : List ℕ) → model_reading m ≡ stands_for (model_of c.in-Ok.read) → IsTold m c.args.map_file.now (map (λ d. d.items) c.args.designs.now) t}
    {Q = IsTold c.args.model.now c.args.map_file.now (map (λ d. d.items) c.args.designs.now)}
    _ (λ t h. h c.args.model.now c.in-Ok.ensures.reading) c.of_map_file.ensures

pub returns-in-Err-Refused : goal.returns-in-Err-Refused
returns-in-Err-Refused c =
    let said = rw c.in-Err-Refused.field-0-is at c.in-Err-Refused.ensures.reading in
    rw c.in-Err-Refused.field-0-is (IsKindOfFiles.of_model (rule_view c.in-Err-Refused.refusal.rule) said)

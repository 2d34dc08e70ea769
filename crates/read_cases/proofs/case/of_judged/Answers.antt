use Rattle.std.proofs.Common.{sym, subst}
use Rattle.ila_model.specs.Model.{model_of}
use Rattle.map_file.specs.View.{map_view}
use Rattle.map_rules.specs.Case.{case_design}
use Rattle.map_rules.specs.Accepted.{case_of}
use Rattle.map_judged.specs.Known.{StandsAt}
use Rattle.v_judged.specs.Refusal.{kind_of}
use Rattle.v_places.specs.Views.{spots_of}
use Rattle.v_syntax.specs.Source.{source_of}
use Rattle.check_cases.specs.Files.{IsKindOfFiles}
use Rattle.read_cases.proofs.Staged.{stands}
use Rattle.read_cases.proofs.case.of_judged.Goals as goal

pub returns-in-Refused : goal.returns-in-Refused
returns-in-Refused c =
    λ m p ds h. IsKindOfFiles.of_design (model_of c.args.model) (map_view c.args.written.now) (source_of c.args.tree.now) (kind_of c.in-Refused.kind) h
    (rw c.in-Refused.is at c.requires.judged)

pub of_places-requires : goal.of_places-requires
of_places-requires c =
    let d = case_design (case_of (map_view c.args.written.now) (model_of c.args.model) (source_of c.args.tree.now)) in
    subst (λ places. StandsAt d (spots_of places)) (sym c.as_mut_slice.ensures.value)
    (stands d (spots_of c.in-Accepted.places.items) c.requires.of_text (rw c.in-Accepted.is at c.requires.judged))

pub returns-in-Accepted : goal.returns-in-Accepted
returns-in-Accepted c = c.of_places.ensures

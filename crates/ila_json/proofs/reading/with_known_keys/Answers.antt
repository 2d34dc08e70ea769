use Rattle.std.proofs.Common.{ap, sym, ◌∙◌}
use Rattle.serde_json.specs.View.{view}
use Rattle.ila_file.specs.Places.{note_text, found_text}
use Rattle.ila_file.specs.View.{model_view}
use Rattle.ila_rules.specs.Rule.{rule_view}
use Rattle.ila_json.proofs.Notes.{later_found}
use Rattle.ila_json.proofs.Refusals.{note_of_key}
use Rattle.ila_json.proofs.reading.with_known_keys.Goals as goal

pub returns-in-Some-clause-note : goal.returns-in-Some-clause-note
returns-in-Some-clause-note c =
    note_of_key (rule_view c.refused.result.rule) (view c.args.value.now) (model_view c.args.written.now) (note_text c.refused.result.note) (note_text c.in-Some.note) c.refused.ensures.rule
    c.refused.ensures.note (ap found_text (sym c.in-Some.is) ∙ c.in_ok-note.ensures.note)

pub returns-in_ok-found-in-None-clause-note : goal.returns-in_ok-found-in-None-clause-note
returns-in_ok-found-in-None-clause-note c = later_found (view c.args.value.now) (model_view c.args.written.now) c.in_ok-found-in-None.found c.in_ok-found-in-None.ensures.note

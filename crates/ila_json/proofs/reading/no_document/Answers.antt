use Rattle.ila_file.specs.Places.{note_text}
use Rattle.ila_rules.specs.Rule.{rule_view}
use Rattle.ila_json.proofs.Refusals.{note_of_json}
use Rattle.ila_json.proofs.reading.no_document.Goals as goal

pub returns-in-Ok-clause-note : goal.returns-in-Ok-clause-note
returns-in-Ok-clause-note c o = note_of_json (rule_view c.refused.result.rule) o (note_text c.refused.result.note) c.refused.ensures.rule

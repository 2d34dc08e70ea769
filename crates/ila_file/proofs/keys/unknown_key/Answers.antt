use Rattle.serde_json.specs.View.{view}
use Rattle.ila_file.proofs.KeyNotes.{is_found}
use Rattle.ila_file.proofs.keys.unknown_key.Goals as goal

pub returns-clause-found : goal.returns-clause-found
returns-clause-found c = is_found (view c.args.value.now) c.in_ok-note.note c.in_ok-note.ensures
